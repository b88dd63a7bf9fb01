use Rattle.std.proofs.Common.{◌≡◌, ◌+◌, length}
use Rattle.vx_deps.specs.Orders.{place_of}
use Rattle.vx_deps.proofs.window.place_of.Given as goal

abbrev pub invariant-loop-left : goal.invariant-loop-left
invariant-loop-left l = record {
  place : l.at + place_of l.left l.id ≡ place_of l.fn.ids l.id;
  count : l.at + length l.left ≡ length l.fn.ids;
}

abbrev pub decreases-loop-left : goal.decreases-loop-left
decreases-loop-left l = length l.left
