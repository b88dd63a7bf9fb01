use Rattle.std.proofs.Common.{◌≡◌, ◌+◌, ◌++◌, length}
use Rattle.vx_deps.specs.Orders.{singles}
use Rattle.vx_deps.proofs.window.push_singles.Given as goal

abbrev pub invariant-loop-left : goal.invariant-loop-left
invariant-loop-left l = record {
  groups : l.groups ++ singles l.bundles l.at l.left ≡ l.fn.groups ++ singles l.bundles 0 l.fn.ids;
  count : l.at + length l.left ≡ length l.fn.ids;
}

abbrev pub decreases-loop-left : goal.decreases-loop-left
decreases-loop-left l = length l.left
