use Rattle.std.proofs.Common.{◌≡◌, length}
use Rattle.vx_deps.specs.Orders.{from_member}
use Rattle.vx_deps.proofs.ordering.from_member.Given as goal

abbrev pub invariant-loop-left : goal.invariant-loop-left
invariant-loop-left l = from_member l.bundles l.left ≡ from_member l.bundles l.fn.ids

abbrev pub decreases-loop-left : goal.decreases-loop-left
decreases-loop-left l = length l.left
