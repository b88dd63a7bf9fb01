use Rattle.std.proofs.Common.{◌≡◌, ◌++◌, length}
use Rattle.vx_deps.specs.Orders.{ids_at}
use Rattle.vx_deps.proofs.window.ids_at.Given as goal

abbrev pub invariant-loop-left : goal.invariant-loop-left
invariant-loop-left l = l.there ++ ids_at l.ids l.left ≡ ids_at l.ids l.fn.places

abbrev pub decreases-loop-left : goal.decreases-loop-left
decreases-loop-left l = length l.left
