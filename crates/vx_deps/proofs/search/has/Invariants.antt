use Rattle.std.proofs.Common.{◌≡◌, length}
use Rattle.vx_deps.specs.Reach.{has}
use Rattle.vx_deps.proofs.search.has.Given as goal

abbrev pub invariant-loop-left : goal.invariant-loop-left
invariant-loop-left l = has l.left l.id ≡ has l.fn.ids l.id

abbrev pub decreases-loop-left : goal.decreases-loop-left
decreases-loop-left l = length l.left
