use Rattle.std.proofs.Common.{◌≡◌, length}
use Rattle.vx_deps.specs.Reach.{has_all}
use Rattle.vx_deps.proofs.search.has_all.Given as goal

abbrev pub invariant-loop-left : goal.invariant-loop-left
invariant-loop-left l = has_all l.ids l.left ≡ has_all l.ids l.fn.stores

abbrev pub decreases-loop-left : goal.decreases-loop-left
decreases-loop-left l = length l.left
