use Rattle.std.proofs.Common.{◌≡◌, length}
use Rattle.vx_deps.specs.Graphs.{uses}
use Rattle.vx_deps.proofs.node.uses.Given as goal

abbrev pub invariant-loop-left : goal.invariant-loop-left
invariant-loop-left l = uses l.id l.left ≡ uses l.id l.fn.opds

abbrev pub decreases-loop-left : goal.decreases-loop-left
decreases-loop-left l = length l.left
