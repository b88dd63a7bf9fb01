use Rattle.std.proofs.Common.{◌≡◌, ◌+◌, length}
use Rattle.vx_serial.specs.Legal.{reused}
use Rattle.vx_legal.proofs.bundle.reused.Given as goal

abbrev pub invariant-loop-left : goal.invariant-loop-left
invariant-loop-left l = (reused l.number l.lanes l.left ≡ reused 0 l.lanes l.fn.tree) × (l.number + length l.left ≡ length l.fn.tree)

abbrev pub decreases-loop-left : goal.decreases-loop-left
decreases-loop-left l = length l.left
