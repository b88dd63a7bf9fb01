use Rattle.std.proofs.Common.{◌≡◌, length}
use Rattle.vx_serial.specs.Legal.{is_taken}
use Rattle.vx_legal.proofs.bundle.is_taken.Given as goal

abbrev pub invariant-loop-left : goal.invariant-loop-left
invariant-loop-left l = is_taken l.left l.lane ≡ is_taken l.fn.tree l.lane

abbrev pub decreases-loop-left : goal.decreases-loop-left
decreases-loop-left l = length l.left
