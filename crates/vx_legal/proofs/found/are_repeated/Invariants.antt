use Rattle.std.proofs.Common.{◌≡◌, length}
use Rattle.vx_serial.specs.Legal.{are_repeated}
use Rattle.vx_legal.specs.Found.{there}
use Rattle.vx_legal.proofs.found.are_repeated.Given as goal

abbrev pub invariant-loop-left : goal.invariant-loop-left
invariant-loop-left l = are_repeated (there l.left) ≡ are_repeated (there l.fn.found)

abbrev pub decreases-loop-left : goal.decreases-loop-left
decreases-loop-left l = length l.left
