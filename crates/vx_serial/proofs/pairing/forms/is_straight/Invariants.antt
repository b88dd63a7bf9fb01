use Rattle.std.proofs.Common.{◌≡◌, length}
use Rattle.vx_serial.specs.Pair.{is_straight}
use Rattle.vx_serial.proofs.pairing.forms.is_straight.Given as goal

abbrev pub invariant-loop-rest : goal.invariant-loop-rest
invariant-loop-rest l = is_straight l.rest ≡ is_straight l.fn.insts

abbrev pub decreases-loop-rest : goal.decreases-loop-rest
decreases-loop-rest l = length l.rest
