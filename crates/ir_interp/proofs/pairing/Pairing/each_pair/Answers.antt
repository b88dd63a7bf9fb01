use Rattle.std.proofs.Common.{arith}
use Rattle.ir_interp.specs.Pairing.{lanewise}
use Rattle.ir_interp.proofs.Partners.{each_pair-short}
use Rattle.ir_interp.proofs.pairing.Pairing.each_pair.Goals as goal

pub returns-in_default : goal.returns-in_default
returns-in_default c =
    each_pair-short (lanewise c.args.self) c.loop-a.done c.args.left.now c.loop-a.a-index c.loop-a.rest.now _ (omega arith) (omega arith) c.loop-a.invariant
