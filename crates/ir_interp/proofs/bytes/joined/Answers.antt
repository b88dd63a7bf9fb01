use Rattle.std.proofs.Common.{arith}
use Rattle.ir_interp.proofs.Bits.{byte_below}
use Rattle.ir_interp.proofs.bytes.joined.Goals as goal

pub returns-clause-bound : goal.returns-clause-bound
returns-clause-bound c = λ k below. byte_below k c.from.result c.args.high (omega arith) below
