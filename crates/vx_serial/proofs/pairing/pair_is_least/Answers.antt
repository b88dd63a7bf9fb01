use Rattle.vx_serial.proofs.Least.{joins_least}
use Rattle.vx_serial.proofs.pairing.pair_is_least.Goals as goal

pub returns : goal.returns
returns c = λ leads insts. joins_least insts leads
