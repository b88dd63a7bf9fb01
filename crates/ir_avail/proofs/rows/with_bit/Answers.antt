use Rattle.ir_avail.proofs.Bits.{set_bit}
use Rattle.ir_avail.proofs.rows.with_bit.Goals as goal

pub returns : goal.returns
returns c other set = set_bit c.args.word c.args.column other c.requires set
