-- The table has the class of each byte.
use Rattle.std.proofs.Common.{◌∙◌, arith}
use Rattle.ir_lex.proofs.Table.{is_control_at}
use Rattle.ir_lex.proofs.bytes.is_control.Goals as goal

pub returns : goal.returns
returns c = c.is_control.ensures ∙ is_control_at _ c.args.byte (omega arith)
