-- The table has the class of each byte.
use Rattle.std.proofs.Common.{◌∙◌, arith}
use Rattle.ir_lex.proofs.Table.{is_mark_at}
use Rattle.ir_lex.proofs.bytes.is_mark.Goals as goal

pub returns : goal.returns
returns c = c.is_mark.ensures ∙ is_mark_at _ c.args.byte (omega arith)
