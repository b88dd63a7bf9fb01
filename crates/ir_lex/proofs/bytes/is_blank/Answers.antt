-- The table has the class of each byte.
use Rattle.std.proofs.Common.{◌∙◌, arith}
use Rattle.ir_lex.proofs.Table.{is_blank_at}
use Rattle.ir_lex.proofs.bytes.is_blank.Goals as goal

pub returns : goal.returns
returns c = c.is_blank.ensures ∙ is_blank_at _ c.args.byte (omega arith)
