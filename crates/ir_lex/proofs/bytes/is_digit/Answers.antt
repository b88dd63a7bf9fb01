-- The table has the class of each byte.
use Rattle.std.proofs.Common.{◌∙◌, arith}
use Rattle.ir_lex.proofs.Table.{is_digit_at}
use Rattle.ir_lex.proofs.bytes.is_digit.Goals as goal

pub returns : goal.returns
returns c = c.is_digit.ensures ∙ is_digit_at _ c.args.byte (omega arith)
