-- The table has the class of each byte.
use Rattle.std.proofs.Common.{◌∙◌, arith}
use Rattle.ir_lex.proofs.Table.{is_word_byte_at}
use Rattle.ir_lex.proofs.bytes.is_word_byte.Goals as goal

pub returns : goal.returns
returns c = c.is_word.ensures ∙ is_word_byte_at _ c.args.byte (omega arith)
