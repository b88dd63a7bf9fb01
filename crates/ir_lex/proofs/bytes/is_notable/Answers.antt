-- The table has the class of each byte.
use Rattle.std.proofs.Common.{◌∙◌, arith}
use Rattle.ir_lex.proofs.Table.{is_notable_at}
use Rattle.ir_lex.proofs.bytes.is_notable.Goals as goal

pub returns : goal.returns
returns c = c.is_notable.ensures ∙ is_notable_at _ c.args.byte (omega arith)
