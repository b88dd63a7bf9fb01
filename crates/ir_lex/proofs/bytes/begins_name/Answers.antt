-- The table has the class of each byte.
use Rattle.std.proofs.Common.{◌∙◌, arith}
use Rattle.ir_lex.proofs.Table.{begins_name_at}
use Rattle.ir_lex.proofs.bytes.begins_name.Goals as goal

pub returns : goal.returns
returns c = c.is_name.ensures ∙ begins_name_at _ c.args.byte (omega arith)
