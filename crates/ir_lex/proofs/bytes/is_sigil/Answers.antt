-- The table has the class of each byte.
use Rattle.std.proofs.Common.{◌∙◌, arith}
use Rattle.ir_lex.proofs.Table.{is_sigil_at}
use Rattle.ir_lex.proofs.bytes.is_sigil.Goals as goal

pub returns : goal.returns
returns c = c.is_sigil.ensures ∙ is_sigil_at _ c.args.byte (omega arith)
