-- An empty line changes nothing.
use Rattle.std.proofs.Common.{sym, ◌∙◌}
use Rattle.ir_read.proofs.EmptyLines.{empty_judged}
use Rattle.ir_read.proofs.reader.judge_line.Goals as goal

pub returns-then-is_empty : goal.returns-then-is_empty
returns-then-is_empty c = empty_judged _ _ _ _ _ (sym c.is_empty.ensures ∙ c.if-is_empty.true)
