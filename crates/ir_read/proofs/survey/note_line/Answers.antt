-- A line inside a function leaves what is known as it was, and so does an empty one.
use Rattle.std.proofs.Common.{sym, ◌∙◌}
use Rattle.ir_read.proofs.EmptyLines.{empty_seen}
use Rattle.ir_read.proofs.InsideLines.{seen_inside}
use Rattle.ir_read.proofs.survey.note_line.Goals as goal

pub returns-then-inside : goal.returns-then-inside
returns-then-inside c = rw c.if-inside.true (seen_inside _ _ _ _ c.note_inside.ensures)

pub returns-then-is_empty : goal.returns-then-is_empty
returns-then-is_empty c = empty_seen _ _ _ _ c.if-inside.false (sym c.is_empty.ensures ∙ c.if-is_empty.true)
