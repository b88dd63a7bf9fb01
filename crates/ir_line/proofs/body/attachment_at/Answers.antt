-- A line without `!` has no attachments.
use Rattle.std.proofs.Common.{sym}
use Rattle.ir_line.proofs.MarkedLines.{unmarked}
use Rattle.ir_line.proofs.body.attachment_at.Goals as goal

pub returns-in-None : goal.returns-in-None
returns-in-None c = sym (unmarked _ _ c.in-None.ensures)
