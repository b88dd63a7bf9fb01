-- The first line feed that is found ends the line.
use Rattle.std.proofs.Common.{sym}
use Rattle.ir_read.proofs.Feeds.{feed_at, no_feed}
use Rattle.ir_read.proofs.lines.line_len.Goals as goal

pub returns-in-Some-clause-value : goal.returns-in-Some-clause-value
returns-in-Some-clause-value c = sym (feed_at _ _ c.in-Some.ensures)

pub returns-in-None-clause-value : goal.returns-in-None-clause-value
returns-in-None-clause-value c = sym (no_feed _ c.in-None.ensures)
