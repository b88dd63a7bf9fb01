-- The words counted and those of the rest are all before the attachment.
use Rattle.std.proofs.Common.{◌≡◌, ◌+◌, length}
use Rattle.ir_words.specs.Cursors.{left}
use Rattle.ir_line.specs.Body.{attachment_at}
use Rattle.ir_line.proofs.body.marked_at.Given as goal

abbrev pub invariant-each : goal.invariant-each
invariant-each l = record {
  whole : l.count + attachment_at (left l.rest) ≡ attachment_at (left l.at);
  within : l.count + length (left l.rest) ≡ length (left l.at);
}

abbrev pub decreases-each : goal.decreases-each
decreases-each l = length (left l.rest)
