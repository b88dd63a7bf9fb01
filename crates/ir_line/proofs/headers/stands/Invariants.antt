-- The word stands in the rest exactly where it stands among all; no more parentheses are open than words were passed.
use Rattle.std.proofs.Common.{◌≡◌, ◌+◌, ◌≤◌, length}
use Rattle.ir_words.specs.Cursors.{left}
use Rattle.ir_line.specs.Headers.{stands}
use Rattle.ir_line.proofs.headers.stands.Given as goal

abbrev pub invariant-each : goal.invariant-each
invariant-each l = record {
  whole : stands l.wanted l.depth (left l.rest) ≡ stands l.wanted 0 (left l.at);
  shallow : l.depth + length (left l.rest) ≤ length (left l.at);
}

abbrev pub decreases-each : goal.decreases-each
decreases-each l = length (left l.rest)
