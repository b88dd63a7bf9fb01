-- The name in the rest, after the words counted, is that of all.
use Rattle.std.proofs.Common.{◌≡◌, ◌+◌, ◌≤◌, length}
use Rattle.ir_words.specs.Cursors.{left}
use Rattle.ir_line.specs.Headers.{name_from}
use Rattle.ir_line.proofs.headers.name_from.Given as goal

abbrev pub invariant-each : goal.invariant-each
invariant-each l = record {
  whole : name_from l.count l.depth (left l.rest) ≡ name_from 0 0 (left l.at);
  within : l.count + length (left l.rest) ≡ length (left l.at);
  shallow : l.depth ≤ l.count;
}

abbrev pub decreases-each : goal.decreases-each
decreases-each l = length (left l.rest)
