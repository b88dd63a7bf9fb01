-- The words counted and those of the rest are all; no more parentheses are open than words were counted.
use Rattle.std.proofs.Common.{◌≡◌, ◌+◌, ◌≤◌, length}
use Rattle.ir_words.specs.Cursors.{left}
use Rattle.ir_line.specs.Headers.{attrs_len}
use Rattle.ir_line.proofs.headers.attrs_len.Given as goal

abbrev pub invariant-each : goal.invariant-each
invariant-each l = record {
  whole : l.count + attrs_len l.depth (left l.rest) ≡ attrs_len 0 (left l.at);
  within : l.count + length (left l.rest) ≡ length (left l.at);
  shallow : l.depth ≤ l.count;
}

abbrev pub decreases-each : goal.decreases-each
decreases-each l = length (left l.rest)
