-- The words counted and those of the rest are all; no more brackets are open than words were counted.
use Rattle.std.proofs.Common.{◌≡◌, ◌+◌, ◌≤◌, length}
use Rattle.ir_words.specs.Cursors.{left}
use Rattle.ir_line.specs.Calls.{argument_len}
use Rattle.ir_line.proofs.calls.argument_len.Given as goal

abbrev pub invariant-each : goal.invariant-each
invariant-each l = record {
  whole : l.count + argument_len l.depth l.angles (left l.rest) ≡ argument_len 0 0 (left l.at);
  within : l.count + length (left l.rest) ≡ length (left l.at);
  shallow : l.depth ≤ l.count;
  narrow : l.angles ≤ l.count;
}

abbrev pub decreases-each : goal.decreases-each
decreases-each l = length (left l.rest)
