-- The rest is balanced exactly where all is; no more parentheses are open than words were passed.
use Rattle.std.proofs.Common.{◌≡◌, ◌+◌, ◌≤◌, length}
use Rattle.ir_words.specs.Cursors.{left}
use Rattle.ir_line.specs.Calls.{is_balanced}
use Rattle.ir_line.proofs.calls.is_balanced.Given as goal

abbrev pub invariant-each : goal.invariant-each
invariant-each l = record {
  whole : is_balanced l.depth (left l.rest) ≡ is_balanced 0 (left l.at);
  shallow : l.depth + length (left l.rest) ≤ length (left l.at);
}

abbrev pub decreases-each : goal.decreases-each
decreases-each l = length (left l.rest)
