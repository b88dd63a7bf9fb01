-- The operand in the rest, after the words counted, is that of all.
use Rattle.std.proofs.Common.{◌≡◌, ◌+◌, length}
use Rattle.ir_words.specs.Cursors.{left}
use Rattle.ir_line.specs.Calls.{operand_from}
use Rattle.ir_line.proofs.calls.last_operand.Given as goal

abbrev pub invariant-each : goal.invariant-each
invariant-each l = record {
  whole : operand_from l.ty l.count (left l.rest) ≡ operand_from l.ty 0 (left l.at);
  within : l.count + length (left l.rest) ≡ length (left l.at);
}

abbrev pub decreases-each : goal.decreases-each
decreases-each l = length (left l.rest)
