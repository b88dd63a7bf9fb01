-- What is read so far, with the lines that are left, is the whole.
use Rattle.std.proofs.Common.{◌≡◌, ◌+◌, ◌≤◌, length, None}
use Rattle.ir_read.specs.Lines.{lines_of}
use Rattle.ir_read.specs.Faults.{first_fault}
use Rattle.ir_read.specs.Draft.{nothing_done}
use Rattle.ir_read.specs.Steps.{steps_from, outside}
use Rattle.ir_read.proofs.reader.judge.Given as goal

abbrev pub invariant-loop-from : goal.invariant-loop-from
invariant-loop-from l = record {
  within : length l.rest ≤ length l.bytes;
  few : l.number + length l.rest ≤ 1 + length l.bytes;
  sound : first_fault l.number (lines_of l.rest) ≡ None;
  whole : steps_from l.known l.number l.done (lines_of l.from) (lines_of l.rest) ≡ steps_from l.known 1 (outside nothing_done) (lines_of l.bytes) (lines_of l.bytes);
}

abbrev pub decreases-loop-from : goal.decreases-loop-from
decreases-loop-from l = length l.rest
