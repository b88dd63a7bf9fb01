-- What is known so far, with the lines that are left, is the whole.
use Rattle.std.proofs.Common.{◌≡◌, ◌+◌, ◌≤◌, length}
use Rattle.ir_read.specs.Lines.{lines_of}
use Rattle.ir_read.specs.Faults.{first_fault, unless}
use Rattle.ir_read.specs.Forms.{forms_from, forms_of}
use Rattle.ir_read.specs.Outlook.{seen_from, outlook_of}
use Rattle.ir_read.proofs.survey.survey.Given as goal

abbrev pub invariant-loop-rest : goal.invariant-loop-rest
invariant-loop-rest l = record {
  within : length l.rest ≤ length l.bytes;
  few : l.number + length l.rest ≤ 1 + length l.bytes;
  whole : unless (first_fault l.number (lines_of l.rest)) (seen_from l.known (forms_from l.inside (lines_of l.rest)))
      ≡ unless (first_fault 1 (lines_of l.bytes)) (outlook_of (forms_of (lines_of l.bytes)));
}

abbrev pub decreases-loop-rest : goal.decreases-loop-rest
decreases-loop-rest l = length l.rest
