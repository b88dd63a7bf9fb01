-- What is left of the line has the first fault of the whole.
use Rattle.std.proofs.Common.{◌≡◌, ◌+◌, length}
use Rattle.ir_lex.specs.Scan.{fault_from}
use Rattle.ir_lex.specs.declared.faults.Part.TheVariants.{Plain}
use Rattle.ir_lex.proofs.faults.first_fault.Given as goal

abbrev pub invariant-each : goal.invariant-each
invariant-each l = (l.place + length l.rest ≡ length l.line) × (fault_from l.part l.place l.rest ≡ fault_from Plain 0 l.line)

abbrev pub decreases-each : goal.decreases-each
decreases-each l = length l.rest
