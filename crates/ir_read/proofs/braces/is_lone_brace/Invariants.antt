-- The rest of the line is a brace alone exactly where the line is.
use Rattle.std.proofs.Common.{◌≡◌, length}
use Rattle.ir_lex.specs.Scan.{texts_from}
use Rattle.ir_line.specs.Body.{is_brace}
use Rattle.ir_read.proofs.braces.is_lone_brace.Given as goal

abbrev pub invariant-each : goal.invariant-each
invariant-each l = is_brace (texts_from 0 l.rest) ≡ is_brace (texts_from 0 l.line)

abbrev pub decreases-each : goal.decreases-each
decreases-each l = length l.rest
