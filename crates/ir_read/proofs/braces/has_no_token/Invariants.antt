-- The bytes that are left have a token exactly where all have.
use Rattle.std.proofs.Common.{◌≡◌, ◌==◌, length}
use Rattle.ir_lex.specs.Scan.{texts_from}
use Rattle.ir_read.proofs.braces.has_no_token.Given as goal

abbrev pub invariant-each : goal.invariant-each
invariant-each l = (length (texts_from 0 l.rest) == 0) ≡ (length (texts_from 0 l.bytes) == 0)

abbrev pub decreases-each : goal.decreases-each
decreases-each l = length l.rest
