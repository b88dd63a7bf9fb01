-- The tokens so far and those of what is left are the tokens of the line.
use Rattle.std.proofs.Common.{◌≡◌, ◌+◌, ◌++◌, length}
use Rattle.ir_lex.specs.Scan.{cut_from}
use Rattle.ir_lex.proofs.scan.cut.Given as goal

abbrev pub invariant-each : goal.invariant-each
invariant-each l = (l.place + length l.rest ≡ length l.line) × (l.tokens.items ++ cut_from 0 l.place l.rest ≡ cut_from 0 0 l.line)

abbrev pub decreases-each : goal.decreases-each
decreases-each l = length l.rest
