-- The rest ends where all does.
use Rattle.std.proofs.Common.{◌≡◌, length}
use Rattle.ir_line.specs.Headers.{last_to}
use Rattle.ir_line.proofs.headers.last_to.Given as goal

abbrev pub invariant-each : goal.invariant-each
invariant-each l = last_to l.end l.rest ≡ last_to l.to l.tokens

abbrev pub decreases-each : goal.decreases-each
decreases-each l = length l.rest
