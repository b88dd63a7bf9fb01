-- The number of the rest after the present one is the number of all.
use Rattle.std.proofs.Common.{◌≡◌, length}
use Rattle.vx_digits.specs.Numbers.{number_from}
use Rattle.vx_digits.proofs.reading.number_from.Given as goal

abbrev pub invariant-each : goal.invariant-each
invariant-each l = number_from l.n l.rest ≡ number_from 0 l.text

abbrev pub decreases-each : goal.decreases-each
decreases-each l = length l.rest
