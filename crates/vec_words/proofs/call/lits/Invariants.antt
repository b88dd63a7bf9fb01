-- The literals of the rest after those found are those of all.
use Rattle.std.proofs.Common.{◌≡◌, [], length}
use Rattle.vec_words.specs.Calls.{lits_within}
use Rattle.vec_words.proofs.call.lits.Given as goal

abbrev pub invariant-each : goal.invariant-each
invariant-each l = lits_within l.bound l.found l.rest ≡ lits_within l.text [] l.text

abbrev pub decreases-each : goal.decreases-each
decreases-each l = length l.bound
