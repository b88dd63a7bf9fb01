-- The objects of the rest after those there are those of all.
use Rattle.std.proofs.Common.{◌≡◌, length}
use Rattle.vec_words.specs.Starts.{made_after}
use Rattle.vec_words.proofs.run_words.with_made.Given as goal

abbrev pub invariant-each : goal.invariant-each
invariant-each l = made_after l.memory l.rest ≡ made_after l.fn.memory l.args

abbrev pub decreases-each : goal.decreases-each
decreases-each l = length l.rest
