-- The lanes of the rest after those found are those of all.
use Rattle.std.proofs.Common.{◌≡◌, [], length}
use Rattle.vec_words.specs.Literals.{lanes_after}
use Rattle.vec_words.proofs.literal.lanes_in.Given as goal

abbrev pub invariant-each : goal.invariant-each
invariant-each l = lanes_after l.w l.lanes l.rest ≡ lanes_after l.w [] l.lits

abbrev pub decreases-each : goal.decreases-each
decreases-each l = length l.rest
