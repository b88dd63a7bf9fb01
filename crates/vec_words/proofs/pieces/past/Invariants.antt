-- What is wanted of the rest is wanted of all.
use Rattle.std.proofs.Common.{◌≡◌, length}
use Rattle.vec_words.specs.Pieces.{past}
use Rattle.vec_words.proofs.pieces.past.Given as goal

abbrev pub invariant-each : goal.invariant-each
invariant-each l = past l.wanted l.rest ≡ past l.front l.text

abbrev pub decreases-each : goal.decreases-each
decreases-each l = length l.wanted
