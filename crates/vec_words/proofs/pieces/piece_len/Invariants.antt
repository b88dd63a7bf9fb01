-- The bytes counted and those of the rest are all.
use Rattle.std.proofs.Common.{◌≡◌, ◌+◌, false, length}
use Rattle.vec_words.specs.Pieces.{piece_len}
use Rattle.vec_words.proofs.pieces.piece_len.Given as goal

abbrev pub invariant-each : goal.invariant-each
invariant-each l = record {
  whole : l.count + piece_len l.inside l.rest ≡ piece_len false l.text;
  within : l.count + length l.rest ≡ length l.text;
}

abbrev pub decreases-each : goal.decreases-each
decreases-each l = length l.rest
