-- The bytes counted and those of the rest are all.
use Rattle.std.proofs.Common.{◌≡◌, ◌+◌, length}
use Rattle.vec_words.specs.Pieces.{len_to}
use Rattle.vec_words.proofs.pieces.len_to.Given as goal

abbrev pub invariant-each : goal.invariant-each
invariant-each l = record {
  whole : l.count + len_to l.byte l.rest ≡ len_to l.byte l.text;
  within : l.count + length l.rest ≡ length l.text;
}

abbrev pub decreases-each : goal.decreases-each
decreases-each l = length l.rest
