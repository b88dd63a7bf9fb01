-- The bytes of the rest after those found are those of all.
use Rattle.std.proofs.Common.{◌≡◌, [], length}
use Rattle.vec_words.specs.Hex.{bytes_after}
use Rattle.vec_words.proofs.hex.all_bytes.Given as goal

abbrev pub invariant-each : goal.invariant-each
invariant-each l = bytes_after l.found l.rest ≡ bytes_after [] l.text

abbrev pub decreases-each : goal.decreases-each
decreases-each l = length l.rest
