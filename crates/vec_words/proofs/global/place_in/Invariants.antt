-- The place in the rest is the place in all.
use Rattle.std.proofs.Common.{◌≡◌, ◌+◌, length}
use Rattle.vec_words.specs.Arguments.{place_from}
use Rattle.vec_words.proofs.global.place_in.Given as goal

abbrev pub invariant-each : goal.invariant-each
invariant-each l = record {
  whole : place_from l.place l.rest l.name ≡ place_from 0 l.names l.name;
  within : l.place + length l.rest ≡ length l.names;
}

abbrev pub decreases-each : goal.decreases-each
decreases-each l = length l.rest
