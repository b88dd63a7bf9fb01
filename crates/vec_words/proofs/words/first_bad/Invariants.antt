-- The first that is none of the rest is the first of all.
use Rattle.std.proofs.Common.{◌≡◌, length, map, string_bytes}
use Rattle.vec_words.specs.Commands.{bad_from}
use Rattle.vec_words.proofs.words.first_bad.Given as goal

abbrev pub invariant-each : goal.invariant-each
invariant-each l = bad_from l.place (map string_bytes l.rest) ≡ bad_from 4 (map string_bytes l.words)

abbrev pub decreases-each : goal.decreases-each
decreases-each l = length l.rest
