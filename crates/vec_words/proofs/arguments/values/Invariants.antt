-- The values of the rest after those found are those of all.
use Rattle.std.proofs.Common.{◌≡◌, [], length}
use Rattle.vec_words.specs.Arguments.{values_after}
use Rattle.vec_words.proofs.arguments.values.Given as goal

abbrev pub invariant-each : goal.invariant-each
invariant-each l = values_after l.globals l.next l.found l.params l.rest ≡ values_after l.globals (length l.globals) [] l.fn.params l.args

abbrev pub decreases-each : goal.decreases-each
decreases-each l = length l.rest
