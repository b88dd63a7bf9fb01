-- What is written, with the text of what is left, is the whole.
use Rattle.std.proofs.Common.{◌≡◌, ◌+◌, ◌++◌, length}
use Rattle.vec_words.specs.Outcomes.{objects_text}
use Rattle.vec_words.proofs.outcome.push_objects.Given as goal

abbrev pub invariant-each : goal.invariant-each
invariant-each l = record {
  whole : l.out.items ++ objects_text l.number l.rest ≡ l.fn.out.items ++ objects_text 0 l.memory;
  within : l.number + length l.rest ≡ length l.memory;
}

abbrev pub decreases-each : goal.decreases-each
decreases-each l = length l.rest
