-- The first function of the name in the rest is the first of all.
use Rattle.std.proofs.Common.{◌≡◌, ◌+◌, ◌≤◌, length}
use Rattle.ir_model.specs.Run.{functions_of}
use Rattle.vec_words.specs.Starts.{named_from}
use Rattle.vec_words.proofs.run_words.named.Given as goal

abbrev pub invariant-each : goal.invariant-each
invariant-each l = record {
  whole : named_from l.name l.number (functions_of l.rest) ≡ named_from l.name 0 (functions_of l.items);
  within : l.number + length l.rest ≤ length l.items;
}

abbrev pub decreases-each : goal.decreases-each
decreases-each l = length l.rest
