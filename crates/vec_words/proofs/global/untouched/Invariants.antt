-- So many globals as were counted.
use Rattle.std.proofs.Common.{◌≡◌, [], false, replicate}
use Rattle.vec_words.proofs.global.untouched.Given as goal

abbrev pub invariant-each : goal.invariant-each
invariant-each l = record {
  memory : l.memory ≡ replicate l.counter [];
  named : l.named ≡ replicate l.counter false;
}
