-- The flags counted and those of the rest are all.
use Rattle.std.proofs.Common.{◌≡◌, ◌+◌, length}
use Rattle.ir_words.specs.Cursors.{left}
use Rattle.ir_words.specs.Reading.{flags_len}
use Rattle.ir_words.proofs.flags.flags_len.Given as goal

abbrev pub invariant-each : goal.invariant-each
invariant-each l = record {
  whole : l.count + flags_len l.set (left l.rest) ≡ flags_len l.set (left l.at);
  within : l.count + length (left l.rest) ≡ length (left l.at);
}

abbrev pub decreases-each : goal.decreases-each
decreases-each l = length (left l.rest)
