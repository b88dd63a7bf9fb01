-- The word is in the rest exactly where it is among all.
use Rattle.std.proofs.Common.{◌≡◌, length}
use Rattle.ir_words.specs.Cursors.{left}
use Rattle.ir_words.specs.Reading.{has}
use Rattle.ir_words.proofs.flags.has.Given as goal

abbrev pub invariant-each : goal.invariant-each
invariant-each l = has l.word (left l.rest) ≡ has l.word (left l.at)

abbrev pub decreases-each : goal.decreases-each
decreases-each l = length (left l.rest)
