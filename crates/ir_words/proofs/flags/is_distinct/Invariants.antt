-- The words of the rest are distinct exactly where all are.
use Rattle.std.proofs.Common.{◌≡◌, length}
use Rattle.ir_words.specs.Cursors.{left}
use Rattle.ir_words.specs.Reading.{is_distinct}
use Rattle.ir_words.proofs.flags.is_distinct.Given as goal

abbrev pub invariant-each : goal.invariant-each
invariant-each l = is_distinct (left l.rest) ≡ is_distinct (left l.at)

abbrev pub decreases-each : goal.decreases-each
decreases-each l = length (left l.rest)
