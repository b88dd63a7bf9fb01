-- The first string of the rest is that of all.
use Rattle.std.proofs.Common.{◌≡◌, length}
use Rattle.ir_words.specs.Cursors.{left}
use Rattle.ir_words.specs.Layout.{string_of}
use Rattle.ir_words.proofs.layout.string_of.Given as goal

abbrev pub invariant-each : goal.invariant-each
invariant-each l = string_of (left l.rest) ≡ string_of (left l.at)

abbrev pub decreases-each : goal.decreases-each
decreases-each l = length (left l.rest)
