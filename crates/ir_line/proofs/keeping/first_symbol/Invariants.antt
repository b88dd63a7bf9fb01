-- The first symbol of the rest is that of all.
use Rattle.std.proofs.Common.{◌≡◌, length}
use Rattle.ir_words.specs.Cursors.{left}
use Rattle.ir_line.specs.Keeping.{first_symbol}
use Rattle.ir_line.proofs.keeping.first_symbol.Given as goal

abbrev pub invariant-each : goal.invariant-each
invariant-each l = first_symbol (left l.rest) ≡ first_symbol (left l.at)

abbrev pub decreases-each : goal.decreases-each
decreases-each l = length (left l.rest)
