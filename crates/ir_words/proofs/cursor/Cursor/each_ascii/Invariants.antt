-- The rest is of ASCII exactly where all is.
use Rattle.std.proofs.Common.{◌≡◌, length}
use Rattle.std.specs.List.{list_all}
use Rattle.ir_words.specs.Cursors.{left}
use Rattle.ir_words.specs.Words.{is_ascii}
use Rattle.ir_words.proofs.cursor.Cursor.each_ascii.Given as goal

abbrev pub invariant-each : goal.invariant-each
invariant-each l = list_all is_ascii (left l.rest) ≡ list_all is_ascii (left l.self)

abbrev pub decreases-each : goal.decreases-each
decreases-each l = length (left l.rest)
