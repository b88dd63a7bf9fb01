-- The lanes found and those of the rest are those of all.
use Rattle.std.proofs.Common.{◌≡◌, length}
use Rattle.ir_lex.specs.Words.{words}
use Rattle.ir_words.specs.Cursors.{left}
use Rattle.ir_words.specs.Reading.{lanes_within, with_front}
use Rattle.ir_words.proofs.literals.lanes_within.Given as goal

abbrev pub invariant-each : goal.invariant-each
invariant-each l = with_front l.found (lanes_within (words l.at.line.now l.bound) l.w (left l.rest)) ≡ lanes_within (left l.at) l.w (left l.at)

abbrev pub decreases-each : goal.decreases-each
decreases-each l = length l.bound
