-- The pairs found and those of the rest are those of all.
use Rattle.std.proofs.Common.{◌≡◌, length}
use Rattle.ir_lex.specs.Words.{words}
use Rattle.ir_words.specs.Cursors.{left}
use Rattle.ir_forms.specs.Operands.{pairs_within, after_pairs}
use Rattle.ir_forms.proofs.pairs.pairs.Given as goal

abbrev pub invariant-each : goal.invariant-each
invariant-each l = after_pairs l.found (pairs_within (words l.at.line.now l.bound) l.ty l.place (left l.rest)) ≡ pairs_within (left l.at) l.ty 0 (left l.at)

abbrev pub decreases-each : goal.decreases-each
decreases-each l = length l.bound
