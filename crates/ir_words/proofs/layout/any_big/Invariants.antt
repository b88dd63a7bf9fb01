-- The rest has such a part exactly where all has.
use Rattle.std.proofs.Common.{◌≡◌, true, length}
use Rattle.ir_words.specs.Layout.{any_big}
use Rattle.ir_words.proofs.layout.any_big.Given as goal

abbrev pub invariant-each : goal.invariant-each
invariant-each l = any_big l.starts l.rest ≡ any_big true l.bytes

abbrev pub decreases-each : goal.decreases-each
decreases-each l = length l.rest
