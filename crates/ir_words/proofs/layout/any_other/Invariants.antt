-- The rest has such a part exactly where all has.
use Rattle.std.proofs.Common.{◌≡◌, true, length}
use Rattle.ir_words.specs.Layout.{any_other}
use Rattle.ir_words.proofs.layout.any_other.Given as goal

abbrev pub invariant-each : goal.invariant-each
invariant-each l = any_other l.starts l.rest ≡ any_other true l.bytes

abbrev pub decreases-each : goal.decreases-each
decreases-each l = length l.rest
