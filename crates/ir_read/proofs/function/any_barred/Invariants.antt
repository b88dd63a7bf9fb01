-- The rest has such an operand exactly where all have.
use Rattle.std.proofs.Common.{◌≡◌, length}
use Rattle.ir_read.specs.Function.{any_barred}
use Rattle.ir_read.proofs.function.any_barred.Given as goal

abbrev pub invariant-each : goal.invariant-each
invariant-each l = any_barred l.names l.rest ≡ any_barred l.names l.args

abbrev pub decreases-each : goal.decreases-each
decreases-each l = length l.rest
