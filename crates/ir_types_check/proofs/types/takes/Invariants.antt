-- The rest is taken exactly where all are.
use Rattle.std.proofs.Common.{◌≡◌, length}
use Rattle.ir_types_check.specs.Typed.{takes}
use Rattle.ir_types_check.proofs.types.takes.Given as goal

abbrev pub invariant-each : goal.invariant-each
invariant-each l = takes l.params l.args ≡ takes l.fn.params l.fn.args

abbrev pub decreases-each : goal.decreases-each
decreases-each l = length l.params
