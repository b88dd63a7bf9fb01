-- The names so far, with those of the parameters that are left, are the whole.
use Rattle.std.proofs.Common.{◌≡◌, length}
use Rattle.ir_types_check.specs.Locals.{with_params}
use Rattle.ir_types_check.proofs.locals.Locals.add_params.Given as goal

abbrev pub invariant-each : goal.invariant-each
invariant-each l = with_params l.line l.self l.rest ≡ with_params l.line l.fn.self l.params

abbrev pub decreases-each : goal.decreases-each
decreases-each l = length l.rest
