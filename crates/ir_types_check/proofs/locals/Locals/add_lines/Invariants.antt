-- The names so far, with those of the lines that are left, are the whole.
use Rattle.std.proofs.Common.{◌≡◌, length}
use Rattle.ir_types_check.specs.Locals.{with_lines}
use Rattle.ir_types_check.proofs.locals.Locals.add_lines.Given as goal

abbrev pub invariant-each : goal.invariant-each
invariant-each l = with_lines l.self l.rest ≡ with_lines l.fn.self l.body

abbrev pub decreases-each : goal.decreases-each
decreases-each l = length l.rest
