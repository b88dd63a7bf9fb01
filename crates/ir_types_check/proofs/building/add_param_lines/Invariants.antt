-- The lines so far, with those of the parameters that are left, are all.
use Rattle.std.proofs.Common.{◌≡◌, length}
use Rattle.ir_types_check.specs.Blocks.{param_lines}
use Rattle.ir_types_check.proofs.building.add_param_lines.Given as goal

abbrev pub invariant-each : goal.invariant-each
invariant-each l = param_lines l.line l.lines l.rest ≡ param_lines l.line l.fn.lines l.params

abbrev pub decreases-each : goal.decreases-each
decreases-each l = length l.rest
