-- The rests are one exactly where the lists are.
use Rattle.std.proofs.Common.{◌≡◌, length}
use Rattle.ir_types_check.specs.Typed.{same_lanes}
use Rattle.ir_types_check.proofs.phis.same_lanes.Given as goal

abbrev pub invariant-each : goal.invariant-each
invariant-each l = same_lanes l.left l.right ≡ same_lanes l.fn.left l.fn.right

abbrev pub decreases-each : goal.decreases-each
decreases-each l = length l.left
