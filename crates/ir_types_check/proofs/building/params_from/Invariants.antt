-- The parameters so far, with those that are left, are all.
use Rattle.std.proofs.Common.{◌≡◌, ◌++◌, length}
use Rattle.ir_types_check.specs.Blocks.{params_from}
use Rattle.ir_types_check.proofs.building.params_from.Given as goal

abbrev pub invariant-each : goal.invariant-each
invariant-each l = l.copies ++ params_from l.k l.rest ≡ params_from l.base l.params

abbrev pub decreases-each : goal.decreases-each
decreases-each l = length l.rest
