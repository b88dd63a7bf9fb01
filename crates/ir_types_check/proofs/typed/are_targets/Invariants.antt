-- The rest is none exactly where all are none.
use Rattle.std.proofs.Common.{◌≡◌, length}
use Rattle.std.specs.List.{list_all}
use Rattle.ir_types_check.specs.Typed.{is_target}
use Rattle.ir_types_check.proofs.typed.are_targets.Given as goal

abbrev pub invariant-each : goal.invariant-each
invariant-each l = list_all is_target l.rest ≡ list_all is_target l.numbers

abbrev pub decreases-each : goal.decreases-each
decreases-each l = length l.rest
