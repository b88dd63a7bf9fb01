-- The cases so far, with those that are left, are the whole.
use Rattle.std.proofs.Common.{◌≡◌, [], length}
use Rattle.ir_types_check.specs.Links.{cases_onto, choices}
use Rattle.ir_types_check.proofs.links.front_cases.Given as goal

abbrev pub invariant-each : goal.invariant-each
invariant-each l = cases_onto l.locals l.cases (choices l.rest) ≡ cases_onto l.locals (record { values = []; to = [] }) (choices l.lines)

abbrev pub decreases-each : goal.decreases-each
decreases-each l = length l.rest
