-- The edges so far, with those of the cases that are left, are all.
use Rattle.std.proofs.Common.{◌≡◌, length}
use Rattle.ir_types_check.specs.Links.{choices}
use Rattle.ir_types_check.specs.Typed.{with_edges, choice_targets}
use Rattle.ir_types_check.proofs.edges.add_choices.Given as goal

abbrev pub invariant-each : goal.invariant-each
invariant-each l = with_edges l.from l.sources (choice_targets l.locals (choices l.rest)) ≡ with_edges l.from l.fn.sources (choice_targets l.locals (choices l.lines))

abbrev pub decreases-each : goal.decreases-each
decreases-each l = length l.rest
