-- The edges so far, with those that are left, are all.
use Rattle.std.proofs.Common.{◌≡◌, length}
use Rattle.ir_types_check.specs.Typed.{with_edges}
use Rattle.ir_types_check.proofs.edges.add_edges.Given as goal

abbrev pub invariant-each : goal.invariant-each
invariant-each l = with_edges l.from l.sources l.rest ≡ with_edges l.from l.fn.sources l.targets

abbrev pub decreases-each : goal.decreases-each
decreases-each l = length l.rest
