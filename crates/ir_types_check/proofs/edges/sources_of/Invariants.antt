-- The edges so far, with those of the lines that are left, are all.
use Rattle.std.proofs.Common.{◌≡◌, length}
use Rattle.ir_types_check.specs.Typed.{sources_from, sources_of}
use Rattle.ir_types_check.proofs.edges.sources_of.Given as goal

abbrev pub invariant-each : goal.invariant-each
invariant-each l = sources_from l.locals.scope l.at l.sources l.rest ≡ sources_of l.locals l.body

abbrev pub decreases-each : goal.decreases-each
decreases-each l = length l.rest
