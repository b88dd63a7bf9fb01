-- The numbers so far, with those of the places that are left, are all.
use Rattle.std.proofs.Common.{◌≡◌, ◌++◌, drop, map}
use Rattle.ir_types_check.specs.Typed.{number_at}
use Rattle.ir_types_check.proofs.edges.numbers_at.Given as goal

abbrev pub invariant-loop-place : goal.invariant-loop-place
invariant-loop-place l = l.numbers ++ map (number_at l.locals l.labels) (drop l.place-index l.places) ≡ map (number_at l.locals l.labels) l.places
