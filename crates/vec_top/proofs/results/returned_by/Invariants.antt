-- The function that is sought is among those that are left.
use Rattle.std.proofs.Common.{◌≡◌, length, slice_get}
use Rattle.ir_model.specs.Run.{functions_of}
use Rattle.vec_top.proofs.results.returned_by.Given as goal

abbrev pub invariant-each : goal.invariant-each
invariant-each l = slice_get (functions_of l.rest) l.number ≡ slice_get (functions_of l.m.items) l.func

abbrev pub decreases-each : goal.decreases-each
decreases-each l = length l.rest
