use Rattle.std.proofs.Common.{◌≡◌, drop, slice_get}
use Rattle.ir_model.specs.Run.{functions_of}
use Rattle.ir_interp.proofs.functions.function_at.Given as goal

abbrev pub invariant-loop-item : goal.invariant-loop-item
invariant-loop-item l = slice_get (functions_of (drop l.item-index l.items)) l.before ≡ slice_get (functions_of l.items) l.func
