use Rattle.std.proofs.Common.{◌≡◌, None, replicate}
use Rattle.ir_interp.proofs.accesses.fresh_object.Given as goal

abbrev pub invariant-loop : goal.invariant-loop
invariant-loop l = l.object ≡ replicate l.counter None
