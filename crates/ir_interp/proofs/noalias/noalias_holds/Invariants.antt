use Rattle.std.proofs.Common.{◌≡◌, [], reverse, take, drop}
use Rattle.ir_model.specs.Run.{noalias_holds}
use Rattle.ir_interp.proofs.noalias.noalias_holds.Given as goal

abbrev pub invariant-loop-i : goal.invariant-loop-i
invariant-loop-i l = noalias_holds l.globals (reverse (take l.i l.args)) (drop l.i l.params) (drop l.i l.args) ≡ noalias_holds l.globals [] l.params l.args
