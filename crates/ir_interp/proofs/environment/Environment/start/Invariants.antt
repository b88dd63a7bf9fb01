use Rattle.std.proofs.Common.{◌≡◌, drop}
use Rattle.ir_model.specs.Run.{start_env}
use Rattle.ir_interp.specs.Slots.{over}
use Rattle.ir_interp.proofs.environment.Environment.start.Given as goal

abbrev pub invariant-loop-i : goal.invariant-loop-i
invariant-loop-i l = over l.values.items (start_env (drop l.i l.params) (drop l.i l.args)) ≡ start_env l.params l.args
