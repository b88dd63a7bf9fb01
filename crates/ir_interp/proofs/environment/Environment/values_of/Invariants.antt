use Rattle.std.proofs.Common.{◌≡◌, ◌++◌, drop, map}
use Rattle.ir_model.specs.Values.{value_of}
use Rattle.ir_interp.specs.Slots.{env_in}
use Rattle.ir_interp.proofs.environment.Environment.values_of.Given as goal

abbrev pub invariant-loop-opd : goal.invariant-loop-opd
invariant-loop-opd l =
    l.values.items ++ map (value_of (env_in l.self.values.items)) (drop l.opd-index l.opds) ≡ map (value_of (env_in l.self.values.items)) l.opds
