use Rattle.std.proofs.Common.{◌≡◌, ◌++◌, drop, map}
use Rattle.ir_model.specs.Values.{type_of}
use Rattle.ir_interp.specs.Slots.{types_in}
use Rattle.ir_interp.proofs.environment.Types.types_of.Given as goal

abbrev pub invariant-loop-opd : goal.invariant-loop-opd
invariant-loop-opd l =
    l.types.items ++ map (type_of (types_in l.self.types.items)) (drop l.opd-index l.opds) ≡ map (type_of (types_in l.self.types.items)) l.opds
