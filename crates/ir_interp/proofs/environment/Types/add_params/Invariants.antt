use Rattle.std.proofs.Common.{◌≡◌, drop}
use Rattle.ir_types.specs.declared.id.Id.{Id}
use Rattle.ir_types.specs.declared.ty.Ty.{Ty}
use Rattle.ir_model.specs.Run.{typed_params}
use Rattle.ir_interp.specs.Slots.{over}
use Rattle.ir_interp.proofs.environment.Types.add_params.Given as goal

abbrev pub invariant-loop-param : goal.invariant-loop-param
invariant-loop-param l =
    (rest : Id → Ty) → over l.self.types.items (typed_params (drop l.param-index l.params) rest) ≡ over l.initial.self.types.items (typed_params l.params rest)
