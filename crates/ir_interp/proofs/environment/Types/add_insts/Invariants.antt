use Rattle.std.proofs.Common.{◌≡◌, drop}
use Rattle.ir_types.specs.declared.id.Id.{Id}
use Rattle.ir_types.specs.declared.ty.Ty.{Ty}
use Rattle.ir_model.specs.Run.{typed_insts}
use Rattle.ir_interp.specs.Slots.{over}
use Rattle.ir_interp.proofs.environment.Types.add_insts.Given as goal

abbrev pub invariant-loop-inst : goal.invariant-loop-inst
invariant-loop-inst l =
    (rest : Id → Ty) → over l.self.types.items (typed_insts (drop l.inst-index l.insts) rest) ≡ over l.initial.self.types.items (typed_insts l.insts rest)
