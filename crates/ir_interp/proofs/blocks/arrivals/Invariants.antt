use Rattle.std.proofs.Common.{◌≡◌, length, drop}
use Rattle.ir_types.specs.declared.id.Id.{Id}
use Rattle.ir_types.specs.declared.ty.Ty.{Ty}
use Rattle.ir_model.specs.Step.{State}
use Rattle.ir_model.specs.CallFree.{enter}
use Rattle.ir_interp.specs.Slots.{env_in}
use Rattle.ir_interp.specs.Blocks.{arrived}
use Rattle.ir_interp.proofs.blocks.arrivals.Given as goal

abbrev pub invariant-loop-inst : goal.invariant-loop-inst
invariant-loop-inst l =
    (length l.arrivals ≡ l.inst-index)
    × ((types : Id → Ty) (s : State) → enter types l.from (env_in l.edge.values.items) (drop l.inst-index l.insts) (record { env = arrived l.arrivals s.env; memory = s.memory })
    ≡ enter types l.from (env_in l.edge.values.items) l.insts s)
