use Rattle.std.proofs.Common.{◌≡◌, drop}
use Rattle.ir_model.specs.CallFree.{run_insts}
use Rattle.ir_interp.specs.Slots.{types_in}
use Rattle.ir_interp.specs.Effects.{state_in}
use Rattle.ir_interp.proofs.blocks.run_insts.Given as goal

abbrev pub invariant-loop-inst : goal.invariant-loop-inst
invariant-loop-inst l =
    run_insts (types_in l.types.types.items) (drop l.inst-index l.insts) (state_in l.state.env.values.items l.state.memory)
    ≡ run_insts (types_in l.types.types.items) l.insts (state_in l.initial.state.env.values.items l.initial.state.memory)
