use Rattle.std.proofs.Common.{◌≡◌, ◌-◌, None}
use Rattle.ir_model.specs.CallFree.{run_blocks}
use Rattle.ir_interp.specs.Slots.{types_in}
use Rattle.ir_interp.specs.Effects.{state_in}
use Rattle.ir_interp.proofs.functions.run_blocks.Given as goal

abbrev pub invariant-loop : goal.invariant-loop
invariant-loop l =
    run_blocks (types_in l.types.types.items) l.blocks (l.bound - l.counter) l.from l.at (state_in l.state.env.values.items l.state.memory)
    ≡ run_blocks (types_in l.types.types.items) l.blocks l.bound None 0 (state_in l.initial.state.env.values.items l.initial.state.memory)
