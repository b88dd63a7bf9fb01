use Rattle.std.proofs.Common.{◌≡◌, drop}
use Rattle.ir_interp.specs.Slots.{env_in}
use Rattle.ir_interp.specs.Blocks.{arrived}
use Rattle.ir_interp.proofs.blocks.arrive.Given as goal

abbrev pub invariant-loop-arrival : goal.invariant-loop-arrival
invariant-loop-arrival l =
    arrived (drop l.arrival-index l.arrivals) (env_in l.env.values.items) ≡ arrived l.arrivals (env_in l.initial.env.values.items)
