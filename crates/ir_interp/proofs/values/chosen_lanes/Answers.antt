use Rattle.std.proofs.Common.{arith}
use Rattle.ir_interp.proofs.Partners.{chosen_lanes-short, chosen_lanes-short_other}
use Rattle.ir_interp.proofs.values.chosen_lanes.Goals as goal

pub returns-in_default : goal.returns-in_default
returns-in_default c =
    chosen_lanes-short c.loop-c.done c.args.conditions.now c.loop-c.c-index c.loop-c.chosen.now c.loop-c.other.now _ (omega arith) (omega arith) c.loop-c.invariant

pub returns-in_default-other : goal.returns-in_default-other
returns-in_default-other c =
    chosen_lanes-short_other c.loop-c.done c.args.conditions.now c.loop-c.c-index c.loop-c.chosen.now c.loop-c.other.now _ (omega arith) (omega arith) c.loop-c.invariant
