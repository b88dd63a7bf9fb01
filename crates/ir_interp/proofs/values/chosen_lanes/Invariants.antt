use Rattle.std.proofs.Common.{◌≡◌, drop}
use Rattle.ir_model.specs.Operations.{chosen_lanes}
use Rattle.ir_interp.specs.Partial.{after}
use Rattle.ir_interp.proofs.values.chosen_lanes.Given as goal

abbrev pub invariant-loop-c : goal.invariant-loop-c
invariant-loop-c l =
    after l.done (chosen_lanes (drop l.c-index l.conditions) l.chosen l.other) ≡ chosen_lanes l.conditions l.left l.right
