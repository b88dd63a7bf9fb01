use Rattle.std.proofs.Common.{◌≡◌, ◌++◌, drop, map}
use Rattle.ir_model.specs.Operations.{lane_at}
use Rattle.ir_interp.proofs.vectors.shuffled.Given as goal

abbrev pub invariant-loop-entry : goal.invariant-loop-entry
invariant-loop-entry l =
    l.done ++ map (lane_at (l.left ++ l.right)) (drop l.entry-index l.mask) ≡ map (lane_at (l.left ++ l.right)) l.mask
