use Rattle.std.proofs.Common.{◌≡◌, ◌++◌, drop}
use Rattle.ir_model.specs.Operations.{all_poison}
use Rattle.ir_interp.proofs.vectors.all_poison.Given as goal

abbrev pub invariant-loop-lane : goal.invariant-loop-lane
invariant-loop-lane l = l.done ++ all_poison (drop l._lane-index l.lanes) ≡ all_poison l.lanes
