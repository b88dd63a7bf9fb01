use Rattle.std.proofs.Common.{◌≡◌, ◌++◌, drop, map}
use Rattle.ir_model.specs.Operations.{cast_lane}
use Rattle.ir_interp.proofs.values.cast_lanes.Given as goal

abbrev pub invariant-loop-lane : goal.invariant-loop-lane
invariant-loop-lane l =
    l.done ++ map (cast_lane l.op l.nneg l.from l.to) (drop l.lane-index l.lanes) ≡ map (cast_lane l.op l.nneg l.from l.to) l.lanes
