use Rattle.std.proofs.Common.{◌≡◌, ◌++◌, drop}
use Rattle.ir_model.specs.Memory.{row_bytes}
use Rattle.ir_interp.proofs.bytes.row_bytes.Given as goal

abbrev pub invariant-loop-lane : goal.invariant-loop-lane
invariant-loop-lane l = l.bytes ++ row_bytes l.size (drop l.lane-index l.lanes) ≡ row_bytes l.size l.lanes
