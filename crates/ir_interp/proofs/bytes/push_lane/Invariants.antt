use Rattle.std.proofs.Common.{◌≡◌, ◌++◌, ◌-◌}
use Rattle.ir_model.specs.Memory.{lane_bytes}
use Rattle.ir_interp.proofs.bytes.push_lane.Given as goal

abbrev pub invariant-loop : goal.invariant-loop
invariant-loop l = l.bytes ++ lane_bytes (l.size - l.counter) l.rest ≡ l.initial.bytes ++ lane_bytes l.size l.fn.lane
