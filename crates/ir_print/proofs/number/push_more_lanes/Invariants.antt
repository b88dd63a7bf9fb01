-- What is written, with the text of what is left, is the whole.
use Rattle.std.proofs.Common.{◌≡◌, ◌++◌, drop}
use Rattle.ir_print.specs.Literals.{more_lanes_text}
use Rattle.ir_print.proofs.number.push_more_lanes.Given as goal

abbrev pub invariant-loop-lane : goal.invariant-loop-lane
invariant-loop-lane l = l.out.items ++ more_lanes_text l.w (drop l.lane-index l.lanes) ≡ l.fn.out.items ++ more_lanes_text l.w l.lanes
