-- What is written, with the text of what is left, is the whole.
use Rattle.std.proofs.Common.{◌≡◌, ◌++◌, drop}
use Rattle.vec_words.specs.Outcomes.{more_lanes_text}
use Rattle.vec_words.proofs.outcome.push_more_lanes.Given as goal

abbrev pub invariant-loop-lane : goal.invariant-loop-lane
invariant-loop-lane l = l.out.items ++ more_lanes_text l.w (drop l.lane-index l.lanes) ≡ l.fn.out.items ++ more_lanes_text l.w l.lanes
