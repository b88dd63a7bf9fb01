use Rattle.std.proofs.Common.{◌≡◌, length}
use Rattle.vx_serial.specs.Legal.{same_lanes}
use Rattle.vx_legal.proofs.bundle.same_lanes.Given as goal

abbrev pub invariant-loop-ours : goal.invariant-loop-ours
invariant-loop-ours l = same_lanes l.ours l.theirs ≡ same_lanes l.fn.a l.fn.b

abbrev pub decreases-loop-ours : goal.decreases-loop-ours
decreases-loop-ours l = length l.ours
