use Rattle.ir_interp.proofs.bytes.+lane_from.Given as goal

abbrev pub decreases-lane_from : goal.decreases-lane_from
decreases-lane_from l = l.size
