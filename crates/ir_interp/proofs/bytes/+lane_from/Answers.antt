use Rattle.std.proofs.Common.{◌-◌, ◌*◌, ◌+◌, arith}
use Rattle.ir_interp.proofs.Bits.{IsLane-wider}
use Rattle.ir_interp.proofs.bytes.+lane_from.Goals as goal

pub with_low-requires : goal.with_low-requires
with_low-requires t c = IsLane-wider (8 * (c.args.size - 1)) 56 c.lane_from.result (omega arith) c.lane_from.ensures.lane

pub returns-in-len1-up-clause-lane : goal.returns-in-len1-up-clause-lane
returns-in-len1-up-clause-lane t c =
    IsLane-wider (8 + 8 * (c.args.size - 1)) (8 * c.args.size) c.with_low.result (omega arith)
    (c.with_low.ensures.lane (c.args.size - 1) c.lane_from.ensures.lane)
