use Rattle.ir_interp.proofs.Bits.{lane_below}
use Rattle.ir_interp.proofs.bytes.with_low.Goals as goal

pub returns-in-Some-Some-clause-lane : goal.returns-in-Some-Some-clause-lane
returns-in-Some-Some-clause-lane c =
    λ k is. c.joined.ensures.bound k (lane_below k c.in-Some-Some.high c.args.high c.in-Some-Some.is-1 is)
