use Rattle.std.proofs.Common.{subst}
use Rattle.vx_seeds.specs.Reached.{IsClosed}
use Rattle.vx_seeds.proofs.Reaching.{are_reached}
use Rattle.vx_seeds.proofs.reached.reached.Goals as goal

pub returns-then-is_closed : goal.returns-then-is_closed
returns-then-is_closed c =
    are_reached c.args.graph.now c.in_ok-marks.marks.items c.in_ok-marks.ensures.is c.in_ok-marks.ensures.len
    (subst (IsClosed c.args.graph.now) c.deref.ensures.value (c.is_closed.ensures c.if-is_closed.true))
