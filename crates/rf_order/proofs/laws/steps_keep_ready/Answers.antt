use Rattle.rf_order.proofs.laws.steps_keep_ready.Goals as goal
use Rattle.rf_order.proofs.Shapes.{step_ready}

pub returns : goal.returns
returns c = step_ready
