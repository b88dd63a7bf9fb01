use Rattle.rf_order.proofs.laws.starts_are_entered.Goals as goal
use Rattle.rf_order.proofs.Starts.{starts_entered}

pub returns : goal.returns
returns c = starts_entered
