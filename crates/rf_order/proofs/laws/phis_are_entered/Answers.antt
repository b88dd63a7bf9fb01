use Rattle.rf_order.proofs.laws.phis_are_entered.Goals as goal
use Rattle.rf_order.proofs.Entered.{phis_entered}

pub returns : goal.returns
returns c = phis_entered
