use Rattle.rf_order.proofs.laws.exits_are_entered.Goals as goal
use Rattle.rf_order.proofs.Exits.{exits_entered}

pub returns : goal.returns
returns c = exits_entered
