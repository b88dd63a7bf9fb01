use Rattle.rf_order.proofs.laws.exits_lead_on.Goals as goal
use Rattle.rf_order.proofs.Leading.{exits_lead}

pub returns : goal.returns
returns c = exits_lead
