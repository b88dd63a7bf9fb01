use Rattle.rf_order.proofs.laws.outcomes_refine.Goals as goal
use Rattle.rf_order.proofs.Functions.{outcomes_refined}

pub returns : goal.returns
returns c = outcomes_refined
