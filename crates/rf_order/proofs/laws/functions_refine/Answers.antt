use Rattle.rf_order.proofs.laws.functions_refine.Goals as goal
use Rattle.rf_order.proofs.Functions.{functions_refined}

pub returns : goal.returns
returns c = functions_refined
