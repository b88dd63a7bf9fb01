use Rattle.rf_order.proofs.laws.modules_refine.Goals as goal
use Rattle.rf_order.proofs.Modules.{modules_refined}

pub returns : goal.returns
returns c = modules_refined
