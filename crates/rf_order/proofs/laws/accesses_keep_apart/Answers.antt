use Rattle.rf_order.proofs.laws.accesses_keep_apart.Goals as goal
use Rattle.rf_order.proofs.Refined.{accesses_apart}

pub returns : goal.returns
returns c = accesses_apart
