use Rattle.rf_order.proofs.laws.windows_refine.Goals as goal
use Rattle.rf_order.proofs.Refined.{windows}

pub returns : goal.returns
returns c = windows
