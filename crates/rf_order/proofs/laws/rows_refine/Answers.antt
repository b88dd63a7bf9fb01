use Rattle.rf_order.proofs.laws.rows_refine.Goals as goal
use Rattle.rf_order.proofs.Refined.{rows}

pub returns : goal.returns
returns c = rows
