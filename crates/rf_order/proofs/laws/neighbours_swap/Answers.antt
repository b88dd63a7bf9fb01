use Rattle.rf_order.proofs.laws.neighbours_swap.Goals as goal
use Rattle.rf_order.proofs.Refined.{neighbours}

pub returns : goal.returns
returns c = neighbours
