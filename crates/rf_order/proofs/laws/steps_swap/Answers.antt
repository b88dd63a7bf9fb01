use Rattle.rf_order.proofs.laws.steps_swap.Goals as goal
use Rattle.rf_order.proofs.Swaps.{pair_swaps}

pub returns : goal.returns
returns c = pair_swaps
