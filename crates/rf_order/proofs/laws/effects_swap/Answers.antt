use Rattle.rf_order.proofs.laws.effects_swap.Goals as goal
use Rattle.rf_order.proofs.Swaps.{effects_pass}

pub returns : goal.returns
returns c = effects_pass
