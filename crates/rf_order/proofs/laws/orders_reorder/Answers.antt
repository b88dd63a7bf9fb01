use Rattle.rf_order.proofs.laws.orders_reorder.Goals as goal
use Rattle.rf_order.proofs.Windows.{orders_reordered}

pub returns : goal.returns
returns c = orders_reordered
