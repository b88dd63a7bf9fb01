use Rattle.vx_deps.proofs.Orders.{right_once}
use Rattle.vx_deps.proofs.laws.graphs_hold_each_once.Goals as goal

pub returns : goal.returns
returns c m kept formed right = right_once m formed kept right
