use Rattle.vx_deps.proofs.Orders.{window_order}
use Rattle.vx_deps.proofs.laws.graphs_have_the_order.Goals as goal

pub returns : goal.returns
returns c m last kept f right bundles members = window_order m f last kept right bundles members
