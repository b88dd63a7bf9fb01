use Rattle.vx_view.proofs.laws.lifted_lists_are_exact.Goals as goal
use Rattle.vx_view.proofs.Lifted.{lifted_exact}

pub returns : goal.returns
returns c = lifted_exact
