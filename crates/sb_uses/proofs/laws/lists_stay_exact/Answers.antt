use Rattle.sb_uses.proofs.laws.lists_stay_exact.Goals as goal
use Rattle.sb_uses.proofs.Exact.{lists_exact}

pub returns : goal.returns
returns c = lists_exact
