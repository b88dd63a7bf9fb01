use Rattle.rf_rewrite.proofs.laws.gone_are.Goals as goal
use Rattle.rf_rewrite.proofs.Going.{gone_in_turn}

pub returns : goal.returns
returns c = gone_in_turn
