use Rattle.rf_rewrite.proofs.laws.removed_in_turn.Goals as goal
use Rattle.rf_rewrite.proofs.Law.{changes_go_in_turn}

pub returns : goal.returns
returns c = changes_go_in_turn
