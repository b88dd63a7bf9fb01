use Rattle.rf_formed.proofs.accepted.accepted_is_formed_but_for_walks.Goals as goal
use Rattle.rf_formed.proofs.AcceptedModules.{formed_but_for_walks}

pub returns : goal.returns
returns c = formed_but_for_walks
