use Rattle.rf_formed.proofs.accepted.accepted_is_formed.Goals as goal
use Rattle.rf_formed.proofs.AcceptedModules.{formed}

pub returns : goal.returns
returns c = formed
