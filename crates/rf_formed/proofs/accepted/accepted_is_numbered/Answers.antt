use Rattle.rf_formed.proofs.accepted.accepted_is_numbered.Goals as goal
use Rattle.rf_formed.proofs.AcceptedModules.{numbered}

pub returns : goal.returns
returns c = numbered
