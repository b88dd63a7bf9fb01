use Rattle.rf_module.proofs.laws.trees_are_complete.Goals as goal
use Rattle.rf_module.proofs.Links.{trees_complete}

pub returns : goal.returns
returns c = trees_complete
