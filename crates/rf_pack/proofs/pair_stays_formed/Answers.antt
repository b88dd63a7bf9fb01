use Rattle.rf_pack.proofs.pair_stays_formed.Goals as goal
use Rattle.rf_pack.proofs.PairFormed.{pair_formed}

pub returns : goal.returns
returns c = pair_formed
