use Rattle.rf_pack.proofs.pair_refines.Goals as goal
use Rattle.rf_pack.proofs.Modules.{pair_refines-proof}

pub returns : goal.returns
returns c = pair_refines-proof
