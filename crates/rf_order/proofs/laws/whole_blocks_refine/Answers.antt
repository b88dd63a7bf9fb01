use Rattle.rf_order.proofs.laws.whole_blocks_refine.Goals as goal
use Rattle.rf_order.proofs.Phis.{whole_blocks}

pub returns : goal.returns
returns c = whole_blocks
