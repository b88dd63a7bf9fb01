use Rattle.rf_order.proofs.laws.blocks_refine.Goals as goal
use Rattle.rf_order.proofs.Blocks.{blocks_refine-proof}

pub returns : goal.returns
returns c = blocks_refine-proof
