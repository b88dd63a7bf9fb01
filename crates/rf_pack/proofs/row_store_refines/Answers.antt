use Rattle.rf_pack.proofs.row_store_refines.Goals as goal
use Rattle.rf_pack.proofs.Rows.{row_store_stands}

pub returns : goal.returns
returns c = row_store_stands
