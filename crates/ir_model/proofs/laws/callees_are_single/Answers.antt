use Rattle.ir_model.proofs.laws.callees_are_single.Goals as goal
use Rattle.ir_model.proofs.Callees.{one_callee}

pub returns : goal.returns
returns c = one_callee
