-- Words that do not hold end the command before anything is read.
use Rattle.vec_top.proofs.Outcomes.{unheld_first}
use Rattle.vec_top.proofs.top.make.Goals as goal

pub returns-in-Err : goal.returns-in-Err
returns-in-Err g c = unheld_first _ _ _ c.in-Err.refusal c.fault_for.result c.fault_for.ensures c.in-Err.ensures
