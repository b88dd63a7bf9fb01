use Rattle.ir_model.proofs.laws.runs_are_call_free.Goals as goal
use Rattle.ir_model.proofs.NoCalls.{run_plain}

pub returns : goal.returns
returns c = run_plain
