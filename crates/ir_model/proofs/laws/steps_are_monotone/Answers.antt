use Rattle.ir_model.proofs.laws.steps_are_monotone.Goals as goal
use Rattle.ir_model.proofs.Steps.{step_finer, block_finer}

pub returns : goal.returns
returns c = record { step = step_finer; block = block_finer }
