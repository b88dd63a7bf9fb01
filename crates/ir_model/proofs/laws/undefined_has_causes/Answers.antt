use Rattle.ir_model.proofs.laws.undefined_has_causes.Goals as goal
use Rattle.ir_model.proofs.Sound.{undefined_for}

pub returns : goal.returns
returns c = undefined_for
