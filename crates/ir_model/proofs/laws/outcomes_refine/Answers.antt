use Rattle.ir_model.proofs.laws.outcomes_refine.Goals as goal
use Rattle.ir_model.proofs.Same.{outcome_same}
use Rattle.ir_model.proofs.Chain.{outcome_chain}

pub returns : goal.returns
returns c = record { same = outcome_same; chain = outcome_chain }
