use Rattle.ir_model.proofs.laws.modules_refine.Goals as goal
use Rattle.ir_model.proofs.Chain.{module_same, module_chain}

pub returns : goal.returns
returns c = record { same = module_same; chain = module_chain }
