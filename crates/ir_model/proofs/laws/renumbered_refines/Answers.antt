use Rattle.ir_model.proofs.laws.renumbered_refines.Goals as goal
use Rattle.ir_types.proofs.Renumbered.{renumbered_formed}
use Rattle.ir_model.proofs.Renumbering.{new_refines, old_refines}

pub returns : goal.returns
returns c = record { formed = renumbered_formed; new = new_refines; old = old_refines }
