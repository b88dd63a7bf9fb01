use Rattle.vec_top.proofs.Completing.{done}
use Rattle.vec_top.proofs.complete.accepted_is_done.Goals as goal

pub returns : goal.returns
returns c = done
