use Rattle.vx_view.proofs.laws.asking_narrows.Goals as goal
use Rattle.vx_view.proofs.Asking.{narrows}

pub returns : goal.returns
returns c = narrows
