use Rattle.vx_view.proofs.laws.changes_are_undone.Goals as goal
use Rattle.vx_view.proofs.Law.{undone}

pub returns : goal.returns
returns c = undone
