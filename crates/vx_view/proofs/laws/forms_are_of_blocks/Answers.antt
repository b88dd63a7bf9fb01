use Rattle.vx_view.proofs.laws.forms_are_of_blocks.Goals as goal
use Rattle.vx_view.proofs.Blocks.{standing_is, form_at}

pub returns-clause-block : goal.returns-clause-block
returns-clause-block c = standing_is

pub returns-clause-form : goal.returns-clause-form
returns-clause-form c = form_at
