use Rattle.rf_text.proofs.outside.params_are_shown.Goals as goal
use Rattle.rf_text.proofs.Heads.Shown.{all_shown}

pub returns : goal.returns
returns c = all_shown
