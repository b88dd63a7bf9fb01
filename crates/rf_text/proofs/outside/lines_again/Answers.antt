use Rattle.rf_text.proofs.outside.lines_again.Goals as goal
use Rattle.rf_text.proofs.Splitting.{lines_of_joined}

pub returns : goal.returns
returns c = lines_of_joined
