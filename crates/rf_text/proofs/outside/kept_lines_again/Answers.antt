use Rattle.rf_text.proofs.outside.kept_lines_again.Goals as goal
use Rattle.rf_text.proofs.Kept.Lines.{kept_again}

pub returns : goal.returns
returns c = kept_again
