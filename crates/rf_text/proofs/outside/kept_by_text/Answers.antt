use Rattle.rf_text.proofs.outside.kept_by_text.Goals as goal
use Rattle.rf_text.proofs.Kept.Lines as kept

pub returns : goal.returns
returns c = kept.kept_by_text
