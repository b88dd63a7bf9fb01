use Rattle.rf_text.proofs.Renumbered.Forms.{any_text_again}
use Rattle.rf_text.proofs.again.any_texts_are_read_again.Goals as goal

pub returns : goal.returns
returns c = any_text_again
