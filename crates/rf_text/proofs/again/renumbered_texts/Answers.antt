use Rattle.rf_text.proofs.Renumbered.Text.{renumbered_text}
use Rattle.rf_text.proofs.Renumbered.Forms.{renumbered_printable}
use Rattle.rf_text.proofs.again.renumbered_texts.Goals as goal

pub returns : goal.returns
returns c = record { text = renumbered_text; printable = renumbered_printable }
