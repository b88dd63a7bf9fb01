use Rattle.rf_text.proofs.text_lines.texts_are_lines.Goals as goal
use Rattle.rf_text.proofs.TextLines.Lines as lines

pub returns : goal.returns
returns c = lines.text_lines
