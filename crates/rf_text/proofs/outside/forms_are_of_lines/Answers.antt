use Rattle.rf_text.proofs.outside.forms_are_of_lines.Goals as goal
use Rattle.rf_text.proofs.Kept.Lines.{form_line}

pub returns : goal.returns
returns c = form_line
