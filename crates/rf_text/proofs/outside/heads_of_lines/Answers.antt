use Rattle.rf_text.proofs.outside.heads_of_lines.Goals as goal
use Rattle.rf_text.proofs.Heads.Found.{head_of_line}

pub returns : goal.returns
returns c = head_of_line
