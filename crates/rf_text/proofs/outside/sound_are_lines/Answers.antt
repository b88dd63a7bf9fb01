use Rattle.rf_text.proofs.outside.sound_are_lines.Goals as goal
use Rattle.rf_text.proofs.Kept.Lines.{sound_line}

pub returns : goal.returns
returns c = sound_line
