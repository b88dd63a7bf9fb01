-- Each form makes a line of parts that fit.
use Rattle.ir_line.proofs.SoundLines.{sound_line}
use Rattle.ir_line.proofs.laws.lines_are_sound.Goals as goal

pub returns : goal.returns
returns c = sound_line
