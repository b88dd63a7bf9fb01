-- The lines that are left have no fault.
use Rattle.ir_read.proofs.EmptyLines.{sound_lines}
use Rattle.ir_read.proofs.reader.judge.Goals as goal

pub judge_line-requires-clause-sound : goal.judge_line-requires-clause-sound
judge_line-requires-clause-sound c = (sound_lines _ _ _ _ c.first_line.ensures.lines c.loop-from.invariant.sound).0
