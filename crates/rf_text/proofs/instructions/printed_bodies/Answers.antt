-- Bodies of functions are read again.
use Rattle.rf_text.proofs.Insts.Bodies.{body_printed}
use Rattle.rf_text.proofs.instructions.printed_bodies.Goals as goal

pub returns : goal.returns
returns c = λ ns gs bs labels names insts. body_printed ns gs labels bs names insts
