-- What is spelled is what is read, and that is one.
use Rattle.ir_line.proofs.BodyLines.{body_once}
use Rattle.ir_line.proofs.laws.one_body_form.Goals as goal

pub returns : goal.returns
returns c = λ line t l m s r. body_once line t s r
