-- What is spelled is what is read, and that is one.
use Rattle.ir_line.proofs.OutsideLines.{outside_once}
use Rattle.ir_line.proofs.laws.one_outside_form.Goals as goal

pub returns : goal.returns
returns c = λ line t l m s r. outside_once line t s r
