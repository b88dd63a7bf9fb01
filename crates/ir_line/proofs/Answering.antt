-- What an answer says where all that is read is spelled.
use Rattle.std.proofs.Common.{◌≡◌, Option, Some, Result, Ok, Err, IfOk}
use Rattle.ir_draft.specs.declared.line.Line.{Line}
use Rattle.ir_draft.specs.declared.refusal.LineRefusal.{LineRefusal}
use Rattle.ir_line.specs.Answers.{Answers}

pub found_by : {P : Line → Type 0} (r : Result Line LineRefusal) (o : Option Line) → Answers r o → ((l : Line) → o ≡ Some l → P l) → IfOk r P
found_by (Ok l) o a k = k l a
found_by (Err e) o a k = tt
