-- What is found is what is read.
use Rattle.std.proofs.Common.{sym}
use Rattle.ir_line.proofs.BodyLines.{body_read}
use Rattle.ir_read.proofs.LineForms.{unread_inside}
use Rattle.ir_read.proofs.forms.form_inside.Goals as goal

pub returns-in-Ok : goal.returns-in-Ok
returns-in-Ok c = sym (body_read c.args.line.now c.args.t.now c.in-Ok.ensures.found)

pub returns-in-Err-NotALine : goal.returns-in-Err-NotALine
returns-in-Err-NotALine c =
    let said = rw c.in-Err-NotALine.field-0-is at c.in-Err-NotALine.ensures in
    unread_inside c.args.line.now c.args.t.now said.only
