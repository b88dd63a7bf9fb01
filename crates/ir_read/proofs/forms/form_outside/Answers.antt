-- What is found is what is read.
use Rattle.std.proofs.Common.{sym}
use Rattle.ir_line.proofs.OutsideLines.{outside_read}
use Rattle.ir_read.proofs.LineForms.{unread_outside}
use Rattle.ir_read.proofs.forms.form_outside.Goals as goal

pub returns-in-Ok : goal.returns-in-Ok
returns-in-Ok c = sym (outside_read c.args.line.now c.args.t.now c.in-Ok.ensures.found)

pub returns-in-Err-NotALine : goal.returns-in-Err-NotALine
returns-in-Err-NotALine c =
    let said = rw c.in-Err-NotALine.field-0-is at c.in-Err-NotALine.ensures in
    unread_outside c.args.line.now c.args.t.now said.only
