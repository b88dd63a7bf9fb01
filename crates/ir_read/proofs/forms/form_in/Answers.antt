-- The form by the tokens is the line's.
use Rattle.ir_read.proofs.LineForms.{form_of_tokens}
use Rattle.ir_read.proofs.forms.form_in.Goals as goal

pub returns : goal.returns
returns c = let lexed = c.in_ok-cut_into.ensures in rw (c.as_slice.ensures.value, form_of_tokens c.args.inside _ _ lexed) at c.form_by.ensures
