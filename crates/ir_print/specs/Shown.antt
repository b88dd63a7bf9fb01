-- What is shown of a value or a block: its written name, or its number.
use Rattle.std.specs.Prelude.{ℕ, List}
use Rattle.std.specs.Fmt.{decimal}
use Rattle.ir_print.specs.declared.form.Form.{Form}
use Rattle.ir_print.specs.declared.form.Form.TheVariants.{Written, Number}

abbrev pub form_text : Form → List ℕ
form_text (Written name) = name.now
form_text (Number n) = decimal n
