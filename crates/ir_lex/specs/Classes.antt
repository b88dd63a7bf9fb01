-- Which classes of bytes make up each test.
use Rattle.std.specs.Prelude.{Bool, true, false}
use Rattle.ir_lex.specs.declared.bytes.Class.{Class}
use Rattle.ir_lex.specs.declared.bytes.Class.TheVariants.{Name, Digit, Blank, At, Percent, Mark, Quote, Remark, Control}

-- begins a plain name
abbrev pub is_name_class : Class → Bool
is_name_class Name = true
is_name_class _ = false

-- goes on in a plain name or a run
abbrev pub is_word_class : Class → Bool
is_word_class Name = true
is_word_class Digit = true
is_word_class _ = false

-- is a decimal digit
abbrev pub is_digit_class : Class → Bool
is_digit_class Digit = true
is_digit_class _ = false

-- begins a name
abbrev pub is_sigil_class : Class → Bool
is_sigil_class At = true
is_sigil_class Percent = true
is_sigil_class _ = false

-- begins a mark
abbrev pub is_mark_class : Class → Bool
is_mark_class Mark = true
is_mark_class _ = false

-- stands between tokens
abbrev pub is_blank_class : Class → Bool
is_blank_class Blank = true
is_blank_class _ = false

-- may stand nowhere
abbrev pub is_control_class : Class → Bool
is_control_class Control = true
is_control_class _ = false

-- may be a fault, or may change the part of the line
abbrev pub is_notable_class : Class → Bool
is_notable_class Quote = true
is_notable_class Remark = true
is_notable_class Control = true
is_notable_class _ = false
