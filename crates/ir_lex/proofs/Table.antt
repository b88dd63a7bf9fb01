-- The table has the class of each byte, by computing at all 256.
use Rattle.std.proofs.Common.{◌≡◌, ℕ, ◌<◌, get_or, refl}
use Rattle.std.proofs.lemmas.Bool.{agree_below_at}
use Rattle.ir_lex.specs.Bytes.{begins_name, is_word_byte, is_digit, is_sigil, is_mark, is_blank, is_control, is_notable}
use Rattle.ir_lex.specs.Classes.{is_name_class, is_word_class, is_digit_class, is_sigil_class, is_mark_class, is_blank_class, is_control_class, is_notable_class}
use Rattle.ir_lex.specs.declared.bytes.Class.{Class}
use Rattle.ir_lex.specs.declared.bytes.TheConstants.{CLASSES}

pub begins_name_at : (other : Class) (b : ℕ) → b < 256 → is_name_class (get_or CLASSES b other) ≡ begins_name b
unfolding begins_name is_word_byte is_digit is_sigil is_mark is_blank is_control is_notable
begins_name_at other b lt = agree_below_at (λ k. is_name_class (get_or CLASSES k other)) begins_name 256 b refl lt

pub is_word_byte_at : (other : Class) (b : ℕ) → b < 256 → is_word_class (get_or CLASSES b other) ≡ is_word_byte b
unfolding begins_name is_word_byte is_digit is_sigil is_mark is_blank is_control is_notable
is_word_byte_at other b lt = agree_below_at (λ k. is_word_class (get_or CLASSES k other)) is_word_byte 256 b refl lt

pub is_digit_at : (other : Class) (b : ℕ) → b < 256 → is_digit_class (get_or CLASSES b other) ≡ is_digit b
unfolding begins_name is_word_byte is_digit is_sigil is_mark is_blank is_control is_notable
is_digit_at other b lt = agree_below_at (λ k. is_digit_class (get_or CLASSES k other)) is_digit 256 b refl lt

pub is_sigil_at : (other : Class) (b : ℕ) → b < 256 → is_sigil_class (get_or CLASSES b other) ≡ is_sigil b
unfolding begins_name is_word_byte is_digit is_sigil is_mark is_blank is_control is_notable
is_sigil_at other b lt = agree_below_at (λ k. is_sigil_class (get_or CLASSES k other)) is_sigil 256 b refl lt

pub is_mark_at : (other : Class) (b : ℕ) → b < 256 → is_mark_class (get_or CLASSES b other) ≡ is_mark b
unfolding begins_name is_word_byte is_digit is_sigil is_mark is_blank is_control is_notable
is_mark_at other b lt = agree_below_at (λ k. is_mark_class (get_or CLASSES k other)) is_mark 256 b refl lt

pub is_blank_at : (other : Class) (b : ℕ) → b < 256 → is_blank_class (get_or CLASSES b other) ≡ is_blank b
unfolding begins_name is_word_byte is_digit is_sigil is_mark is_blank is_control is_notable
is_blank_at other b lt = agree_below_at (λ k. is_blank_class (get_or CLASSES k other)) is_blank 256 b refl lt

pub is_control_at : (other : Class) (b : ℕ) → b < 256 → is_control_class (get_or CLASSES b other) ≡ is_control b
unfolding begins_name is_word_byte is_digit is_sigil is_mark is_blank is_control is_notable
is_control_at other b lt = agree_below_at (λ k. is_control_class (get_or CLASSES k other)) is_control 256 b refl lt

pub is_notable_at : (other : Class) (b : ℕ) → b < 256 → is_notable_class (get_or CLASSES b other) ≡ is_notable b
unfolding begins_name is_word_byte is_digit is_sigil is_mark is_blank is_control is_notable
is_notable_at other b lt = agree_below_at (λ k. is_notable_class (get_or CLASSES k other)) is_notable 256 b refl lt
