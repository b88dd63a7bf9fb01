-- The classes of bytes that tokens are made of, by their codes.
use Rattle.std.specs.Prelude.{ℕ, ◌==◌, Bool, not, ◌&&◌, ◌||◌, nat_lt}
use Rattle.std.specs.Char.{is_ascii_alphabetic, is_ascii_digit}

-- `"`
abbrev pub quote : ℕ
quote = 34

-- `;`, which begins a comment
abbrev pub semicolon : ℕ
semicolon = 59

-- a letter, `-`, `$`, `.` or `_`
unfoldable pub begins_name : ℕ → Bool
begins_name b = is_ascii_alphabetic b || b == 45 || b == 36 || b == 46 || b == 95

-- such a byte or a digit
unfoldable pub is_word_byte : ℕ → Bool
is_word_byte b = begins_name b || is_ascii_digit b

-- a decimal digit
unfoldable pub is_digit : ℕ → Bool
is_digit b = is_ascii_digit b

-- `@` or `%`
unfoldable pub is_sigil : ℕ → Bool
is_sigil b = b == 64 || b == 37

-- `!`, `#` or `^`
unfoldable pub is_mark : ℕ → Bool
is_mark b = b == 33 || b == 35 || b == 94

-- a space or a tab
unfoldable pub is_blank : ℕ → Bool
is_blank b = b == 32 || b == 9

-- a byte that may stand nowhere: below 32 and no tab, or 127
unfoldable pub is_control : ℕ → Bool
is_control b = nat_lt b 32 && not (b == 9) || b == 127

-- a byte that may be a fault, or may change the part of the line: a control byte, a quote or a semicolon
unfoldable pub is_notable : ℕ → Bool
is_notable b = is_control b || b == quote || b == semicolon
