-- What a token is, and what the tokens of a line are.
use Rattle.std.specs.Prelude.{◌≡◌, ℕ, ◌+◌, ◌≤◌, ◌==◌, Bool, true, false, cond, ◌&&◌, List, [], ◌∷◌, length, take, drop}
use Rattle.std.specs.List.{list_all}
use Rattle.ir_lex.specs.Bytes.{quote, semicolon, begins_name, is_word_byte, is_digit, is_sigil, is_mark, is_blank}
use Rattle.ir_lex.specs.Faults.{is_fault}
use Rattle.ir_lex.specs.declared.list.Token.{Token}

-- whether there are no bytes
abbrev pub is_empty : List ℕ → Bool
is_empty [] = true
is_empty (b ∷ bs) = false

-- whether these bytes, after an opening quote, end with the closing one: the first quote among them is the last byte
abbrev pub ends_string : List ℕ → Bool
ends_string [] = false
ends_string (b ∷ bs) = cond (b == quote) (is_empty bs) (ends_string bs)

-- a string: two quotes, and between them bytes that are no quotes
abbrev pub is_string : List ℕ → Bool
is_string [] = false
is_string (b ∷ bs) = b == quote && ends_string bs

-- a plain name, as it stands after `@` or `%`
abbrev pub is_name : List ℕ → Bool
is_name [] = false
is_name (b ∷ bs) = begins_name b && list_all is_word_byte bs

-- at least one digit
abbrev pub is_number : List ℕ → Bool
is_number [] = false
is_number (b ∷ bs) = is_digit b && list_all is_digit bs

-- the byte `b` and the bytes `bs` after it are a token
pub data IsToken (b : ℕ) (bs : List ℕ) : Type 0 where
  -- `@` or `%` and a plain name
  Name : is_sigil b ≡ true → is_name bs ≡ true → IsToken b bs
  -- `@` or `%` and a string
  QuotedName : is_sigil b ≡ true → is_string bs ≡ true → IsToken b bs
  -- `%` and digits: a local without a name
  Unnamed : b ≡ 37 → is_number bs ≡ true → IsToken b bs
  -- a string
  Text : is_string (b ∷ bs) ≡ true → IsToken b bs
  -- `!`, `#` or `^` and letters, digits, `-`, `$`, `.` and `_`, or none
  Mark : is_mark b ≡ true → list_all is_word_byte bs ≡ true → IsToken b bs
  -- a run of letters, digits, `-`, `$`, `.` and `_`
  Run : list_all is_word_byte (b ∷ bs) ≡ true → IsToken b bs
  -- a single byte
  Single : bs ≡ [] → IsToken b bs

-- of the tokens that begin with `b`, where `bs` are the bytes after it, the longest has `n` bytes after `b`
pub record Longest (b : ℕ) (bs : List ℕ) (n : ℕ) : Type 0 where
  pub within : n ≤ length bs
  pub stands : IsToken b (take n bs)
  pub longest : (m : ℕ) → m ≤ length bs → IsToken b (take m bs) → m ≤ n

-- `ts` are the tokens of the rest of a line whose first byte stands at the place `at`
pub data AreTokens : ℕ → List ℕ → List Token → Type 0 where
  -- at the line's end there is none
  End : (at : ℕ) → AreTokens at [] []
  -- a comment runs to the line's end
  Remark : (at : ℕ) (bs : List ℕ) → AreTokens at (semicolon ∷ bs) []
  -- spaces and tabs stand between tokens
  Blank : (at b : ℕ) (bs : List ℕ) (ts : List Token) → is_blank b ≡ true → AreTokens (at + 1) bs ts → AreTokens at (b ∷ bs) ts
  -- any other byte begins a token, the longest that begins there, and the tokens after it follow
  Next : (at b : ℕ) (bs : List ℕ) (n : ℕ) (ts : List Token) → is_blank b ≡ false → (b == semicolon) ≡ false → Longest b bs n →
      AreTokens (at + 1 + n) (drop n bs) ts → AreTokens at (b ∷ bs) (record { from = at; to = at + 1 + n } ∷ ts)

-- the line has no lexical fault, and `ts` are its tokens
pub record Lexed (line : List ℕ) (ts : List Token) : Type 0 where
  pub sound : (k : ℕ) → is_fault line k ≡ false
  pub tokens : AreTokens 0 line ts
