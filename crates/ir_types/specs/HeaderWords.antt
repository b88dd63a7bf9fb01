-- The words of a function's header: how parentheses nest, which words may stand among attributes, and where a reader sees the function's
-- name. (Language Reference, "Functions", "Parameter Attributes".)
use Rattle.std.specs.Prelude.{◌≡◌, refl, ℕ, ◌+◌, ◌-◌, Bool, true, false, not, ◌&&◌, ◌||◌, cond, List, [], ◌∷◌, codes, bytes_eq, nat_eq, nat_lt}
use Rattle.std.specs.List.{list_all}
use Rattle.std.specs.Char.{is_ascii_alphabetic, is_ascii_digit}
use Rattle.ir_lex.specs.Bytes.{quote}
use Rattle.ir_lex.specs.declared.list.Token.{Token}
use Rattle.ir_lex.specs.Words.{word}

-- the bytes from the first to the last of these tokens
abbrev pub last_to : ℕ → List Token → ℕ
last_to to [] = to
last_to to (t ∷ ts) = last_to t.to ts

abbrev pub span : List ℕ → List Token → List ℕ
span line [] = []
span line (t ∷ ts) = word line (record { from = t.from; to = last_to t.to ts })

-- whether a word is no byte of 128 or above
abbrev pub begins_ascii : List ℕ → Bool
begins_ascii [] = true
begins_ascii (b ∷ bs) = nat_lt b 128

-- at least one digit, and digits alone
abbrev pub is_digits : List ℕ → Bool
is_digits [] = false
is_digits (b ∷ bs) = list_all is_ascii_digit (b ∷ bs)

-- whether a word is a symbol by a plain name: `@`, and after it no quote
abbrev pub is_unquoted : List ℕ → Bool
is_unquoted [] = false
is_unquoted (b ∷ bs) = not (nat_eq b quote)

abbrev pub is_plain_symbol : List ℕ → Bool
is_plain_symbol [] = false
is_plain_symbol (b ∷ bs) = nat_eq b 64 && is_unquoted bs

-- how many parentheses are open after a word, where so many were open before it
abbrev pub depth_after : ℕ → List ℕ → ℕ
depth_after d t = cond (bytes_eq t (codes "(")) (d + 1) (cond (bytes_eq t (codes ")")) (d - 1) d)

-- a word of attributes outside parentheses: one that begins with a letter, a number, a string, or `=`
abbrev pub is_attribute : List ℕ → Bool
is_attribute [] = false
is_attribute (b ∷ bs) = is_ascii_alphabetic b || is_digits (b ∷ bs) || nat_eq b quote || nat_eq b 61

-- whether attributes go on with a word: inside parentheses with any
abbrev pub goes_on : ℕ → List ℕ → Bool
goes_on d t = not (nat_eq d 0) || is_attribute t || bytes_eq t (codes "(")

-- whether these words, with d parentheses open before them, are attributes, and all parentheses are closed after them
abbrev pub are_attributes : ℕ → List (List ℕ) → Bool
are_attributes d [] = nat_eq d 0
are_attributes d (t ∷ ts) = goes_on d t && are_attributes (depth_after d t) ts

-- whether the word `v` stands outside parentheses
abbrev pub stands : List ℕ → ℕ → List (List ℕ) → Bool
stands v d [] = false
stands v d (t ∷ ts) = nat_eq d 0 && bytes_eq t v || stands v (depth_after d t) ts

-- whether attributes put a header outside the profile
abbrev pub is_banned : List (List ℕ) → Bool
is_banned ts =
    stands (codes "byval") 0 ts || stands (codes "sret") 0 ts || stands (codes "inalloca") 0 ts || stands (codes "preallocated") 0 ts || stands (codes "inreg") 0 ts
    || stands (codes "nest") 0 ts || stands (codes "addrspace") 0 ts

-- whether the first word is `(`
abbrev pub opens : List (List ℕ) → Bool
opens [] = false
opens (t ∷ ts) = bytes_eq t (codes "(")

-- whether a reader that looks for the function's name, with d parentheses open, passes over these words and is outside parentheses
-- after them: none outside is a plain symbol that has `(` after it, and no `)` stands without its `(`
abbrev pub are_passed : ℕ → List (List ℕ) → Bool
are_passed d [] = nat_eq d 0
are_passed d (t ∷ ts) = not (nat_eq d 0 && is_plain_symbol t && opens ts) && (not (nat_eq d 0 && bytes_eq t (codes ")")) && are_passed (depth_after d t) ts)

-- a group in parentheses is an attribute, a pointer's star is none
group : are_attributes 0 (codes "dereferenceable" ∷ codes "(" ∷ codes "8" ∷ codes ")" ∷ []) ≡ true
group = refl

star : are_attributes 0 (codes "*" ∷ []) ≡ false
star = refl

-- a word in parentheses does not count
inside : stands (codes "sret") 0 (codes "x" ∷ codes "(" ∷ codes "sret" ∷ codes ")" ∷ []) ≡ false
inside = refl

-- a symbol in parentheses is passed over, a name with its parameters is not
personality : are_passed 0 (codes "dso_local" ∷ codes "(" ∷ codes "@f" ∷ codes "(" ∷ codes ")" ∷ codes ")" ∷ []) ≡ true
personality = refl

called : are_passed 0 (codes "@f" ∷ codes "(" ∷ codes ")" ∷ []) ≡ false
called = refl
