-- The tokens and the first fault of a line, computed by one walk over its bytes.
use Rattle.std.specs.Prelude.{ℕ, suc, zero, ◌+◌, ◌==◌, cond, ◌||◌, List, [], ◌∷◌, take, Option, Some, None}
use Rattle.std.specs.List.{prefix_len}
use Rattle.ir_lex.specs.Bytes.{quote, semicolon, begins_name, is_word_byte, is_digit, is_sigil, is_mark, is_blank}
use Rattle.ir_lex.specs.Faults.{enter, begins_fault}
use Rattle.ir_lex.specs.declared.list.Token.{Token}
use Rattle.ir_lex.specs.declared.faults.Part.{Part}
use Rattle.ir_lex.specs.declared.faults.Part.TheVariants.{Plain}

-- one more, where there is something
abbrev pub one_more : ℕ → ℕ
one_more zero = zero
one_more (suc n) = suc (suc n)

-- how many bytes a string has after its opening quote, the closing one counted; 0 where it does not close
unfoldable pub string_len : List ℕ → ℕ
string_len [] = 0
string_len (b ∷ bs) = cond (b == quote) 1 (one_more (string_len bs))

-- how many bytes a name has after its sigil `b`
unfoldable pub name_len : ℕ → List ℕ → ℕ
name_len b [] = 0
name_len b (c ∷ cs) =
    cond (c == quote) (one_more (string_len cs))
    (cond (begins_name c) (1 + prefix_len is_word_byte cs)
    (cond (b == 37) (prefix_len is_digit (c ∷ cs)) 0))

-- how many bytes of the longest token that begins with `b` stand after it
unfoldable pub more_len : ℕ → List ℕ → ℕ
more_len b bs =
    cond (is_sigil b) (name_len b bs)
    (cond (b == quote) (string_len bs)
    (cond (is_mark b || is_word_byte b) (prefix_len is_word_byte bs) 0))

-- the tokens of the rest of a line whose first byte stands at the place `at`, where `left` more bytes are of the token before
abbrev pub cut_from : ℕ → ℕ → List ℕ → List Token
cut_from left at [] = []
cut_from (suc left) at (b ∷ bs) = cut_from left (at + 1) bs
cut_from zero at (b ∷ bs) =
    cond (is_blank b) (cut_from 0 (at + 1) bs)
    (cond (b == semicolon) []
    (record { from = at; to = at + 1 + more_len b bs } ∷ cut_from (more_len b bs) (at + 1) bs))

-- the tokens of a line
unfoldable pub cut : List ℕ → List Token
cut line = cut_from 0 0 line

-- the bytes of the tokens of the rest of a line, where `left` more bytes are of the token before
abbrev pub texts_from : ℕ → List ℕ → List (List ℕ)
texts_from left [] = []
texts_from (suc left) (b ∷ bs) = texts_from left bs
texts_from zero (b ∷ bs) =
    cond (is_blank b) (texts_from 0 bs)
    (cond (b == semicolon) []
    ((b ∷ take (more_len b bs) bs) ∷ texts_from (more_len b bs) bs))

-- the bytes of the tokens of a line
unfoldable pub texts : List ℕ → List (List ℕ)
texts line = texts_from 0 line

-- the place of the first fault of the rest of a line, whose first byte stands in `part` and at the place `at`
abbrev pub fault_from : Part → ℕ → List ℕ → Option ℕ
fault_from part at [] = None
fault_from part at (b ∷ bs) = cond (begins_fault part (b ∷ bs)) (Some at) (fault_from (enter part b) (at + 1) bs)

-- the place of the first fault of a line
abbrev pub fault_of : List ℕ → Option ℕ
fault_of line = fault_from Plain 0 line
