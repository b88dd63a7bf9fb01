-- A formed module says of a header's kept parts by words of its own what the readers ask of a line: the same words.
use Rattle.std.proofs.Common.{◌≡◌, refl, sym, ap, ◌∙◌, ℕ, Bool, true, false, not, ◌&&◌, cond, None, Some, List, [], ◌∷◌, codes, bytes_eq, nat_eq}
use Rattle.std.specs.List.{list_all}
use Rattle.ir_lex.specs.Bytes.{quote}
use Rattle.ir_types.specs.HeaderWords as header_words
use Rattle.ir_types.specs.HeaderWords.{begins_ascii, is_unquoted, is_plain_symbol, opens, depth_after}
use Rattle.ir_words.specs.Words.{Words, is_first, is_ascii}
use Rattle.ir_words.specs.Values.{unquoted, symbol_of, is_some}
use Rattle.ir_line.specs.Headers.{is_callee}

-- ---- bytes of ASCII

same_ascii : (t : List ℕ) → begins_ascii t ≡ is_ascii t
same_ascii [] = refl
same_ascii (b ∷ bs) = refl

pub all_ascii : (ts : Words) → list_all begins_ascii ts ≡ list_all is_ascii ts
all_ascii [] = refl
all_ascii (t ∷ ts) = ap (λ b. b && list_all begins_ascii ts) (same_ascii t) ∙ ap (λ b. is_ascii t && b) (all_ascii ts)

-- ---- the function's name

same_quoted : (b : ℕ) (bs : List ℕ) (q : Bool) → not q ≡ is_some (cond q None (Some (b ∷ bs)))
same_quoted b bs true = refl
same_quoted b bs false = refl

same_unquoted : (bs : List ℕ) → is_unquoted bs ≡ is_some (unquoted bs)
same_unquoted [] = refl
same_unquoted (b ∷ bs) = same_quoted b bs (nat_eq b quote)

same_sigil : (bs : List ℕ) (s : Bool) → s && is_unquoted bs ≡ is_some (cond s (unquoted bs) None)
same_sigil bs true = same_unquoted bs
same_sigil bs false = refl

same_symbol : (t : List ℕ) → is_plain_symbol t ≡ is_some (symbol_of t)
unfolding symbol_of
same_symbol [] = refl
same_symbol (b ∷ bs) = same_sigil bs (nat_eq b 64)

same_opens : (ts : Words) → opens ts ≡ is_first (codes "(") ts
same_opens [] = refl
same_opens (t ∷ ts) = refl

same_callee : (d : ℕ) (t : List ℕ) (ts : Words) → nat_eq d 0 && is_plain_symbol t && opens ts ≡ is_callee d t ts
same_callee d t ts = ap (λ b. nat_eq d 0 && b && opens ts) (same_symbol t) ∙ ap (λ b. nat_eq d 0 && is_some (symbol_of t) && b) (same_opens ts)

-- whether a reader passes over these words, as the reader says it
abbrev pub are_passed : ℕ → Words → Bool
are_passed d [] = nat_eq d 0
are_passed d (t ∷ ts) = not (is_callee d t ts) && (not (nat_eq d 0 && bytes_eq t (codes ")")) && are_passed (depth_after d t) ts)

pub same_passed : (d : ℕ) (ts : Words) → header_words.are_passed d ts ≡ are_passed d ts
same_passed d [] = refl
same_passed d (t ∷ ts) =
    ap (λ b. not b && (not (nat_eq d 0 && bytes_eq t (codes ")")) && header_words.are_passed (depth_after d t) ts)) (same_callee d t ts)
    ∙ ap (λ b. not (is_callee d t ts) && (not (nat_eq d 0 && bytes_eq t (codes ")")) && b)) (same_passed (depth_after d t) ts)
