-- What holds of all bytes of a line holds of the first bytes of its words.
use Rattle.std.proofs.Common.{◌≡◌, ℕ, suc, zero, ◌-◌, ◌<◌, true, List, [], ◌∷◌, length, take, drop, get_or, nat_lt, refl, subst, arith}
use Rattle.std.proofs.lemmas.Bool.Decides.{nat_tests}
use Rattle.std.specs.List.{list_all}
use Rattle.std.specs.Str.{IsAscii}
use Rattle.ir_lex.specs.Words.{word, words}
use Rattle.ir_lex.specs.declared.list.Token.{Token}
use Rattle.ir_words.specs.Words.{is_ascii}

-- a byte at the front of a piece of a line stands in the line
pub byte_of : (line : List ℕ) (k n b : ℕ) (bs : List ℕ) → take n (drop k line) ≡ b ∷ bs → (k < length line) × (get_or line k 0 ≡ b)
byte_of [] zero zero b bs e = cc
byte_of [] zero (suc n) b bs e = cc
byte_of [] (suc k) zero b bs e = cc
byte_of [] (suc k) (suc n) b bs e = cc
byte_of (x ∷ xs) zero zero b bs e = cc
byte_of (x ∷ xs) zero (suc n) b bs e = (omega arith, cc)
byte_of (x ∷ xs) (suc k) n b bs e = let r = byte_of xs k n b bs e in (omega arith, r.1)

below_128 : (b : ℕ) → b < 128 → nat_lt b 128 ≡ true
below_128 b l = grind (arith, nat_tests)

ascii_piece : (line : List ℕ) (k n : ℕ) → IsAscii line → is_ascii (take n (drop k line)) ≡ true
ascii_piece line k n all = here (take n (drop k line)) refl where
  here : (w : List ℕ) → take n (drop k line) ≡ w → is_ascii w ≡ true
  here [] e = refl
  here (b ∷ bs) e = below_128 b (subst (λ (x : ℕ). x < 128) (byte_of line k n b bs e).1 (all k))

-- the words of a line of ASCII are of ASCII
pub ascii_words : (line : List ℕ) (ts : List Token) → IsAscii line → list_all is_ascii (words line ts) ≡ true
unfolding word
ascii_words line [] all = refl
ascii_words line (t ∷ ts) all = rw (ascii_piece line t.from (t.to - t.from) all) (ascii_words line ts all)
