-- A line without `!` has no attachments.
use Rattle.std.proofs.Common.{◌≡◌, ℕ, suc, ◌-◌, ◌==◌, ◌&&◌, Bool, true, false, cond, List, [], ◌∷◌, length, take, drop, codes, bytes_eq, nat_eq, None, refl, sym, subst, arith}
use Rattle.memchr.specs.Find.{IsFirstByte, is_byte}
use Rattle.ir_lex.specs.Words.{word, words}
use Rattle.ir_lex.specs.declared.list.Token.{Token}
use Rattle.ir_line.specs.Body.{is_mark, begins_mark, attachment_at}
use Rattle.ir_words.proofs.FirstBytes.{byte_of}

no_mark : (line : List ℕ) (k n : ℕ) → IsFirstByte (is_byte 33) line None → is_mark (take n (drop k line)) ≡ false
no_mark line k n none = here (take n (drop k line)) refl where
  other : (b : ℕ) (t : Bool) → nat_eq b 33 ≡ t → ((b == 33) ≡ true → ⊥) → t ≡ false
  other b true e differs = absurd (differs e)
  other b false e differs = refl

  here : (w : List ℕ) → take n (drop k line) ≡ w → is_mark w ≡ false
  here [] e = refl
  here (b ∷ bs) e =
      let at = byte_of line k n b bs e in
      other b (nat_eq b 33) refl (λ is. none k (omega arith) at.0 (subst (λ (x : ℕ). (x == 33) ≡ true) (sym at.1) is))

-- a line without `!` has no attachments
pub unmarked : (line : List ℕ) (ts : List Token) → IsFirstByte (is_byte 33) line None → attachment_at (words line ts) ≡ length ts
unfolding word
unmarked line [] none = refl
unmarked line (t ∷ ts) none = rw (here ts, unmarked line ts none) (either_way (bytes_eq (word line t) (codes ","))) where
  here : (ts : List Token) → begins_mark (words line ts) ≡ false
  here [] = refl
  here (u ∷ us) = no_mark line u.from (u.to - u.from) none

  either_way : (b : Bool) → cond (b && false) 0 (suc (length ts)) ≡ suc (length ts)
  either_way true = refl
  either_way false = refl
