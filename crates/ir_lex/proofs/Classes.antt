-- Which classes of bytes have no byte in common.
use Rattle.std.proofs.Common.{◌≡◌, ℕ, ◌==◌, Bool, true, false, ◌&&◌, ◌||◌, ◌⊎◌, inl, inr, refl, sym, subst, arith, eqb-true}
use Rattle.std.proofs.lemmas.Bool.Decides.{nat_tests}
use Rattle.std.specs.Char.{is_ascii_digit}
use Rattle.ir_lex.specs.Bytes.{quote, begins_name, is_word_byte, is_digit, is_sigil, is_mark}

pub both : (a b : Bool) → (a && b) ≡ true → (a ≡ true) × (b ≡ true)
both true b h = (refl, h)
both false b h = cc

pub either : (a b : Bool) → (a || b) ≡ true → (a ≡ true) ⊎ (b ≡ true)
either true b h = inl refl
either false b h = inr h

pub neither : (a b : Bool) → (a || b) ≡ false → (a ≡ false) × (b ≡ false)
neither true b h = cc
neither false b h = (refl, h)

-- a test that is both
pub clash : {P : Type 0} (a : Bool) → a ≡ false → a ≡ true → P
clash a f t = cc

pub by_quote : (P : ℕ → Type 0) → P 34 → (b : ℕ) → (b == quote) ≡ true → P b
by_quote P h b e = subst P (sym (eqb-true b 34 e)) h

pub by_sigil : (P : ℕ → Type 0) → P 64 → P 37 → (b : ℕ) → is_sigil b ≡ true → P b
unfolding is_sigil
by_sigil P h k b e =
    elim (either (b == 64) (b == 37) e) [
      | inl t ↦ subst P (sym (eqb-true b 64 t)) h
      | inr t ↦ subst P (sym (eqb-true b 37 t)) k
    ]

pub sigil_no_quote : (b : ℕ) → is_sigil b ≡ true → (b == quote) ≡ false
sigil_no_quote b s = by_sigil (λ x. (x == quote) ≡ false) refl refl b s

pub sigil_no_mark : (b : ℕ) → is_sigil b ≡ true → is_mark b ≡ false
unfolding is_mark
sigil_no_mark b s = by_sigil (λ x. is_mark x ≡ false) refl refl b s

pub sigil_no_word : (b : ℕ) → is_sigil b ≡ true → is_word_byte b ≡ false
unfolding is_word_byte begins_name
sigil_no_word b s = by_sigil (λ x. is_word_byte x ≡ false) refl refl b s

pub percent_sigil : (b : ℕ) → b ≡ 37 → is_sigil b ≡ true
unfolding is_sigil
percent_sigil b e = subst (λ x. is_sigil x ≡ true) (sym e) refl

pub quote_no_mark : (b : ℕ) → (b == quote) ≡ true → is_mark b ≡ false
unfolding is_mark
quote_no_mark b q = by_quote (λ x. is_mark x ≡ false) refl b q

pub quote_no_sigil : (b : ℕ) → (b == quote) ≡ true → is_sigil b ≡ false
unfolding is_sigil
quote_no_sigil b q = by_quote (λ x. is_sigil x ≡ false) refl b q

pub quote_no_word : (b : ℕ) → (b == quote) ≡ true → is_word_byte b ≡ false
unfolding is_word_byte begins_name
quote_no_word b q = by_quote (λ x. is_word_byte x ≡ false) refl b q

pub quote_no_name : (b : ℕ) → (b == quote) ≡ true → begins_name b ≡ false
unfolding begins_name
quote_no_name b q = by_quote (λ x. begins_name x ≡ false) refl b q

pub quote_no_digit : (b : ℕ) → (b == quote) ≡ true → is_digit b ≡ false
unfolding is_digit
quote_no_digit b q = by_quote (λ x. is_digit x ≡ false) refl b q

-- what begins a name is no digit
pub digit_no_name : (b : ℕ) → is_digit b ≡ true → begins_name b ≡ false
unfolding is_digit begins_name
digit_no_name b d = grind (arith, nat_tests)

pub digit_word : (b : ℕ) → is_digit b ≡ true → is_word_byte b ≡ true
unfolding is_digit is_word_byte
digit_word b d = grind (arith, nat_tests)

pub name_word : (b : ℕ) → begins_name b ≡ true → is_word_byte b ≡ true
unfolding is_word_byte
name_word b n = rw n refl

pub no_word_no_name : (b : ℕ) → is_word_byte b ≡ false → begins_name b ≡ false
unfolding is_word_byte
no_word_no_name b w = (neither (begins_name b) (is_ascii_digit b) w).0

pub mark_no_quote : (b : ℕ) → is_mark b ≡ true → (b == quote) ≡ false
mark_no_quote b m = here (b == quote) refl where
  here : (t : Bool) → (b == quote) ≡ t → t ≡ false
  here true q = clash (is_mark b) (quote_no_mark b q) m
  here false q = refl
