-- The types that a header has, by the words that spell them.
use Rattle.std.proofs.Common.{◌≡◌, ℕ, ◌-◌, ◌*◌, ◌≤◌, Bool, true, false, cond, ◌||◌, List, [], ◌∷◌, length, drop, Option, Some, None, codes, bytes_eq, nat_eq, nat_le, refl, sym, ◌∙◌, ap, subst, arith, eqb-true, length-drop}
use Rattle.std.specs.List.{list_all}
use Rattle.vx_digits.specs.Numbers.{number_of, one_more}
use Rattle.ir_lex.proofs.Classes.{both}
use Rattle.ir_types.specs.declared.ty.Ty.{Ty}
use Rattle.ir_types.specs.declared.ty.Ty.TheVariants.{Void, Int, Ptr, Row}
use Rattle.ir_types.specs.Typed.{is_width, is_count, is_vector, is_value}
use Rattle.ir_words.specs.Values.{width_of, unquoted, symbol_of, is_some}
use Rattle.ir_words.specs.Words.{Words, is_first}
use Rattle.ir_forms.specs.Pieces.{SpellsTy, Integer, Pointer, Vector}
use Rattle.ir_words.specs.Reading.{is_row, ty_at}
use Rattle.ir_line.specs.Headers.{ty_len, whole}
use Rattle.ir_forms.proofs.Parts.{ty_taken}
use Rattle.ir_forms.proofs.Steps.{nothing, some_is, cond_then, first_is, apart}
use Rattle.rf_text.specs.Headed.{is_returned}
use Rattle.rf_text.proofs.Heads.Types.{is_quiet}
use Rattle.ir_line.specs.CallSpelling.{SpellsRet, NoValue, Valued}

-- the widths that are read are those of the profile
width_said : (word : List ℕ) (w : ℕ) → width_of word ≡ Some w → is_width w ≡ true
unfolding width_of
width_said word w e =
    cond_then (bytes_eq word (codes "i1")) _ _ _ e (λ _ r. of 1 refl r) (λ _ e.
    cond_then (bytes_eq word (codes "i8")) _ _ _ e (λ _ r. of 8 refl r) (λ _ e.
    cond_then (bytes_eq word (codes "i16")) _ _ _ e (λ _ r. of 16 refl r) (λ _ e.
    cond_then (bytes_eq word (codes "i32")) _ _ _ e (λ _ r. of 32 refl r) (λ _ e.
    cond_then (bytes_eq word (codes "i64")) _ _ _ e (λ _ r. of 64 refl r) (λ _ e. nothing e))))) where
      of : (v : ℕ) → is_width v ≡ true → Some v ≡ Some w → is_width w ≡ true
      of v h r = subst (λ (x : ℕ). is_width x ≡ true) (some_is r) h

row_is_vector : (n w : ℕ) → is_row n w ≡ true → is_width w ≡ true → is_vector (Row n w) ≡ true
row_is_vector n w h k =
    let parts : (is_count n ≡ true) × (nat_le (n * w) 512 ≡ true) = both (is_count n) (nat_le (n * w) 512) h in
    rw (parts.0, parts.1, k) refl

right_true : (a b : Bool) → b ≡ true → a || b ≡ true
right_true true b h = refl
right_true false b h = h

-- a type that is spelled is of a value
pub spelled_value : {t : Ty} {ts rest : Words} → SpellsTy t ts rest → is_value t ≡ true
spelled_value (Integer w word rest h) = rw (width_said word w h) refl
spelled_value (Pointer rest) = refl
spelled_value (Vector n w count word rest hn hw row) = right_true false _ (row_is_vector n w row (width_said word w hw))

-- words that say something that no symbol says
no_symbol_word : {A : Type 0} (f : List ℕ → Option A) (word : List ℕ) (a : A) → ((bs : List ℕ) → f (64 ∷ bs) ≡ None) → f word ≡ Some a → is_some (symbol_of word) ≡ false
unfolding symbol_of
no_symbol_word f [] a never e = refl
no_symbol_word f (b ∷ bs) a never e = here (nat_eq b 64) refl where
  here : (t : Bool) → nat_eq b 64 ≡ t → is_some (cond t (unquoted bs) None) ≡ false
  here true s = nothing (sym (never bs) ∙ ap (λ (x : ℕ). f (x ∷ bs)) (sym (eqb-true b 64 s)) ∙ e)
  here false s = refl

quiet_word : {A : Type 0} (f : List ℕ → Option A) (word : List ℕ) (a : A) → f (codes "(") ≡ None → f (codes ")") ≡ None → ((bs : List ℕ) → f (64 ∷ bs) ≡ None) → f word ≡ Some a → is_quiet word ≡ true
quiet_word f word a open_none close_none never e = rw (apart f (codes "(") word a open_none e, apart f (codes ")") word a close_none e, no_symbol_word f word a never e) refl

width_quiet : (word : List ℕ) (w : ℕ) → width_of word ≡ Some w → is_quiet word ≡ true
unfolding width_of
width_quiet word w e = quiet_word width_of word w refl refl (λ bs. refl) e

number_quiet : (word : List ℕ) (n : ℕ) → number_of word ≡ Some n → is_quiet word ≡ true
unfolding number_of one_more
number_quiet word n e = quiet_word number_of word n refl refl (λ bs. refl) e

-- its words are no parentheses and no symbols
pub spelled_quiet : {t : Ty} {ts : Words} → SpellsTy t ts [] → list_all is_quiet ts ≡ true
unfolding symbol_of
spelled_quiet (Integer w word rest h) = rw (width_quiet word w h) refl
spelled_quiet (Pointer rest) = refl
spelled_quiet (Vector n w count word rest hn hw row) = rw (number_quiet count n hn, width_quiet word w hw) refl

pub ret_quiet : {t : Ty} {ts : Words} → SpellsRet t ts → list_all is_quiet ts ≡ true
unfolding symbol_of
ret_quiet NoValue = refl
ret_quiet (Valued _ _ s) = spelled_quiet s

value_returned : (t : Ty) → is_value t ≡ true → is_returned t ≡ true
value_returned Void h = refl
value_returned (Int w) h = h
value_returned Ptr h = h
value_returned (Row n w) h = h

pub ret_returned : {t : Ty} {ts : Words} → SpellsRet t ts → is_returned t ≡ true
ret_returned NoValue = refl
ret_returned (Valued t _ s) = value_returned t (spelled_value s)
