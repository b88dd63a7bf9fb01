-- Aligns, and what is stepped over or made, as they are printed are read again.
use Rattle.std.proofs.Common.{◌≡◌, ℕ, suc, zero, ◌+◌, ◌*◌, ◌^◌, ◌<◌, ◌≤◌, Bool, true, false, not, ◌&&◌, ◌||◌, List, [], ◌∷◌, ◌++◌, nat_eq, nat_le, Option, Some, None, refl, sym, ◌∙◌, ap, codes, append_assoc, arith, eqb-true}
use Rattle.std.proofs.lemmas.Bool.Decides.{nat_tests}
use Rattle.std.specs.Fmt.{decimal}
use Rattle.std.specs.Int.{is_power_of_two}
use Rattle.std.specs.Int.RustNames.{count_ones}
use Rattle.std.proofs.lemmas.Nat.{ones_cat}
use Rattle.std.proofs.Math.Pow.{pow_pos}
use Rattle.ir_types.specs.declared.ty.Ty.{Ty}
use Rattle.ir_types.specs.declared.ty.Ty.TheVariants.{Void, Int, Ptr, Row}
use Rattle.ir_types.specs.declared.ty.Elem.{Elem}
use Rattle.ir_types.specs.declared.ty.Elem.TheVariants.{One, Array}
use Rattle.ir_types.specs.Typed.{is_width, is_scalar, is_number, is_value, is_stored, IsAlign, IsAlignIfAny, IsElem, lane_width}
use Rattle.ir_lex.specs.Bytes.{is_control, is_word_byte, begins_name}
use Rattle.ir_lex.specs.Scan.{texts}
use Rattle.ir_lex.proofs.Again.{stops, texts_space}
use Rattle.ir_lex.proofs.Classes.{both, clash}
use Rattle.ir_words.specs.Kinds.{fits, is_integer, is_vector}
use Rattle.ir_words.specs.Words.{Words}
use Rattle.ir_words.specs.Values.{align_of, is_align}
use Rattle.ir_words.specs.Reading.{length_of, item_of}
use Rattle.ir_forms.specs.Pieces.{Aligned, SpellsAligned, Absent, Given, SpellsElem, Single, Items}
use Rattle.ir_forms.specs.Forms.{slot}
use Rattle.ir_print.specs.Literals.{ty_text, elem_text}
use Rattle.ir_print.specs.Instructions.{align_text, given_align}
use Rattle.rf_text.proofs.Words.Read.{Taken, plain_append, run_plain, Told, is_run, run_texts}
use Rattle.rf_text.proofs.Words.Numbers.{decimal_is, decimal_read, decimal_run, decimal_word}
use Rattle.rf_text.proofs.Parts.Of.{Cut, comma_texts, open_texts, close_texts, told_last}
use Rattle.rf_text.proofs.Parts.Types.{kind_cut, width_small, int_text, int_run, int_read, x_texts}

-- a test that holds below a bound

each_below : (ℕ → Bool) → ℕ → Bool
each_below p zero = true
each_below p (suc n) = p n && each_below p n

below_at : (p : ℕ → Bool) (n k : ℕ) → each_below p n ≡ true → k < n → p k ≡ true
unfolding each_below
below_at p zero k h less = absurd (omega arith)
below_at p (suc n) k h less = here (nat_eq k n) refl (λ lower. below_at p n k (both (p n) _ h).1 lower) where
  here : (t : Bool) → nat_eq k n ≡ t → (k < n → p k ≡ true) → p k ≡ true
  here true e next = let same : k ≡ n = eqb-true k n e in rw same (both (p n) _ h).0
  here false e next = let lower : k < n = grind (arith, nat_tests) in next lower

within_bound : each_below (λ k. nat_le (2 ^ k) (2 ^ 32)) 33 ≡ true
unfolding each_below
within_bound = refl

power_small : (k : ℕ) → k ≤ 32 → nat_le (2 ^ k) (2 ^ 32) ≡ true
power_small k h = below_at (λ k. nat_le (2 ^ k) (2 ^ 32)) 33 k within_bound (omega arith)

-- a power of two has one bit
one_bit : (k : ℕ) → is_power_of_two (2 ^ k) ≡ true
unfolding count_ones
one_bit k =
    let whole : 1 * 2 ^ k + 0 ≡ 2 ^ k = omega arith in
    let bits : count_ones (1 * 2 ^ k + 0) ≡ 1 = ones_cat k 1 0 (pow_pos k) in
    let one : count_ones (2 ^ k) ≡ 1 = rw (sym whole) bits in
    rw one refl

align_small : (n : ℕ) → IsAlign n → n < 2 ^ 64
align_small n is = rw is.2 (here (2 ^ is.0) (power_small is.0 is.1)) where
  here : (m : ℕ) → nat_le m (2 ^ 32) ≡ true → m < 2 ^ 64
  here m h = grind (arith, nat_tests)

align_read : (n : ℕ) → IsAlign n → align_of (decimal n) ≡ Some n
unfolding align_of
align_read n is =
    let of_n : is_align n ≡ true = rw (is.2, one_bit is.0) (power_small is.0 is.1) in
    rw (decimal_read n (align_small n is), of_n) refl

-- a comma, a word, and a space
pub key_texts : (w rest : List ℕ) → is_run w ≡ true → texts (44 ∷ 32 ∷ (w ++ (32 ∷ rest))) ≡ codes "," ∷ w ∷ texts rest
unfolding is_word_byte begins_name
key_texts w rest h =
    comma_texts (32 ∷ (w ++ (32 ∷ rest)))
    ∙ ap (λ (ws : Words). codes "," ∷ ws) (texts_space (w ++ (32 ∷ rest)) ∙ run_texts w (32 ∷ rest) h refl ∙ ap (λ (ws : Words). w ∷ ws) (texts_space rest))

pub align_cut : (n : ℕ) → IsAlign n → Cut (SpellsAligned (Some n)) (align_text n)
unfolding is_control is_word_byte begins_name
align_cut n is = record {
  plain = run_plain (decimal n) (decimal_run n (align_small n is));
  takes = λ rest stop.
      rw (key_texts (codes "align") (decimal n ++ rest) refl, run_texts (decimal n) rest (decimal_word n (decimal n) (decimal_is n (align_small n is))) stop)
      (Given n (decimal n) (texts rest) (align_read n is));
}

-- an align at the end of a line, if one is there
pub told_align : (n : Option ℕ) → IsAlignIfAny n → Told (slot Aligned n ∷ []) (given_align n)
unfolding texts
told_align None is = record { plain = refl; spelled = ([], Absent [] refl, refl) }
told_align (Some n) is = told_last Aligned (Some n) (align_cut n is)

pub align_stops : (n : Option ℕ) → stops (given_align n) ≡ true
unfolding is_word_byte begins_name
align_stops None = refl
align_stops (Some n) = refl

-- kinds of what is stored

or_false : (b : Bool) → (b || false) ≡ true → b ≡ true
or_false true h = refl
or_false false h = h

wide_not_bit : (w : ℕ) → nat_le 8 w ≡ true → not (nat_eq w 1) ≡ true
wide_not_bit w h = grind (arith, nat_tests)

pub stored_value : (t : Ty) → is_stored t ≡ true → is_value t ≡ true
stored_value Void h = h
stored_value (Int w) h = (both (is_number (Int w)) _ h).0
stored_value Ptr h = clash false refl h
stored_value (Row n w) h = (both (is_number (Row n w)) _ h).0

-- what is stored is a number of more than one bit
pub stored_test : (t : Ty) → is_stored t ≡ true → (is_integer t || is_vector t) && not (nat_eq (lane_width t) 1) ≡ true
stored_test Void h = h
stored_test (Int w) h = wide_not_bit w (both (is_number (Int w)) _ h).1
stored_test Ptr h = clash false refl h
stored_test (Row n w) h = wide_not_bit w (both (is_number (Row n w)) _ h).1

pub byte_test : (t : Ty) → is_scalar t ≡ true → is_stored t ≡ true → is_integer t && not (nat_eq (lane_width t) 1) ≡ true
byte_test Void s h = s
byte_test (Int w) s h = wide_not_bit w (both (is_number (Int w)) _ h).1
byte_test Ptr s h = clash false refl s
byte_test (Row n w) s h = clash false refl s

-- arrays

abbrev array_text : ℕ → ℕ → List ℕ
array_text n w = codes "[" ++ (decimal n ++ (codes " x i" ++ (decimal w ++ codes "]")))

item_read : (w : ℕ) → is_stored (Int w) ≡ true → is_width w ≡ true → item_of (int_text w) ≡ Some w
unfolding item_of
item_read w h width = let wide : not (nat_eq w 1) ≡ true = wide_not_bit w (both (is_number (Int w)) _ h).1 in rw (int_read w width, wide) refl

array_cut : (k : Taken fits) (n w : ℕ) → is_stored (Int w) ≡ true → n ≤ 2 ^ 32 → Cut (SpellsElem k (Array n w)) (array_text n w)
unfolding is_control is_word_byte begins_name length_of
array_cut k n w h short = record {
  plain = plain_append (decimal n) (codes " x i" ++ (decimal w ++ codes "]")) (run_plain (decimal n) (decimal_run n less)) (plain_append (decimal w) (codes "]") (run_plain (decimal w) (decimal_run w narrow)) refl);
  takes = λ rest stop.
      rw (
        append_assoc (decimal n) (codes " x i" ++ (decimal w ++ codes "]")) rest,
        append_assoc (decimal w) (codes "]") rest,
        open_texts (decimal n ++ (codes " x i" ++ (decimal w ++ (93 ∷ rest)))),
        run_texts (decimal n) (codes " x i" ++ (decimal w ++ (93 ∷ rest))) (decimal_word n (decimal n) (decimal_is n less)) refl,
        x_texts (int_text w ++ (93 ∷ rest)),
        run_texts (int_text w) (93 ∷ rest) (int_run w (width_small w width)) refl,
        close_texts rest,
      )
      (Items n w (decimal n) (int_text w) (texts rest) length_read (item_read w h width));
} where
  width : is_width w ≡ true
  width = or_false (is_width w) (both (is_number (Int w)) _ h).0

  less : n < 2 ^ 64
  less = omega arith

  narrow : w < 2 ^ 64
  narrow = let small : w ≤ 64 = width_small w width in omega arith

  length_read : length_of (decimal n) ≡ Some n
  length_read = let within : nat_le n (2 ^ 32) ≡ true = grind (arith, nat_tests) in rw (decimal_read n less, within) refl

single_cut : (k : Taken fits) (t : Ty) → is_value t ≡ true → fits k t ≡ true → Cut (SpellsElem k (One t)) (ty_text t)
single_cut k t value fit = record {
  plain = (kind_cut k t value fit).plain;
  takes = λ rest stop. Single t _ (texts rest) ((kind_cut k t value fit).takes rest stop);
}

-- what an `alloca` makes, and what a `getelementptr` steps over
pub elem_cut : (k : Taken fits) (e : Elem) → IsElem e → ((t : Ty) → e ≡ One t → fits k t ≡ true) → Cut (SpellsElem k e) (elem_text e)
elem_cut k (One t) h fit = single_cut k t (stored_value t h) (fit t refl)
elem_cut k (Array n w) h fit = array_cut k n w h.0 h.1
