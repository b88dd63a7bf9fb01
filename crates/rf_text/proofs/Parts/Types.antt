-- Types as they are printed are read again.
use Rattle.std.proofs.Common.{◌≡◌, ℕ, ◌*◌, ◌^◌, ◌<◌, ◌≤◌, ◌==◌, inl, inr, Bool, true, false, ◌&&◌, ◌||◌, List, ◌∷◌, ◌++◌, nat_eq, nat_le, Some, refl, sym, ◌∙◌, ap, subst, codes, append_assoc, arith, eqb-true}
use Rattle.std.specs.List.{list_all}
use Rattle.std.specs.Fmt.{decimal, digits}
use Rattle.vx_digits.specs.Numbers.{number_of}
use Rattle.ir_types.specs.declared.ty.Ty.{Ty}
use Rattle.ir_types.specs.declared.ty.Ty.TheVariants.{Void, Int, Ptr, Row}
use Rattle.ir_types.specs.Typed.{is_width, is_count, is_vector, is_value}
use Rattle.ir_lex.specs.Bytes.{begins_name, is_word_byte, is_control}
use Rattle.ir_lex.specs.Scan.{texts}
use Rattle.ir_lex.proofs.Again.{texts_space}
use Rattle.ir_lex.proofs.Classes.{both, either, clash}
use Rattle.ir_words.specs.Kinds.{fits}
use Rattle.ir_words.specs.Words.{Words}
use Rattle.ir_words.specs.Values.{width_of}
use Rattle.ir_words.specs.Reading.{is_row}
use Rattle.ir_forms.specs.Pieces.{SpellsTy, SpellsKind, Integer, Pointer, Vector}
use Rattle.ir_print.specs.Literals.{ty_text}
use Rattle.rf_text.proofs.Words.Read.{Taken, is_plain, plain_append, run_plain, is_run, run_texts}
use Rattle.rf_text.proofs.Words.Numbers.{decimal_read, decimal_run}
use Rattle.rf_text.proofs.Parts.Of.{Cut, less_texts, greater_texts}

-- what holds of each width, and of each count of lanes

either_of : {P : Type 0} (a b : Bool) → (a || b) ≡ true → (a ≡ true → P) → (b ≡ true → P) → P
either_of a b h left right =
    elim (either a b h) [
      | inl e ↦ left e
      | inr e ↦ right e
    ]

at_number : (P : ℕ → Type 0) (w n : ℕ) → P n → (w == n) ≡ true → P w
at_number P w n h e = subst P (sym (eqb-true w n e)) h

pub by_width : (P : ℕ → Type 0) (w : ℕ) → is_width w ≡ true → P 1 → P 8 → P 16 → P 32 → P 64 → P w
by_width P w h p1 p8 p16 p32 p64 =
    either_of _ _ h
    (λ h. either_of _ _ h (λ h. either_of _ _ h (λ h. either_of _ _ h (at_number P w 1 p1) (at_number P w 8 p8)) (at_number P w 16 p16)) (at_number P w 32 p32))
    (at_number P w 64 p64)

pub by_count : (P : ℕ → Type 0) (n : ℕ) → is_count n ≡ true → P 2 → P 4 → P 8 → P 16 → P n
by_count P n h p2 p4 p8 p16 =
    either_of _ _ h
    (λ h. either_of _ _ h (λ h. either_of _ _ h (at_number P n 2 p2) (at_number P n 4 p4)) (at_number P n 8 p8))
    (at_number P n 16 p16)

pub width_small : (w : ℕ) → is_width w ≡ true → w ≤ 64
width_small w h = by_width (λ w. w ≤ 64) w h (omega arith) (omega arith) (omega arith) (omega arith) (omega arith)

pub count_small : (n : ℕ) → is_count n ≡ true → n ≤ 16
count_small n h = by_count (λ n. n ≤ 16) n h (omega arith) (omega arith) (omega arith) (omega arith)

-- the word of an integer type
abbrev pub int_text : ℕ → List ℕ
int_text w = 105 ∷ decimal w

pub int_read : (w : ℕ) → is_width w ≡ true → width_of (int_text w) ≡ Some w
unfolding width_of digits
int_read w h = by_width (λ w. width_of (int_text w) ≡ Some w) w h refl refl refl refl refl

pub small_run : (n : ℕ) → n ≤ 64 → list_all is_word_byte (decimal n) ≡ true
small_run n h = let less : n < 2 ^ 64 = omega arith in decimal_run n less

pub int_run : (w : ℕ) → w ≤ 64 → is_run (int_text w) ≡ true
unfolding is_word_byte begins_name
int_run w h = small_run w h

count_run : (n : ℕ) → is_count n ≡ true → is_run (decimal n) ≡ true
unfolding is_word_byte begins_name digits
count_run n h = by_count (λ n. is_run (decimal n) ≡ true) n h refl refl refl refl

count_read : (n : ℕ) → is_count n ≡ true → number_of (decimal n) ≡ Some n
count_read n h = let small : n ≤ 16 = count_small n h in let less : n < 2 ^ 64 = omega arith in decimal_read n less

-- parts of a vector's type
pub record IsRow (n w : ℕ) : Type 0 where
  pub count : is_count n ≡ true
  pub width : is_width w ≡ true
  pub within : nat_le (n * w) 512 ≡ true

pub row_is : (n w : ℕ) → is_vector (Row n w) ≡ true → IsRow n w
row_is n w h =
    let front : _ × _ = both (is_count n && is_width w) _ h in
    let one : _ × _ = both (is_count n) _ front.0 in
    record { count = one.0; width = one.1; within = front.1 }

pub row_read : (n w : ℕ) → IsRow n w → is_row n w ≡ true
row_read n w r = rw (r.within) (by_count (λ n. (nat_eq n 2 || nat_eq n 4 || nat_eq n 8 || nat_eq n 16) && true ≡ true) n r.count refl refl refl refl)

int_cut : (w : ℕ) → is_width w ≡ true → Cut (SpellsTy (Int w)) (int_text w)
unfolding is_control
int_cut w h = record {
  plain = let run : is_run (int_text w) ≡ true = int_run w (width_small w h) in run_plain (int_text w) run;
  takes = λ rest stop. rw (run_texts (int_text w) rest (int_run w (width_small w h)) stop) (Integer w (int_text w) (texts rest) (int_read w h));
}

-- a vector's type up to its end
abbrev pub row_text : ℕ → ℕ → List ℕ
row_text n w = codes "<" ++ (decimal n ++ (codes " x i" ++ (decimal w ++ codes ">")))

pub x_texts : (rest : List ℕ) → texts (codes " x " ++ rest) ≡ codes "x" ∷ texts rest
unfolding is_word_byte begins_name
x_texts rest = texts_space (codes "x " ++ rest) ∙ run_texts (codes "x") (32 ∷ rest) refl refl ∙ ap (λ (ws : Words). codes "x" ∷ ws) (texts_space rest)

row_words : (n w : ℕ) → IsRow n w → (rest : List ℕ) → texts (row_text n w ++ rest) ≡ codes "<" ∷ decimal n ∷ codes "x" ∷ int_text w ∷ codes ">" ∷ texts rest
unfolding is_word_byte begins_name
row_words n w r rest =
    rw (
      append_assoc (decimal n) (codes " x i" ++ (decimal w ++ codes ">")) rest,
      append_assoc (decimal w) (codes ">") rest,
      less_texts (decimal n ++ (codes " x i" ++ (decimal w ++ (62 ∷ rest)))),
      run_texts (decimal n) (codes " x i" ++ (decimal w ++ (62 ∷ rest))) (count_run n r.count) refl,
      x_texts (int_text w ++ (62 ∷ rest)),
      run_texts (int_text w) (62 ∷ rest) (int_run w (width_small w r.width)) refl,
      greater_texts rest,
    ) refl

row_plain : (n w : ℕ) → IsRow n w → list_all is_plain (row_text n w) ≡ true
unfolding is_control is_word_byte begins_name
row_plain n w r =
    let count : list_all is_plain (decimal n) ≡ true = run_plain (decimal n) (small_run n (omega (arith, count_small n r.count))) in
    let width : list_all is_plain (decimal w) ≡ true = run_plain (decimal w) (small_run w (width_small w r.width)) in
    plain_append (decimal n) (codes " x i" ++ (decimal w ++ codes ">")) count (plain_append (decimal w) (codes ">") width refl)

pub row_cut : (n w : ℕ) → IsRow n w → Cut (SpellsTy (Row n w)) (row_text n w)
row_cut n w r = record {
  plain = row_plain n w r;
  takes = λ rest stop. rw (row_words n w r rest) (Vector n w (decimal n) (int_text w) (texts rest) (count_read n r.count) (int_read w r.width) (row_read n w r));
}

ptr_cut : Cut (SpellsTy Ptr) (codes "ptr")
unfolding is_control is_word_byte begins_name
ptr_cut = record { plain = refl; takes = λ rest stop. rw (run_texts (codes "ptr") rest refl stop) (Pointer (texts rest)) }

-- a type of a value is read again
pub ty_cut : (t : Ty) → is_value t ≡ true → Cut (SpellsTy t) (ty_text t)
ty_cut Void h = clash false refl h
ty_cut (Int w) h = let width : is_width w ≡ true = or_false (is_width w) h in int_cut w width where
  or_false : (b : Bool) → (b || false) ≡ true → b ≡ true
  or_false true h = refl
  or_false false h = h
ty_cut Ptr h = ptr_cut
ty_cut (Row n w) h = row_cut n w (row_is n w h)

-- a type of a kind
pub kind_cut : (k : Taken fits) (t : Ty) → is_value t ≡ true → fits k t ≡ true → Cut (SpellsKind k t) (ty_text t)
kind_cut k t h fit = record { plain = (ty_cut t h).plain; takes = λ rest stop. record { spelled = (ty_cut t h).takes rest stop; fitting = fit } }
