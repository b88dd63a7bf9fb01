-- Literals as they are printed are read again: lanes by their width, vectors as poison, zero or a list.
use Rattle.std.proofs.Common.{◌≡◌, ℕ, suc, zero, ◌-◌, ◌*◌, ◌^◌, ◌<◌, ◌≤◌, Bool, true, false, cond, ◌||◌, List, [], ◌∷◌, ◌++◌, length, replicate, nat_eq, nat_lt, nat_le, Option, Some, None, refl, sym, ◌∙◌, ap, subst, codes, append_assoc, arith, bytes_eq, eqb-true}
use Rattle.std.proofs.lemmas.Bool.Decides.{nat_tests}
use Rattle.std.proofs.lemmas.List.Elements.{All-head, All-tail}
use Rattle.std.specs.List.{list_all, All}
use Rattle.std.specs.Fmt.{decimal}
use Rattle.vx_digits.specs.Lanes.{number_text, lane_text}
use Rattle.vx_digits.specs.Numbers.{number_of, one_more, fitting, negative}
use Rattle.vx_digits.specs.Optional.{when}
use Rattle.vx_num.specs.Width.{IsLane}
use Rattle.ir_types.specs.declared.ty.Ty.{Ty}
use Rattle.ir_types.specs.declared.ty.Ty.TheVariants.{Void, Int, Ptr, Row}
use Rattle.ir_types.specs.Typed.{is_width, is_value, lane_width, lane_count}
use Rattle.ir_lex.specs.Bytes.{begins_name, is_word_byte, is_control}
use Rattle.ir_lex.specs.Scan.{texts}
use Rattle.ir_lex.proofs.Again.{stops, texts_space}
use Rattle.ir_lex.proofs.Classes.{both, clash}
use Rattle.ir_words.specs.Words.{Words}
use Rattle.ir_words.specs.Values.{decimal_of, bits_number, lane_of}
use Rattle.ir_forms.specs.Pieces.{Lane, SpellsList, LastLane, MoreLanes, SpellsRow, Poison, Zero, Listed, SpellsLanes, Scalar, NoPointer, Lanes}
use Rattle.ir_forms.proofs.Steps.{nothing, apart}
use Rattle.ir_print.specs.Literals.{more_lanes_text, lanes_text, vector_text, lits_text, is_poison, is_zero}
use Rattle.rf_text.proofs.Words.Read.{is_plain, plain_append, run_plain, is_run, run_texts}
use Rattle.rf_text.proofs.Words.Names.{run_is_plain}
use Rattle.rf_text.proofs.Words.Numbers.{decimal_is, decimal_read, decimal_run, decimal_word}
use Rattle.rf_text.proofs.Parts.Of.{Cut, comma_texts, less_texts, greater_texts}
use Rattle.rf_text.proofs.Parts.Types.{row_is, by_width, width_small, int_text, int_run, int_read}

-- numbers

no_minus : (bs : List ℕ) → number_of (45 ∷ bs) ≡ None
unfolding number_of one_more
no_minus bs = refl

no_true : number_of (codes "true") ≡ None
unfolding number_of one_more
no_true = refl

no_false : number_of (codes "false") ≡ None
unfolding number_of one_more
no_false = refl

no_digits : number_of [] ≡ None
unfolding number_of
no_digits = refl

no_leading_minus : (b n : ℕ) (bs : List ℕ) → number_of (b ∷ bs) ≡ Some n → nat_eq b 45 ≡ false
no_leading_minus b n bs e = here (nat_eq b 45) refl where
  here : (m : Bool) → nat_eq b 45 ≡ m → m ≡ false
  here true same = nothing (sym (no_minus bs) ∙ subst (λ (x : ℕ). number_of (x ∷ bs) ≡ Some n) (eqb-true b 45 same) e)
  here false other = refl

digits_decimal : (w n : ℕ) (t : List ℕ) → number_of t ≡ Some n → decimal_of w t ≡ fitting w n
unfolding decimal_of
digits_decimal w n [] e = nothing (sym no_digits ∙ e)
digits_decimal w n (b ∷ bs) e = rw (no_leading_minus b n bs e, e) refl

-- digits by themselves are a number that fits
digits_bits : (w n : ℕ) (t : List ℕ) → number_of t ≡ Some n → bits_number w t ≡ fitting w n
unfolding bits_number
digits_bits w n t e = rw (apart number_of (codes "true") t n no_true e, apart number_of (codes "false") t n no_false e) (digits_decimal w n t e)

minus_bits : (w k : ℕ) (t : List ℕ) → number_of t ≡ Some k → bits_number w (45 ∷ t) ≡ negative w k
unfolding bits_number decimal_of
minus_bits w k t e = rw e refl

fits_bits : (w n : ℕ) → w ≤ 64 → n < 2 ^ w → fitting w n ≡ Some n
unfolding fitting
fits_bits w n wide small =
    let narrow : nat_lt 64 w ≡ false = grind (arith, nat_tests) in
    let below : nat_lt n (2 ^ w) ≡ true = grind (arith, nat_tests) in
    rw (narrow, below) refl

minus_read : (w n p : ℕ) → w ≤ 64 → 2 ^ w ≡ 2 * p → p ≤ n → n < 2 ^ w → negative w (2 ^ w - n) ≡ Some n
unfolding negative
minus_read w n p wide double least small = plain w n p (2 ^ w) wide double least small where
  plain : (w n p q : ℕ) → w ≤ 64 → q ≡ 2 * p → p ≤ n → n < q → cond (nat_lt 64 w) None (cond (nat_eq (q - n) 0) (Some 0) (when (nat_le (2 * (q - n)) q) (q - (q - n)))) ≡ Some n
  plain w n p q wide double least small =
      let narrow : nat_lt 64 w ≡ false = grind (arith, nat_tests) in
      let some : nat_eq (q - n) 0 ≡ false = grind (arith, nat_tests) in
      let within : nat_le (2 * (q - n)) q ≡ true = grind (arith, nat_tests) in
      let back : q - (q - n) ≡ n = omega arith in
      rw (narrow, some, within, back) refl

-- one word, which is read as this number
pub record IsNumberWord (w n : ℕ) (t : List ℕ) : Type 0 where
  pub run : is_run t ≡ true
  pub read : bits_number w t ≡ Some n
  pub bare : bytes_eq t (codes "poison") ≡ false

abbrev pub NumberWord : ℕ → ℕ → Type 0
NumberWord w n = IsNumberWord w n (number_text w n)

no_poison : number_of (codes "poison") ≡ None
unfolding number_of one_more
no_poison = refl

wide_word : (w n p : ℕ) → nat_eq w 1 ≡ false → w ≤ 64 → 2 ^ (w - 1) ≡ p → 2 ^ w ≡ 2 * p → p ≤ 2 ^ 63 → n < 2 ^ w → NumberWord w n
unfolding is_word_byte begins_name
wide_word w n p many wide half double top small =
    rw (many, half) (here (nat_lt n p) refl) where
      here : (t : Bool) → nat_lt n p ≡ t → IsNumberWord w n (cond t (decimal n) (45 ∷ decimal (2 ^ w - n)))
      here true e =
          let less : n < 2 ^ 64 = omega arith in
          record {
            run = decimal_word n (decimal n) (decimal_is n less);
            read = digits_bits w n (decimal n) (decimal_read n less) ∙ fits_bits w n wide small;
            bare = apart number_of (codes "poison") (decimal n) n no_poison (decimal_read n less);
          }
      here false e =
          let least : p ≤ n = grind (arith, nat_tests) in
          let less : 2 ^ w - n < 2 ^ 64 = omega arith in
          record {
            run = decimal_run (2 ^ w - n) less;
            read = minus_bits w (2 ^ w - n) (decimal (2 ^ w - n)) (decimal_read (2 ^ w - n) less) ∙ minus_read w n p wide double least small;
            bare = refl;
          }

bit_word : (n : ℕ) → n < 2 → NumberWord 1 n
unfolding is_word_byte begins_name bits_number
bit_word zero h = record { run = refl; read = refl; bare = refl }
bit_word (suc zero) h = record { run = refl; read = refl; bare = refl }
bit_word (suc (suc n)) h = absurd (omega arith)

pub number_word : (w n : ℕ) → is_width w ≡ true → n < 2 ^ w → NumberWord w n
number_word w n h =
    by_width (λ w. n < 2 ^ w → NumberWord w n) w h (bit_word n)
    (wide_word 8 n (2 ^ 7) refl (omega arith) refl refl (omega arith))
    (wide_word 16 n (2 ^ 15) refl (omega arith) refl refl (omega arith))
    (wide_word 32 n (2 ^ 31) refl (omega arith) refl refl (omega arith))
    (wide_word 64 n (2 ^ 63) refl (omega arith) refl refl (omega arith))

-- a printed lane is one word, and is read again
pub record LaneWord (w : ℕ) (l : Option ℕ) : Type 0 where
  pub run : is_run (lane_text w l) ≡ true
  pub read : lane_of w (lane_text w l) ≡ Some l

pub lane_word : (w : ℕ) (l : Option ℕ) → is_width w ≡ true → IsLane w l → LaneWord w l
unfolding is_word_byte begins_name lane_of
lane_word w None h lane = record { run = refl; read = refl }
lane_word w (Some n) h lane = let word : NumberWord w n = number_word w n h lane in record { run = word.run; read = rw (word.bare, word.read) refl }

-- lists of lanes

-- a lane after its type
lane_words : (w : ℕ) (l : Option ℕ) (rest : List ℕ) → is_width w ≡ true → LaneWord w l → stops rest ≡ true →
    texts (int_text w ++ (32 ∷ (lane_text w l ++ rest))) ≡ int_text w ∷ lane_text w l ∷ texts rest
unfolding is_word_byte begins_name
lane_words w l rest h lane stop =
    run_texts (int_text w) (32 ∷ (lane_text w l ++ rest)) (int_run w (width_small w h)) refl
    ∙ ap (λ (ws : Words). int_text w ∷ ws) (texts_space (lane_text w l ++ rest) ∙ run_texts (lane_text w l) rest lane.run stop)

more_stops : (w : ℕ) (ls : List (Option ℕ)) (rest : List ℕ) → stops (more_lanes_text w ls ++ (62 ∷ rest)) ≡ true
unfolding is_word_byte begins_name
more_stops w [] rest = refl
more_stops w (l ∷ ls) rest = refl

list_spells : (w : ℕ) → is_width w ≡ true → (l : Option ℕ) (ls : List (Option ℕ)) → All (IsLane w) (l ∷ ls) → (rest : List ℕ) →
    SpellsList w (l ∷ ls) (texts (int_text w ++ (32 ∷ (lane_text w l ++ (more_lanes_text w ls ++ (62 ∷ rest)))))) (texts rest)
list_spells w h l [] all rest =
    let lane : LaneWord w l = lane_word w l h (All-head (IsLane w) l [] all) in
    rw (lane_words w l (62 ∷ rest) h lane (more_stops w [] rest), greater_texts rest)
    (LastLane l _ (texts rest) (Lane (int_text w) (lane_text w l) (codes ">" ∷ texts rest) (int_read w h) lane.read))
list_spells w h l (m ∷ ms) all rest =
    let lane : LaneWord w l = lane_word w l h (All-head (IsLane w) l (m ∷ ms) all) in
    let next : List ℕ = int_text w ++ (32 ∷ (lane_text w m ++ (more_lanes_text w ms ++ (62 ∷ rest)))) in
    let more : SpellsList w (m ∷ ms) (texts next) (texts rest) = list_spells w h m ms (All-tail (IsLane w) l (m ∷ ms) all) rest in
    let apart : more_lanes_text w (m ∷ ms) ++ (62 ∷ rest) ≡ 44 ∷ 32 ∷ next =
    ap (λ (bs : List ℕ). 44 ∷ 32 ∷ 105 ∷ bs)
    (append_assoc (decimal w) (32 ∷ (lane_text w m ++ more_lanes_text w ms)) (62 ∷ rest) ∙ ap (λ (bs : List ℕ). decimal w ++ (32 ∷ bs)) (append_assoc (lane_text w m) (more_lanes_text w ms) (62 ∷ rest))) in
    let words : texts (more_lanes_text w (m ∷ ms) ++ (62 ∷ rest)) ≡ codes "," ∷ texts next =
    ap texts apart ∙ comma_texts (32 ∷ next) ∙ ap (λ (ws : Words). codes "," ∷ ws) (texts_space next) in
    rw (lane_words w l (more_lanes_text w (m ∷ ms) ++ (62 ∷ rest)) h lane (more_stops w (m ∷ ms) rest), words)
    (MoreLanes l (m ∷ ms) _ (texts next) (texts rest) (Lane (int_text w) (lane_text w l) (codes "," ∷ texts next) (int_read w h) lane.read) more)

int_plain : (w : ℕ) → is_width w ≡ true → list_all is_plain (decimal w) ≡ true
int_plain w h = let small : w ≤ 64 = width_small w h in run_plain (decimal w) (decimal_run w (omega arith))

lane_plain : (w : ℕ) (l : Option ℕ) → is_width w ≡ true → IsLane w l → list_all is_plain (lane_text w l) ≡ true
lane_plain w l h lane = run_is_plain (lane_text w l) (lane_word w l h lane).run

more_plain : (w : ℕ) → is_width w ≡ true → (ls : List (Option ℕ)) → All (IsLane w) ls → list_all is_plain (more_lanes_text w ls) ≡ true
unfolding is_control
more_plain w h [] all = refl
more_plain w h (l ∷ ls) all =
    plain_append (decimal w) (32 ∷ (lane_text w l ++ more_lanes_text w ls)) (int_plain w h)
    (plain_append (lane_text w l) (more_lanes_text w ls) (lane_plain w l h (All-head (IsLane w) l ls all)) (more_plain w h ls (All-tail (IsLane w) l ls all)))

list_plain : (w : ℕ) → is_width w ≡ true → (ls : List (Option ℕ)) → All (IsLane w) ls → list_all is_plain (lanes_text w ls) ≡ true
unfolding is_control
list_plain w h [] all = refl
list_plain w h (l ∷ ls) all =
    plain_append (decimal w) (32 ∷ (lane_text w l ++ (more_lanes_text w ls ++ codes ">"))) (int_plain w h)
    (plain_append (lane_text w l) (more_lanes_text w ls ++ codes ">") (lane_plain w l h (All-head (IsLane w) l ls all))
    (plain_append (more_lanes_text w ls) (codes ">") (more_plain w h ls (All-tail (IsLane w) l ls all)) refl))

-- a list with its brackets
listed_cut : (n w : ℕ) → is_width w ≡ true → (l : Option ℕ) (ls : List (Option ℕ)) → length (l ∷ ls) ≡ n → All (IsLane w) (l ∷ ls) → Cut (SpellsRow n w (l ∷ ls)) (lanes_text w (l ∷ ls))
listed_cut n w h l ls many all = record {
  plain = list_plain w h (l ∷ ls) all;
  takes = λ rest stop.
      let inside : List ℕ = int_text w ++ (32 ∷ (lane_text w l ++ (more_lanes_text w ls ++ (62 ∷ rest)))) in
      let apart : lanes_text w (l ∷ ls) ++ rest ≡ 60 ∷ inside =
      ap (λ (bs : List ℕ). 60 ∷ 105 ∷ bs)
      (append_assoc (decimal w) (32 ∷ (lane_text w l ++ (more_lanes_text w ls ++ codes ">"))) rest
      ∙ ap (λ (bs : List ℕ). decimal w ++ (32 ∷ bs)) (append_assoc (lane_text w l) (more_lanes_text w ls ++ codes ">") rest ∙ ap (λ (bs : List ℕ). lane_text w l ++ bs) (append_assoc (more_lanes_text w ls) (codes ">") rest))) in
      rw (ap texts apart ∙ less_texts inside) (Listed (l ∷ ls) (texts inside) (texts rest) many (list_spells w h l ls all rest));
}

-- lanes that are all poison, or all zero
poisons : (ls : List (Option ℕ)) → list_all is_poison ls ≡ true → ls ≡ replicate (length ls) None
poisons [] h = refl
poisons (None ∷ ls) h = ap (λ (xs : List (Option ℕ)). None ∷ xs) (poisons ls h)
poisons (Some n ∷ ls) h = clash false refl h

zeros : (ls : List (Option ℕ)) → list_all is_zero ls ≡ true → ls ≡ replicate (length ls) (Some 0)
zeros [] h = refl
zeros (None ∷ ls) h = clash false refl h
zeros (Some n ∷ ls) h =
    let z : n ≡ 0 = eqb-true n 0 (both (nat_eq n 0) _ h).0 in
    rw z (ap (λ (xs : List (Option ℕ)). Some 0 ∷ xs) (zeros ls (both (nat_eq n 0) _ h).1))

poison_cut : (n w : ℕ) → Cut (SpellsRow n w (replicate n None)) (codes "poison")
unfolding is_word_byte begins_name is_control
poison_cut n w = record { plain = refl; takes = λ rest stop. rw (run_texts (codes "poison") rest refl stop) (Poison (texts rest)) }

zero_cut : (n w : ℕ) → Cut (SpellsRow n w (replicate n (Some 0))) (codes "zeroinitializer")
unfolding is_word_byte begins_name is_control
zero_cut n w = record { plain = refl; takes = λ rest stop. rw (run_texts (codes "zeroinitializer") rest refl stop) (Zero (texts rest)) }

pub vector_cut : (n w : ℕ) (ls : List (Option ℕ)) → is_width w ≡ true → length ls ≡ n → All (IsLane w) ls → Cut (SpellsRow n w ls) (vector_text w ls)
vector_cut n w ls h many all = here (list_all is_poison ls) (list_all is_zero ls) refl refl where
  listed : (ls : List (Option ℕ)) → length ls ≡ n → All (IsLane w) ls → list_all is_poison ls ≡ false → Cut (SpellsRow n w ls) (lanes_text w ls)
  listed [] many all e = clash true e refl
  listed (l ∷ ls) many all e = listed_cut n w h l ls many all

  here : (p z : Bool) → list_all is_poison ls ≡ p → list_all is_zero ls ≡ z → Cut (SpellsRow n w ls) (cond p (codes "poison") (cond z (codes "zeroinitializer") (lanes_text w ls)))
  here true z ep ez = let same : ls ≡ replicate n None = poisons ls ep ∙ ap (λ (k : ℕ). replicate k None) many in rw same (poison_cut n w)
  here false true ep ez = let same : ls ≡ replicate n (Some 0) = zeros ls ez ∙ ap (λ (k : ℕ). replicate k (Some 0)) many in rw same (zero_cut n w)
  here false false ep ez = listed ls many all ep

pub row_lanes_cut : (n w : ℕ) (ls : List (Option ℕ)) → is_width w ≡ true → length ls ≡ n → All (IsLane w) ls → Cut (SpellsLanes (Row n w) ls) (vector_text w ls)
row_lanes_cut n w ls h many all =
    let cut : Cut (SpellsRow n w ls) (vector_text w ls) = vector_cut n w ls h many all in
    record { plain = cut.plain; takes = λ rest stop. Lanes n w ls _ (texts rest) (cut.takes rest stop) }

lane_cut : (w : ℕ) (l : Option ℕ) → is_width w ≡ true → IsLane w l → Cut (SpellsLanes (Int w) (l ∷ [])) (lane_text w l)
lane_cut w l h lane =
    let word : LaneWord w l = lane_word w l h lane in
    record { plain = run_is_plain (lane_text w l) word.run; takes = λ rest stop. rw (run_texts (lane_text w l) rest word.run stop) (Scalar w l (lane_text w l) (texts rest) word.read) }

pointer_cut : Cut (SpellsLanes Ptr (None ∷ [])) (codes "poison")
unfolding is_word_byte begins_name is_control
pointer_cut = record { plain = refl; takes = λ rest stop. rw (run_texts (codes "poison") rest refl stop) (NoPointer (texts rest)) }

scalar_cut : (w : ℕ) (ls : List (Option ℕ)) → is_width w ≡ true → length ls ≡ 1 → All (IsLane w) ls → Cut (SpellsLanes (Int w) ls) (lits_text (Int w) ls)
scalar_cut w [] h many all = absurd (omega arith)
scalar_cut w (l ∷ []) h many all = lane_cut w l h (All-head (IsLane w) l [] all)
scalar_cut w (l ∷ m ∷ ls) h many all = absurd (omega arith)

-- the lanes of a literal of its type are read again; a pointer's must be poison
pub lits_cut : (t : Ty) (ls : List (Option ℕ)) → is_value t ≡ true → length ls ≡ lane_count t → All (IsLane (lane_width t)) ls → (t ≡ Ptr → ls ≡ None ∷ []) → Cut (SpellsLanes t ls) (lits_text t ls)
lits_cut Void ls h many all pointer = clash false refl h
lits_cut (Int w) ls h many all pointer = scalar_cut w ls (or_false (is_width w) h) many all where
  or_false : (b : Bool) → (b || false) ≡ true → b ≡ true
  or_false true h = refl
  or_false false h = h
lits_cut Ptr ls h many all pointer = let same : ls ≡ None ∷ [] = pointer refl in rw same pointer_cut
lits_cut (Row n w) ls h many all pointer = row_lanes_cut n w ls (row_is n w h).width many all
