-- What one word or a few say is of the profile: widths, types, lanes, literals, aligns.
use Rattle.std.proofs.Common.{◌≡◌, ℕ, suc, zero, ◌*◌, ◌-◌, ◌^◌, ◌<◌, Bool, true, false, ◌&&◌, List, [], ◌∷◌, length, Option, Some, None, refl, sym, subst, codes, bytes_eq, arith}
use Rattle.std.specs.Prelude.{nat_eq, nat_lt, nat_le, replicate}
use Rattle.std.specs.List.{All}
use Rattle.vx_num.specs.Width.{IsLane}
use Rattle.ir_types.specs.declared.ty.Ty.{Ty}
use Rattle.ir_types.specs.declared.ty.Ty.TheVariants.{Void, Int, Ptr, Row}
use Rattle.ir_types.specs.Typed.{is_width, is_count, is_vector, is_number, is_value, IsLiteral}
use Rattle.ir_words.specs.Words.{Words}
use Rattle.ir_words.specs.Values.{width_of, decimal_of, bits_number, lane_of}
use Rattle.ir_words.specs.Reading.{is_row}
use Rattle.ir_forms.specs.Pieces.{SpellsTy, Integer, Pointer, Vector, SpellsLane, Lane, SpellsList, LastLane, MoreLanes, SpellsRow, Poison, Zero, Splat, Listed, SpellsLanes, Scalar, NoPointer, Lanes}
use Rattle.std.proofs.lemmas.Nat.{pow_pos}
use Rattle.std.proofs.lemmas.Bool.Decides.{nat_tests}
use Rattle.std.proofs.lemmas.List.Elements.{All-nil, All-cons, All-replicate}
use Rattle.vx_digits.specs.Numbers.{number_of, fitting, negative}
use Rattle.ir_forms.proofs.Steps.{nothing, clash, some_is, cond_then, bind_then, when_then, both_true}

-- widths

pub width_is : (word : List ℕ) (w : ℕ) → width_of word ≡ Some w → is_width w ≡ true
unfolding width_of
width_is word w e =
    cond_then (bytes_eq word (codes "i1")) _ _ _ e (λ _ r. subst (λ v. is_width v ≡ true) (some_is r) refl) (λ _ a.
    cond_then (bytes_eq word (codes "i8")) _ _ _ a (λ _ r. subst (λ v. is_width v ≡ true) (some_is r) refl) (λ _ b.
    cond_then (bytes_eq word (codes "i16")) _ _ _ b (λ _ r. subst (λ v. is_width v ≡ true) (some_is r) refl) (λ _ c.
    cond_then (bytes_eq word (codes "i32")) _ _ _ c (λ _ r. subst (λ v. is_width v ≡ true) (some_is r) refl) (λ _ d.
    cond_then (bytes_eq word (codes "i64")) _ _ _ d (λ _ r. subst (λ v. is_width v ≡ true) (some_is r) refl) (λ _ none. nothing none)))))

-- types

pub row_is : (n w : ℕ) → is_row n w ≡ true → is_width w ≡ true → is_vector (Row n w) ≡ true
row_is n w r v = both (is_count n) (nat_le (n * w) 512) r v where
  both : (a b : Bool) → a && b ≡ true → is_width w ≡ true → a && is_width w && b ≡ true
  both true true r v = rw v refl
  both true false r v = clash (sym r)
  both false b r v = clash (sym r)

number_value : (t : Ty) → is_number t ≡ true → is_value t ≡ true
number_value Void e = clash (sym e)
number_value (Int w) e = e
number_value Ptr e = refl
number_value (Row n w) e = e

pub ty_value : {t : Ty} {ts rest : Words} → SpellsTy t ts rest → is_value t ≡ true
ty_value (Integer w word rest e) = rw (width_is word w e) refl
ty_value (Pointer rest) = refl
ty_value (Vector n w count word rest e f g) = row_is n w g (width_is word w f)

-- lanes

fitting_below : (w n k : ℕ) → fitting w n ≡ Some k → k < 2 ^ w
unfolding fitting
fitting_below w n k e =
    cond_then (nat_lt 64 w) _ _ _ e (λ _ none. nothing none) (λ _ r.
    when_then (nat_lt n (2 ^ w)) n k r (λ below same. subst (λ m. m < 2 ^ w) same (grind (arith, nat_tests))))

negative_below : (w n k : ℕ) → negative w n ≡ Some k → k < 2 ^ w
unfolding negative
negative_below w n k e =
    cond_then (nat_lt 64 w) _ _ _ e (λ _ none. nothing none) (λ _ r.
    cond_then (nat_eq n 0) _ _ _ r (λ _ zero'. subst (λ m. m < 2 ^ w) (some_is zero') (pow_pos w)) (λ other q.
    when_then (nat_le (2 * n) (2 ^ w)) (2 ^ w - n) k q (λ below same. subst (λ m. m < 2 ^ w) same (less w n other))))
  where
    less : (w n : ℕ) → nat_eq n 0 ≡ false → 2 ^ w - n < 2 ^ w
    less w n other = let some : 0 < n = grind (arith, nat_tests) in omega (arith, pow_pos w)

decimal_below : (w k : ℕ) (word : List ℕ) → decimal_of w word ≡ Some k → k < 2 ^ w
unfolding decimal_of
decimal_below w k [] e = nothing e
decimal_below w k (b ∷ bs) e =
    cond_then (nat_eq b 45) _ _ _ e
    (λ _ r. bind_then (number_of bs) (λ n. negative w n) k r (λ n _ q. negative_below w n k q))
    (λ _ r. bind_then (number_of (b ∷ bs)) (λ n. fitting w n) k r (λ n _ q. fitting_below w n k q))

pub number_below : (w k : ℕ) (word : List ℕ) → bits_number w word ≡ Some k → k < 2 ^ w
unfolding bits_number
number_below w k word e =
    cond_then (bytes_eq word (codes "true") && nat_eq w 1) _ _ _ e
    (λ one r. subst (λ m. m < 2 ^ w) (some_is r) (least w (both_true _ _ one).1))
    (λ _ q. cond_then (bytes_eq word (codes "false") && nat_eq w 1) _ _ _ q
    (λ one r. subst (λ m. m < 2 ^ w) (some_is r) (pow_pos w))
    (λ _ r. decimal_below w k word r))
  where
    least : (w : ℕ) → nat_eq w 1 ≡ true → 1 < 2 ^ w
    least w one = let same : w ≡ 1 = grind (arith, nat_tests) in subst (λ v. 1 < 2 ^ v) (sym same) (omega arith)

pub lane_fits : (w : ℕ) (l : Option ℕ) (word : List ℕ) → lane_of w word ≡ Some l → IsLane w l
unfolding lane_of
lane_fits w l word e =
    cond_then (bytes_eq word (codes "poison")) _ _ _ e
    (λ _ r. subst (λ m. IsLane w m) (some_is r) tt)
    (λ _ r. bind_then (bits_number w word) (λ n. Some (Some n)) l r (λ n is q. subst (λ m. IsLane w m) (some_is q) (number_below w n word is)))

-- lists of lanes

length_same : {A : Type 0} (n : ℕ) (a : A) → length (replicate n a) ≡ n
length_same zero a = refl
length_same (suc n) a = let e : length (replicate n a) ≡ n = length_same n a in omega arith

lane_of_list : {w : ℕ} {l : Option ℕ} {ts rest : Words} → SpellsLane w l ts rest → IsLane w l
lane_of_list {w} {l} (Lane word lane rest e f) = lane_fits w l lane f

list_fits : {w : ℕ} {ls : List (Option ℕ)} {ts rest : Words} → SpellsList w ls ts rest → All (IsLane w) ls
list_fits {w} (LastLane l ts rest s) = All-cons (IsLane w) l [] (lane_of_list s) (All-nil (IsLane w))
list_fits {w} (MoreLanes l ls ts us rest s more) = All-cons (IsLane w) l ls (lane_of_list s) (list_fits more)

row_fits : {n w : ℕ} {ls : List (Option ℕ)} {ts rest : Words} → SpellsRow n w ls ts rest → (length ls ≡ n) × All (IsLane w) ls
row_fits {n} {w} (Poison rest) = (length_same n None, All-replicate (IsLane w) n None tt)
row_fits {n} {w} (Zero rest) = (length_same n (Some 0), All-replicate (IsLane w) n (Some 0) (pow_pos w))
row_fits {n} {w} (Splat l ts rest s) = (length_same n l, All-replicate (IsLane w) n l (lane_of_list s))
row_fits (Listed ls ts rest e s) = (e, list_fits s)

-- the lanes of a literal of a type of the profile
pub lanes_fit : {t : Ty} {ls : List (Option ℕ)} {ts rest : Words} → is_value t ≡ true → SpellsLanes t ls ts rest → IsLiteral (record { ty = t; lanes = ls })
lanes_fit v (Scalar w l word rest e) = (v, refl, All-cons (IsLane w) l [] (lane_fits w l word e) (All-nil (IsLane w)))
lanes_fit v (NoPointer rest) = (v, refl, All-cons (IsLane 0) None [] tt (All-nil (IsLane 0)))
lanes_fit v (Lanes n w ls ts rest s) = let r : (length ls ≡ n) × All (IsLane w) ls = row_fits s in (v, r.0, r.1)

-- how many lanes a vector literal has
pub lanes_count : {n w : ℕ} {ls : List (Option ℕ)} {ts rest : Words} → SpellsLanes (Row n w) ls ts rest → length ls ≡ n
lanes_count (Lanes n w ls ts rest s) = (row_fits s).0
