-- What the types are that a form asks for at a place.
use Rattle.std.proofs.Common.{◌≡◌, ℕ, ◌*◌, ◌⊎◌, inl, inr, Bool, true, false, ◌&&◌, ◌||◌, refl, sym, ap, subst, arith}
use Rattle.std.specs.Prelude.{nat_eq, nat_le}
use Rattle.std.proofs.lemmas.Bool.Decides.{nat_tests}
use Rattle.ir_types.specs.declared.ty.Ty.{Ty}
use Rattle.ir_types.specs.declared.ty.Ty.TheVariants.{Void, Int, Ptr, Row}
use Rattle.ir_types.specs.Typed.{is_width, is_count, is_vector, is_scalar, is_number, is_value, is_stored, lane_width, with_width, same_ty}
use Rattle.ir_words.specs.declared.kinds.Kind.TheVariants as kind
use Rattle.ir_words.specs.Kinds.{fits, lanes_of, is_cast}
use Rattle.ir_forms.proofs.Steps.{clash, both_true, not_true}

eq_is : (a b : ℕ) → nat_eq a b ≡ true → a ≡ b
eq_is a b e = grind (arith, nat_tests)

-- widths of whole bytes

wide : (w : ℕ) → is_width w ≡ true → nat_eq w 1 ≡ false → nat_le 8 w ≡ true
wide w v other = grind (arith, nat_tests)

-- kinds

pub number : (t : Ty) → is_value t ≡ true → fits kind.Number t ≡ true → is_number t ≡ true
number Void v f = clash (sym f)
number (Int w) v f = v
number Ptr v f = clash (sym f)
number (Row n w) v f = v

scalar : (w : ℕ) → is_value (Int w) ≡ true → is_width w ≡ true
scalar w v = either (is_width w) v where
  either : (a : Bool) → a || false ≡ true → a ≡ true
  either true v = refl
  either false v = v

pub vector : (n w : ℕ) → is_value (Row n w) ≡ true → is_vector (Row n w) ≡ true
vector n w v = v

pub integer : (t : Ty) → is_value t ≡ true → fits kind.Integer t ≡ true → (w : ℕ) × (t ≡ Int w) × (is_width w ≡ true)
integer Void v f = clash (sym f)
integer (Int w) v f = (w, refl, scalar w v)
integer Ptr v f = clash (sym f)
integer (Row n w) v f = clash (sym f)

pub row : (t : Ty) → is_value t ≡ true → fits kind.Vector t ≡ true → (n w : ℕ) × (t ≡ Row n w) × (is_vector (Row n w) ≡ true)
row Void v f = clash (sym f)
row (Int w) v f = clash (sym f)
row Ptr v f = clash (sym f)
row (Row n w) v f = (n, w, refl, v)

pub row_width : (n w : ℕ) → is_vector (Row n w) ≡ true → is_width w ≡ true
row_width n w v = (both_true (is_count n) (is_width w) (both_true (is_count n && is_width w) (nat_le (n * w) 512) v).0).1

pub row_count : (n w : ℕ) → is_vector (Row n w) ≡ true → is_count n ≡ true
row_count n w v = (both_true (is_count n) (is_width w) (both_true (is_count n && is_width w) (nat_le (n * w) 512) v).0).0

pub pointer : (t : Ty) → fits kind.Pointer t ≡ true → t ≡ Ptr
pointer Void f = clash (sym f)
pointer (Int w) f = clash (sym f)
pointer Ptr f = refl
pointer (Row n w) f = clash (sym f)

pub bit : (t : Ty) → fits kind.Bit t ≡ true → t ≡ Int 1
bit Void f = clash (sym f)
bit (Int w) f = ap Int (eq_is w 1 f)
bit Ptr f = clash (sym f)
bit (Row n w) f = clash (sym f)

pub stored : (t : Ty) → is_value t ≡ true → fits kind.Stored t ≡ true → is_stored t ≡ true
stored Void v f = clash (sym f)
stored (Int w) v f = rw (v, wide w (scalar w v) (not_true _ f)) refl
stored Ptr v f = clash (sym f)
stored (Row n w) v f = rw (v, wide w (row_width n w v) (not_true _ f)) refl

pub byte : (t : Ty) → is_value t ≡ true → fits kind.Byte t ≡ true → (is_scalar t ≡ true) × (is_stored t ≡ true)
byte Void v f = clash (sym f)
byte (Int w) v f = (scalar w v, rw (v, wide w (scalar w v) (not_true _ f)) refl)
byte Ptr v f = clash (sym f)
byte (Row n w) v f = clash (sym f)

pub item : (w : ℕ) → is_width w ≡ true → nat_eq w 1 ≡ false → is_stored (Int w) ≡ true
item w v other = rw (v, wide w v other) refl

pub lane_of : (u t : Ty) → fits (kind.LaneOf u) t ≡ true → t ≡ Int (lane_width u)
lane_of u Void f = clash (sym f)
lane_of u (Int w) f = ap Int (eq_is w (lane_width u) f)
lane_of u Ptr f = clash (sym f)
lane_of u (Row n w) f = clash (sym f)

-- a comparison gives truth values, one for each lane
pub chosen : (c t : Ty) → is_value c ≡ true → is_value t ≡ true → fits kind.Choice c ≡ true → fits (kind.ChosenBy c) t ≡ true →
    (c ≡ Int 1) ⊎ ((is_vector t ≡ true) × (c ≡ with_width 1 t))
chosen Void t v u f g = clash (sym f)
chosen (Int w) t v u f g = inl (ap Int (eq_is w 1 f))
chosen Ptr t v u f g = clash (sym f)
chosen (Row n w) t v u f g = inr (lanes t u g) where
  some : nat_eq 0 n ≡ true → ⊥
  some none = let c : is_count n ≡ true = row_count n w v in let z : 0 ≡ n = eq_is 0 n none in let d : is_count 0 ≡ true = subst (λ m. is_count m ≡ true) (sym z) c in clash (sym d)

  lanes : (t : Ty) → is_value t ≡ true → nat_eq (lanes_of t) n ≡ true → (is_vector t ≡ true) × (Row n w ≡ with_width 1 t)
  lanes Void u g = absurd (some g)
  lanes (Int x) u g = absurd (some g)
  lanes Ptr u g = absurd (some g)
  lanes (Row m x) u g = (u, rw (eq_is m n g, eq_is w 1 f) refl)

-- the types of a cast have as many lanes
pub cast : (u t : Ty) → is_value u ≡ true → is_value t ≡ true → is_cast u t ≡ true →
    (is_number u ≡ true) × (is_number t ≡ true) × (t ≡ with_width (lane_width t) u)
cast (Int w) (Int v) p q e = (p, q, refl)
cast (Row n w) (Row m v) p q e = (p, q, rw (eq_is n m e) refl)
cast Void t p q e = clash (sym e)
cast Ptr t p q e = clash (sym e)
cast (Int w) Void p q e = clash (sym e)
cast (Int w) Ptr p q e = clash (sym e)
cast (Int w) (Row m v) p q e = clash (sym e)
cast (Row n w) Void p q e = clash (sym e)
cast (Row n w) (Int v) p q e = clash (sym e)
cast (Row n w) Ptr p q e = clash (sym e)
