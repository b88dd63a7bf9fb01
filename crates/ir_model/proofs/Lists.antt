-- Bytes put over others, an item set in a list, and the lengths of the bytes of lanes.
use Rattle.std.proofs.Common.{◌≡◌, refl, sym, ap, ◌∙◌, ℕ, zero, suc, ◌+◌, ◌≤◌, None, Some, List, [], ◌∷◌, ◌++◌, length, slice_get, slice_set, arith}
use Rattle.ir_model.specs.Values.{Lane}
use Rattle.ir_model.specs.Memory.{put, lane_bytes}

pub put-nil : {A : Type 0} (xs : List A) (at : ℕ) → put xs at [] ≡ []
put-nil [] at = refl
put-nil (x ∷ xs) at = refl

-- what is put after the first item leaves it
pub put_further : {A : Type 0} (xs : List A) (n k : ℕ) (y : A) (ys : List A) → n ≡ suc k → put xs n (y ∷ ys) ≡ y ∷ put xs k ys
put_further [] n k y ys e = refl
put_further (x ∷ xs) n k y ys e = ap (λ m. put (x ∷ xs) m (y ∷ ys)) e

-- two lists put one after another
pub put-append : {A : Type 0} (xs ys : List A) (at : ℕ) (zs : List A) → put (xs ++ ys) at zs ≡ put ys (at + length xs) (put xs at zs)
put-append [] ys at zs = ap (λ n. put ys n zs) (omega arith)
put-append (x ∷ xs) ys at [] = sym (put-nil ys (at + length (x ∷ xs)))
put-append (x ∷ xs) ys zero (z ∷ zs) =
    ap (λ r. x ∷ r) (put-append xs ys zero zs) ∙ sym (put_further ys (zero + length (x ∷ xs)) (zero + length xs) x (put xs zero zs) (omega arith))
put-append (x ∷ xs) ys (suc at) (z ∷ zs) =
    ap (λ r. z ∷ r) (put-append (x ∷ xs) ys at zs)
    ∙ sym (put_further ys (suc at + length (x ∷ xs)) (at + length (x ∷ xs)) z (put (x ∷ xs) at zs) (omega arith))

-- lists that are put apart may be put in either order
pub put_comm : {A : Type 0} (xs ys : List A) (a b : ℕ) (zs : List A) → a + length xs ≤ b → put xs a (put ys b zs) ≡ put ys b (put xs a zs)
put_comm [] ys a b zs h = refl
put_comm (x ∷ xs) [] a b zs h = refl
put_comm (x ∷ xs) (y ∷ ys) a b [] h = refl
put_comm (x ∷ xs) (y ∷ ys) zero zero (z ∷ zs) h = absurd (omega arith)
put_comm (x ∷ xs) (y ∷ ys) zero (suc b) (z ∷ zs) h = ap (λ r. x ∷ r) (put_comm xs (y ∷ ys) zero b zs (omega arith))
put_comm (x ∷ xs) (y ∷ ys) (suc a) zero (z ∷ zs) h = absurd (omega arith)
put_comm (x ∷ xs) (y ∷ ys) (suc a) (suc b) (z ∷ zs) h = ap (λ r. z ∷ r) (put_comm (x ∷ xs) (y ∷ ys) a b zs (omega arith))

pub length-put : {A : Type 0} (xs : List A) (at : ℕ) (ys : List A) → length (put xs at ys) ≡ length ys
length-put [] at ys = refl
length-put (x ∷ xs) at [] = refl
length-put (x ∷ xs) zero (y ∷ ys) = ap suc (length-put xs zero ys)
length-put (x ∷ xs) (suc at) (y ∷ ys) = ap suc (length-put (x ∷ xs) at ys)

-- the item that was set, where there was one
pub slice_get-set_same : {A : Type 0} (xs : List A) (at : ℕ) (x y : A) → slice_get xs at ≡ Some x → slice_get (slice_set xs at y) at ≡ Some y
slice_get-set_same [] at x y e = cc
slice_get-set_same (z ∷ zs) zero x y e = refl
slice_get-set_same (z ∷ zs) (suc at) x y e = slice_get-set_same zs at x y e

pub length-lane_bytes : (k : ℕ) (lane : Lane) → length (lane_bytes k lane) ≡ k
length-lane_bytes zero lane = refl
length-lane_bytes (suc k) None = ap suc (length-lane_bytes k None)
length-lane_bytes (suc k) (Some n) = ap suc (length-lane_bytes k (Some _))
