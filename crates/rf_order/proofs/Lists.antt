-- Items of lists: what a setting, a putting and an appending leave.
use Rattle.std.proofs.Common.{◌≡◌, refl, sym, ap, ◌∙◌, ℕ, zero, suc, ◌+◌, ◌*◌, ◌<◌, ◌≤◌, ◌⊎◌, inl, inr, Some, List, [], ◌∷◌, ◌++◌, length, drop, slice_get, slice_set, arith}
use Rattle.ir_model.specs.Values.{Lane}
use Rattle.ir_model.specs.Memory.{put, with_low, lane_from}
use Rattle.ir_model.specs.Accesses.{lanes_from}

pub get_other : {A : Type 0} (xs : List A) (a b : ℕ) (x : A) → (a ≡ b → ⊥) → slice_get (slice_set xs a x) b ≡ slice_get xs b
get_other [] a b x h = refl
get_other (y ∷ xs) zero zero x h = absurd (h refl)
get_other (y ∷ xs) zero (suc b) x h = refl
get_other (y ∷ xs) (suc a) zero x h = refl
get_other (y ∷ xs) (suc a) (suc b) x h = get_other xs a b x (λ e. h (ap suc e))

pub set_comm : {A : Type 0} (xs : List A) (a b : ℕ) (x y : A) → (a ≡ b → ⊥) → slice_set (slice_set xs a x) b y ≡ slice_set (slice_set xs b y) a x
set_comm [] a b x y h = refl
set_comm (z ∷ xs) zero zero x y h = absurd (h refl)
set_comm (z ∷ xs) zero (suc b) x y h = refl
set_comm (z ∷ xs) (suc a) zero x y h = refl
set_comm (z ∷ xs) (suc a) (suc b) x y h = ap (λ r. z ∷ r) (set_comm xs a b x y (λ e. h (ap suc e)))

pub get_front : {A : Type 0} (xs ys : List A) (k : ℕ) (x : A) → slice_get xs k ≡ Some x → slice_get (xs ++ ys) k ≡ Some x
get_front [] ys k x e = absurd cc
get_front (z ∷ xs) ys zero x e = e
get_front (z ∷ xs) ys (suc k) x e = get_front xs ys k x e

pub get_within : {A : Type 0} (xs ys : List A) (k : ℕ) → k < length xs → slice_get (xs ++ ys) k ≡ slice_get xs k
get_within [] ys k h = absurd (omega arith)
get_within (x ∷ xs) ys zero h = refl
get_within (x ∷ xs) ys (suc k) h = get_within xs ys k (omega arith)

pub set_front : {A : Type 0} (xs ys : List A) (k : ℕ) (x y : A) → slice_get xs k ≡ Some x → slice_set (xs ++ ys) k y ≡ slice_set xs k y ++ ys
set_front [] ys k x y e = absurd cc
set_front (z ∷ xs) ys zero x y e = refl
set_front (z ∷ xs) ys (suc k) x y e = ap (λ r. z ∷ r) (set_front xs ys k x y e)

pub get_there : {A : Type 0} (xs : List A) (k : ℕ) → k < length xs → (x : A) × (slice_get xs k ≡ Some x)
get_there [] k h = absurd (omega arith)
get_there (x ∷ xs) zero h = (x, refl)
get_there (x ∷ xs) (suc k) h = get_there xs k (omega arith)

pub get_length : {A : Type 0} (xs : List A) (k : ℕ) (x : A) → slice_get xs k ≡ Some x → k < length xs
get_length [] k x e = absurd cc
get_length (z ∷ xs) zero x e = omega arith
get_length (z ∷ xs) (suc k) x e = let r = get_length xs k x e in omega arith

pub get_set_same : {A : Type 0} (xs : List A) (at : ℕ) (x y : A) → slice_get xs at ≡ Some x → slice_get (slice_set xs at y) at ≡ Some y
get_set_same [] at x y e = absurd cc
get_set_same (z ∷ zs) zero x y e = refl
get_set_same (z ∷ zs) (suc at) x y e = get_set_same zs at x y e

pub get_drop : {A : Type 0} (xs : List A) (n k : ℕ) → slice_get (drop n xs) k ≡ slice_get xs (n + k)
get_drop [] zero k = refl
get_drop [] (suc n) k = refl
get_drop (x ∷ xs) zero k = ap (slice_get (x ∷ xs)) (omega arith)
get_drop (x ∷ xs) (suc n) k = get_drop xs n k ∙ ap (slice_get (x ∷ xs)) (more n k)
  where
    more : (n k : ℕ) → suc (n + k) ≡ suc n + k
    more n k = omega arith

-- ---- bytes

pub put_other : {A : Type 0} (xs : List A) (at : ℕ) (ys : List A) (j : ℕ) → (j < at) ⊎ (at + length xs ≤ j) → slice_get (put xs at ys) j ≡ slice_get ys j
put_other [] at ys j h = refl
put_other (x ∷ xs) at [] j h = refl
put_other (x ∷ xs) zero (y ∷ ys) zero (inl h) = absurd (omega arith)
put_other (x ∷ xs) zero (y ∷ ys) zero (inr h) = absurd (omega arith)
put_other (x ∷ xs) zero (y ∷ ys) (suc j) (inl h) = absurd (omega arith)
put_other (x ∷ xs) zero (y ∷ ys) (suc j) (inr h) = put_other xs zero ys j (inr (omega arith))
put_other (x ∷ xs) (suc at) (y ∷ ys) zero h = refl
put_other (x ∷ xs) (suc at) (y ∷ ys) (suc j) (inl h) = put_other (x ∷ xs) at ys j (inl (omega arith))
put_other (x ∷ xs) (suc at) (y ∷ ys) (suc j) (inr h) = put_other (x ∷ xs) at ys j (inr (omega arith))

-- the first items of two lists are the same
abbrev pub Agree : {A : Type 0} → ℕ → List A → List A → Type 0
Agree n xs ys = (i : ℕ) → i < n → slice_get xs i ≡ slice_get ys i

pub lane_agrees : (k : ℕ) (xs ys : List Lane) → Agree k xs ys → lane_from k xs ≡ lane_from k ys
lane_agrees zero xs ys h = refl
lane_agrees (suc k) [] [] h = refl
lane_agrees (suc k) [] (y ∷ ys) h = absurd (let e = h 0 (omega arith) in cc)
lane_agrees (suc k) (x ∷ xs) [] h = absurd (let e = h 0 (omega arith) in cc)
lane_agrees (suc k) (x ∷ xs) (y ∷ ys) h =
    let first : Some x ≡ Some y = h 0 (omega arith) in
    let same : x ≡ y = cc in
    ap (λ b. with_low b (lane_from k xs)) same ∙ ap (with_low y) (lane_agrees k xs ys (λ i less. h (suc i) (omega arith)))

pub lanes_agree : (n k : ℕ) (xs ys : List Lane) → Agree (n * k) xs ys → lanes_from n k xs ≡ lanes_from n k ys
lanes_agree zero k xs ys h = refl
lanes_agree (suc n) k xs ys h =
    ap (λ l. l ∷ lanes_from n k (drop k xs)) (lane_agrees k xs ys (λ i less. h i (let u : suc n * k ≡ k + n * k = omega arith in omega arith)))
    ∙ ap (λ ls. lane_from k ys ∷ ls) (lanes_agree n k (drop k xs) (drop k ys) (λ i less. get_drop xs k i ∙ h (k + i) (let u : suc n * k ≡ k + n * k = omega arith in omega arith) ∙ sym (get_drop ys k i)))
