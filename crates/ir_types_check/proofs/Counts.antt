-- Two lists of blocks have each block as often exactly where they are one list once sorted.
use Rattle.std.proofs.Common.{◌≡◌, ℕ, ◌+◌, ◌<◌, ◌≤◌, suc, Bool, true, false, cond, ◌&&◌, ◌⊎◌, inl, inr, List, [], ◌∷◌, ◌++◌, length, get_or, refl, ap, sym, ◌∙◌, arith}
use Rattle.std.specs.Prelude.{nat_eq}
use Rattle.std.specs.List.{list_all}
use Rattle.std.specs.List.Sorted.{IsPermutation, IsNonDecreasingBy}
use Rattle.std.specs.Bool.{Decides}
use Rattle.std.proofs.lemmas.Bool.Decides.{Decides-eqb}
use Rattle.std.proofs.lemmas.List.Sums.{sum_by-append}
use Rattle.std.proofs.lemmas.List.Sorted.{sum_by-IsPermutation, IsNonDecreasingBy-drop}
use Rattle.ir_types_check.specs.Typed.{count, same_blocks}

-- ---- counts

abbrev one_if : Bool → ℕ
one_if c = cond c 1 0

count_cons : (b x : ℕ) (xs : List ℕ) → count b (x ∷ xs) ≡ one_if (nat_eq b x) + count b xs
count_cons b x xs = let e : count b ((x ∷ []) ++ xs) ≡ count b (x ∷ []) + count b xs = sum_by-append (λ y. one_if (nat_eq b y)) (x ∷ []) xs in omega (arith, e)

count_append : (b : ℕ) (xs ys : List ℕ) → count b (xs ++ ys) ≡ count b xs + count b ys
count_append b xs ys = sum_by-append (λ y. one_if (nat_eq b y)) xs ys

permuted : (b : ℕ) (xs us : List ℕ) → IsPermutation xs us → count b us ≡ count b xs
permuted b xs us p = sum_by-IsPermutation (λ y. one_if (nat_eq b y)) xs us p

both : (a b : Bool) → a && b ≡ true → (a ≡ true) × (b ≡ true)
both true b e = (refl, e)
both false b e = cc

-- a block stands not in the list, or what is said of all its members is said of the block
at_head : (t : ℕ → Bool) (b z : ℕ) (zs : List ℕ) → t z ≡ true → (count b zs ≡ 0) ⊎ (t b ≡ true) → (same : Bool) → nat_eq b z ≡ same → (count b (z ∷ zs) ≡ 0) ⊎ (t b ≡ true)
at_head t b z zs here later true s = inr (ap t ((Decides-eqb b z).0 s) ∙ here)
at_head t b z zs here (inl none) false s =
    let e : one_if (nat_eq b z) ≡ 0 = ap one_if s in
    let whole : count b (z ∷ zs) ≡ one_if (nat_eq b z) + count b zs = count_cons b z zs in
    inl (omega (arith, e, whole, none))
at_head t b z zs here (inr said) false s = inr said

all_at : (t : ℕ → Bool) (b : ℕ) (zs : List ℕ) → list_all t zs ≡ true → (count b zs ≡ 0) ⊎ (t b ≡ true)
all_at t b [] e = inl refl
all_at t b (z ∷ zs) e =
    let parts : (t z ≡ true) × (list_all t zs ≡ true) = both (t z) (list_all t zs) e in
    at_head t b z zs parts.0 (all_at t b zs parts.1) (nat_eq b z) refl

pub counts_equal : (xs ys : List ℕ) → same_blocks xs ys ≡ true → (b : ℕ) → count b xs ≡ count b ys
counts_equal xs ys e b = from (all_at (λ c. nat_eq (count c xs) (count c ys)) b (xs ++ ys) e) (count_append b xs ys) where
  from : (count b (xs ++ ys) ≡ 0) ⊎ (nat_eq (count b xs) (count b ys) ≡ true) → count b (xs ++ ys) ≡ count b xs + count b ys → count b xs ≡ count b ys
  from (inl none) sum = omega (arith, none, sum)
  from (inr said) sum = (Decides-eqb (count b xs) (count b ys)).0 said

all_true : (t : ℕ → Bool) → ((b : ℕ) → t b ≡ true) → (zs : List ℕ) → list_all t zs ≡ true
all_true t every [] = refl
all_true t every (z ∷ zs) = ap (λ c. c && list_all t zs) (every z) ∙ all_true t every zs

pub from_counts : (xs ys : List ℕ) → ((b : ℕ) → count b xs ≡ count b ys) → same_blocks xs ys ≡ true
from_counts xs ys every = all_true (λ b. nat_eq (count b xs) (count b ys)) (λ b. (Decides-eqb (count b xs) (count b ys)).1 (every b)) (xs ++ ys)

-- ---- sorted lists

abbrev pub Up : List ℕ → Type 0
Up xs = IsNonDecreasingBy (λ x. x) xs

-- what is counted stands somewhere
abbrev Stands : ℕ → List ℕ → Type 0
Stands b zs = (j : ℕ) × (j < length zs) × ((d : ℕ) → get_or zs j d ≡ b)

stands_at : (b z : ℕ) (zs : List ℕ) → 0 < count b (z ∷ zs) → (0 < count b zs → Stands b zs) → (same : Bool) → nat_eq b z ≡ same → Stands b (z ∷ zs)
stands_at b z zs some later true s = (0, omega arith, λ d. sym ((Decides-eqb b z).0 s))
stands_at b z zs some later false s =
    let e : one_if (nat_eq b z) ≡ 0 = ap one_if s in
    let whole : count b (z ∷ zs) ≡ one_if (nat_eq b z) + count b zs = count_cons b z zs in
    let there : Stands b zs = later (omega (arith, e, whole, some)) in
    let within : there.0 < length zs = there.1 in
    (suc there.0, omega (arith, within), there.2)

stands : (b : ℕ) (zs : List ℕ) → 0 < count b zs → Stands b zs
stands b [] some = absurd (omega (arith, some))
stands b (z ∷ zs) some = stands_at b z zs some (stands b zs) (nat_eq b z) refl

counted : (v : ℕ) (vs : List ℕ) → 0 < count v (v ∷ vs)
counted v vs =
    let e : one_if (nat_eq v v) ≡ 1 = ap one_if ((Decides-eqb v v).1 refl) in
    let whole : count v (v ∷ vs) ≡ one_if (nat_eq v v) + count v vs = count_cons v v vs in
    omega (arith, e, whole)

-- the first is the least
least : (u v : ℕ) (vs : List ℕ) → Up (v ∷ vs) → 0 < count u (v ∷ vs) → v ≤ u
least u v vs up some =
    let there : Stands u (v ∷ vs) = stands u (v ∷ vs) some in
    let low : v ≤ get_or (v ∷ vs) there.0 0 = up 0 there.0 0 (omega arith) there.1 in
    let is : get_or (v ∷ vs) there.0 0 ≡ u = there.2 0 in
    omega (arith, low, is)

tails : (u v : ℕ) (us vs : List ℕ) → u ≡ v → ((b : ℕ) → count b (u ∷ us) ≡ count b (v ∷ vs)) → (b : ℕ) → count b us ≡ count b vs
tails u v us vs same every b =
    let e : one_if (nat_eq b u) ≡ one_if (nat_eq b v) = ap (λ x. one_if (nat_eq b x)) same in
    let left : count b (u ∷ us) ≡ one_if (nat_eq b u) + count b us = count_cons b u us in
    let right : count b (v ∷ vs) ≡ one_if (nat_eq b v) + count b vs = count_cons b v vs in
    let whole : count b (u ∷ us) ≡ count b (v ∷ vs) = every b in
    omega (arith, e, left, right, whole)

sorted_equal : (us vs : List ℕ) → Up us → Up vs → ((b : ℕ) → count b us ≡ count b vs) → us ≡ vs
sorted_equal [] [] up vp every = refl
sorted_equal [] (v ∷ vs) up vp every = let some : 0 < count v (v ∷ vs) = counted v vs in let e : 0 ≡ count v (v ∷ vs) = every v in absurd (omega (arith, some, e))
sorted_equal (u ∷ us) [] up vp every = let some : 0 < count u (u ∷ us) = counted u us in let e : count u (u ∷ us) ≡ 0 = every u in absurd (omega (arith, some, e))
sorted_equal (u ∷ us) (v ∷ vs) up vp every =
    let one : 0 < count u (u ∷ us) = counted u us in
    let other : 0 < count v (v ∷ vs) = counted v vs in
    let e : count u (u ∷ us) ≡ count u (v ∷ vs) = every u in
    let f : count v (u ∷ us) ≡ count v (v ∷ vs) = every v in
    let below : v ≤ u = least u v vs vp (omega (arith, one, e)) in
    let above : u ≤ v = least v u us up (omega (arith, other, f)) in
    let same : u ≡ v = omega (arith, below, above) in
    ap (λ x. x ∷ us) same ∙ ap (λ xs. v ∷ xs) (sorted_equal us vs (IsNonDecreasingBy-drop (λ x. x) 1 (u ∷ us) up) (IsNonDecreasingBy-drop (λ x. x) 1 (v ∷ vs) vp) (tails u v us vs same every))

-- ---- both

decided : (r s : Bool) → (r ≡ true → s ≡ true) → (s ≡ true → r ≡ true) → r ≡ s
decided true s f g = sym (f refl)
decided false true f g = g refl
decided false false f g = refl

pub sorted_same : (xs ys us vs : List ℕ) (r : Bool) → IsPermutation xs us → IsPermutation ys vs → Up us → Up vs → Decides r (us ≡ vs) → r ≡ same_blocks xs ys
sorted_same xs ys us vs r p q up vp d =
    decided r (same_blocks xs ys)
    (λ said. from_counts xs ys (λ b. sym (permuted b xs us p) ∙ ap (count b) (d.0 said) ∙ permuted b ys vs q))
    (λ said. d.1 (sorted_equal us vs up vp (λ b. permuted b xs us p ∙ counts_equal xs ys said b ∙ sym (permuted b ys vs q))))

pub same_as_itself : (xs : List ℕ) → same_blocks xs xs ≡ true
same_as_itself xs = from_counts xs xs (λ b. refl)
