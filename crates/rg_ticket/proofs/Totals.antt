-- Sums over the hands as one hand changes or one is added, and how often a number stands in a longer list.
use Rattle.std.proofs.Common.{◌≡◌, ℕ, zero, suc, ◌+◌, ◌≤◌, List, [], ◌∷◌, ◌++◌, set, sym, refl, ap, subst, ⊎_elim, arith}
use mathlib.Core.Option.{some, some-injective, some-ne-none}
use lib.ListN.{get_elem?}
use Rattle.atomic_table.proofs.Lists.{at_set, at_snoc}
use Rattle.rg_ticket.specs.declared.hand.Hand.{Hand}
use Rattle.std.proofs.lemmas.Bool.Decides.{nat_tests}
use Rattle.rg_ticket.specs.Hands.{IsEachOnce, times}
use Rattle.rg_ticket.specs.Rule.{total, Each}

pub total_set : (f : Hand → ℕ) (hands : List Hand) (id : ℕ) (v w : Hand) → get_elem? hands id ≡ some v → total f (set hands id w) + f v ≡ total f hands + f w
total_set f [] id v w at = absurd (some-ne-none v (sym at))
total_set f (u ∷ us) zero v w at = let same : f u ≡ f v = ap f (some-injective u v at) in omega arith
total_set f (u ∷ us) (suc id) v w at = let rest = total_set f us id v w at in omega arith

pub total_snoc : (f : Hand → ℕ) (hands : List Hand) (w : Hand) → total f (hands ++ w ∷ []) ≡ total f hands + f w
total_snoc f [] w = omega arith
total_snoc f (u ∷ us) w = let rest = total_snoc f us w in omega arith

-- one hand is cut in two
pub total_cut : (f : Hand → ℕ) (hands : List Hand) (id : ℕ) (v l r : Hand) → get_elem? hands id ≡ some v
    → total f (set hands id l ++ r ∷ []) + f v ≡ total f hands + (f l + f r)
total_cut f hands id v l r at = let a = total_set f hands id v l at in let b = total_snoc f (set hands id l) r in omega arith

-- two hands are made one
pub total_join : (f : Hand → ℕ) (hands : List Hand) (id other : ℕ) (v w both rest : Hand) → get_elem? hands id ≡ some v → get_elem? (set hands id both) other ≡ some w
    → total f (set (set hands id both) other rest) + (f v + f w) ≡ total f hands + (f both + f rest)
total_join f hands id other v w both rest at at' = let a = total_set f hands id v both at in let b = total_set f (set hands id both) other w rest at' in omega arith

pub total_le : (f : Hand → ℕ) (hands : List Hand) (id : ℕ) (v : Hand) → get_elem? hands id ≡ some v → f v ≤ total f hands
total_le f [] id v at = absurd (some-ne-none v (sym at))
total_le f (u ∷ us) zero v at = let same : f u ≡ f v = ap f (some-injective u v at) in omega arith
total_le f (u ∷ us) (suc id) v at = let rest = total_le f us id v at in omega arith

pub total_below : (f g : Hand → ℕ) (hands : List Hand) → Each (λ u. f u ≤ g u) hands → total f hands ≤ total g hands
total_below f g [] each = omega arith
total_below f g (u ∷ us) each = let here : f u ≤ g u = each 0 u refl in let rest = total_below f g us (λ id v at. each (suc id) v at) in omega arith

all_zero : (weight f : Hand → ℕ) (hands : List Hand) → Each (λ u. weight u ≡ 0 → f u ≡ 0) hands → total weight hands ≡ 0 → total f hands ≡ 0
all_zero weight f [] each none = refl
all_zero weight f (u ∷ us) each none = let here : f u ≡ 0 = each 0 u refl (omega arith) in
    let rest = all_zero weight f us (λ id v at. each (suc id) v at) (omega arith) in omega arith

-- where one hand has all the weight, and f is zero where there is no weight, f of all hands is f of that one
pub in_one : (weight f : Hand → ℕ) (hands : List Hand) (id : ℕ) (v : Hand) → Each (λ u. weight u ≡ 0 → f u ≡ 0) hands → get_elem? hands id ≡ some v
    → total weight hands ≡ weight v → total f hands ≡ f v
in_one weight f [] id v each at all = absurd (some-ne-none v (sym at))
in_one weight f (u ∷ us) zero v each at all = let same : u ≡ v = some-injective u v at in let fs : f u ≡ f v = ap f same in let ws : weight u ≡ weight v = ap weight same in
    let rest = all_zero weight f us (λ id x there. each (suc id) x there) (omega arith) in omega arith
in_one weight f (u ∷ us) (suc id) v each at all = let le = total_le weight us id v at in let here : f u ≡ 0 = each 0 u refl (omega arith) in
    let rest = in_one weight f us id v (λ j x there. each (suc j) x there) at (omega arith) in omega arith

pub each_set : (F : Hand → Type 0) (hands : List Hand) (id : ℕ) (w : Hand) → F w → Each F hands → Each F (set hands id w)
each_set F hands id w new old j u at = ⊎_elim (λ h. subst F h.1 new) (λ h. old j u h.1) (at_set hands id j w u at)

pub each_snoc : (F : Hand → Type 0) (hands : List Hand) (w : Hand) → F w → Each F hands → Each F (hands ++ w ∷ [])
each_snoc F hands w new old j u at = ⊎_elim (λ h. old j u h) (λ h. subst F h new) (at_snoc hands w u j at)

pub times-append : (x : ℕ) (xs ys : List ℕ) → times x (xs ++ ys) ≡ times x xs + times x ys
times-append x [] ys = omega arith
times-append x (y ∷ xs) ys = let rest = times-append x xs ys in omega arith

-- what stands last in a list that has each number once stands nowhere before
pub new_number : (limit k : ℕ) (xs : List ℕ) → IsEachOnce limit (xs ++ k ∷ []) → times k xs ≡ 0
new_number limit k xs each = let once = each.once k in let more = times-append k xs (k ∷ []) in grind (arith, nat_tests)
