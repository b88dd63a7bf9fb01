-- Trails of links, followed backward, and the cycle in one that comes back.
use Rattle.std.proofs.Common.{◌≡◌, ◌≢◌, ℕ, ◌+◌, ◌<◌, ◌≤◌, ◌==◌, ◌⊎◌, ◌||◌, List, [], ◌∷◌, ◌++◌, length, Bool, true, false, Some, Contains, All, refl, sym, ◌∙◌, ap, subst, inl, inr, arith, slice_index, slice_get, slice_set, get_or, reverse}
use Rattle.std.proofs.lemmas.Bool.Decides.{nat_tests}
use Rattle.std.proofs.lemmas.List.{reverse-append}
use Rattle.std.proofs.lemmas.Option.{slice_get_within, slice_get-get_or, get_or_from_slice_get}
use Rattle.std.proofs.lemmas.List.{get_or-set_same, get_or-set_other}
use Rattle.std.proofs.lemmas.List.Sorted.{list_any-IsPermutation, IsPermutation-reverse}
use Rattle.vx_order.proofs.Counts.{one_or_other, set_apart}
use Rattle.vx_order.proofs.Placing.{head_or_more, at_head, in_more, has-append}
use Rattle.vx_order.specs.Groups.{has}
use Rattle.vx_order.specs.Order.{Leads}
use Rattle.vx_order.specs.Backward.{IsOpenBefore, IsTrail}

-- a trail that comes back to `to` leads to it
pub leads_from_trail : (links : List (ℕ × ℕ)) (at to : ℕ) (front rest : List ℕ) → IsTrail links at (front ++ to ∷ rest) → Leads links at front to
leads_from_trail links at to [] rest t = t.0
leads_from_trail links at to (v ∷ vs) rest t = (t.0, leads_from_trail links v to vs rest t.1)

pub pair_eta : (a : ℕ × ℕ) (u v : ℕ) → a ≡ (u, v) → (a.0 ≡ u) × (a.1 ≡ v)
pair_eta a u v e = (ap (λ (p : ℕ × ℕ). p.0) e, ap (λ (p : ℕ × ℕ). p.1) e)

-- a link that is in its place is among the links
pub there : (links : List (ℕ × ℕ)) (k : ℕ) (l : ℕ × ℕ) → slice_get links k ≡ Some l → Contains links l
there links k l e = (k, slice_get_within links k l e, get_or_from_slice_get links k l l e)

-- both ends of a link are in range
pub from_within : (n : ℕ) (links : List (ℕ × ℕ)) (u v : ℕ) → All (λ l. (l.0 < n) × (l.1 < n)) links → Contains links (u, v) → u < n
from_within n links u v all c =
    let at : get_or links c.0 (u, v) ≡ (u, v) = c.2 in
    let first : (get_or links c.0 (u, v)).0 ≡ u = ap (λ (p : ℕ × ℕ). p.0) at in
    let low : (get_or links c.0 (u, v)).0 < n = (all c.0 (u, v) c.1).0 in
    omega (arith, first, low)

link_at : (links : List (ℕ × ℕ)) (i : ℕ) → i < length links → slice_get links i ≡ Some (get_or links i (0, 0))
link_at links i h = slice_get-get_or links i (0, 0) h

same_link : (links : List (ℕ × ℕ)) (i k u v : ℕ) → i < length links → k ≡ i → slice_get links k ≡ Some (u, v) → get_or links i (0, 0) ≡ (u, v)
same_link links i k u v h s at =
    let here : slice_get links i ≡ Some (get_or links i (0, 0)) = link_at links i h in
    let there_i : slice_get links i ≡ Some (u, v) = subst (λ n. slice_get links n ≡ Some (u, v)) s at in cc

-- one more link, from a number with open links
pub before_set : (links : List (ℕ × ℕ)) (counts before : List ℕ) (i : ℕ) → i < length links → (get_or links i (0, 0)).1 < length before → 0 < slice_index counts (get_or links i (0, 0)).0
    → ((k u v : ℕ) → k < i → slice_get links k ≡ Some (u, v) → 0 < slice_index counts u → IsOpenBefore links counts (slice_index before v) v)
    → (k u v : ℕ) → k < i + 1 → slice_get links k ≡ Some (u, v) → 0 < slice_index counts u → IsOpenBefore links counts (slice_index (slice_set before (get_or links i (0, 0)).1 (get_or links i (0, 0)).0) v) v
before_set links counts before i h w pos found k u v low at up = elim (one_or_other (get_or links i (0, 0)).1 v) [
  | inl s ↦ (let new : slice_index (slice_set before (get_or links i (0, 0)).1 (get_or links i (0, 0)).0) (get_or links i (0, 0)).1 ≡ (get_or links i (0, 0)).0
      = get_or-set_same before (get_or links i (0, 0)).1 (get_or links i (0, 0)).0 0 w in
      let here : IsOpenBefore links counts (get_or links i (0, 0)).0 (get_or links i (0, 0)).1 = record { link = there links i (get_or links i (0, 0)) (link_at links i h); is_open = pos } in
      let put : IsOpenBefore links counts (slice_index (slice_set before (get_or links i (0, 0)).1 (get_or links i (0, 0)).0) (get_or links i (0, 0)).1) (get_or links i (0, 0)).1
      = subst (λ n. IsOpenBefore links counts n (get_or links i (0, 0)).1) (sym new) here in
      subst (λ n. IsOpenBefore links counts (slice_index (slice_set before (get_or links i (0, 0)).1 (get_or links i (0, 0)).0) n) n) s put)
  | inr d ↦ elim (one_or_other k i) [
    | inl s ↦ absurd (d (ap (λ (p : ℕ × ℕ). p.1) (same_link links i k u v h s at)))
    | inr e ↦ subst (λ n. IsOpenBefore links counts n v) (sym (set_apart before (get_or links i (0, 0)).1 v (get_or links i (0, 0)).0 (λ q. d (sym q)))) (found k u v (omega arith) at up)
  ]
]

-- one more link, from a number without
pub before_kept : (links : List (ℕ × ℕ)) (counts before : List ℕ) (i : ℕ) → i < length links → slice_index counts (get_or links i (0, 0)).0 ≤ 0
    → ((k u v : ℕ) → k < i → slice_get links k ≡ Some (u, v) → 0 < slice_index counts u → IsOpenBefore links counts (slice_index before v) v)
    → (k u v : ℕ) → k < i + 1 → slice_get links k ≡ Some (u, v) → 0 < slice_index counts u → IsOpenBefore links counts (slice_index before v) v
before_kept links counts before i h none found k u v low at up = elim (one_or_other k i) [
  | inl s ↦ (let from : (get_or links i (0, 0)).0 ≡ u = ap (λ (p : ℕ × ℕ). p.0) (same_link links i k u v h s at) in
      let zero_u : slice_index counts u ≤ 0 = subst (λ n. slice_index counts n ≤ 0) from none in absurd (omega arith))
  | inr e ↦ found k u v (omega arith) at up
]

-- where each number with open links has a link from such a number, the links have shown it
pub all_before : (links : List (ℕ × ℕ)) (counts before : List ℕ) (i v : ℕ) → length links ≤ i → (u : ℕ) → IsOpenBefore links counts u v
    → ((k u v : ℕ) → k < i → slice_get links k ≡ Some (u, v) → 0 < slice_index counts u → IsOpenBefore links counts (slice_index before v) v)
    → IsOpenBefore links counts (slice_index before v) v
all_before links counts before i v h u b found =
    found b.link.0 u v (omega (arith, b.link.1)) (slice_get-get_or links b.link.0 (u, v) b.link.1 ∙ ap Some b.link.2) b.is_open

pub has-reverse : (xs : List ℕ) (v : ℕ) → has (reverse xs) v ≡ has xs v
has-reverse xs v = sym (list_any-IsPermutation (λ y. y == v) xs (reverse xs) (IsPermutation-reverse xs))

pub has_front : (xs ys : List ℕ) (v : ℕ) → has xs v ≡ true → has (xs ++ ys) v ≡ true
has_front [] ys v h = absurd (cc)
has_front (x ∷ xs) ys v h = elim (head_or_more x v xs h) [ inl e ↦ at_head x v (xs ++ ys) e | inr more ↦ in_more x v (xs ++ ys) (has_front xs ys v more) ]

pub has_last : (xs : List ℕ) (v w : ℕ) → has (xs ++ v ∷ []) w ≡ true → (has xs w ≡ true) ⊎ (v ≡ w)
has_last xs v w h = (let e : (has xs w || (v == w)) ≡ true = sym (has-append xs v w) ∙ h in grind (arith, nat_tests))

pub has_old : (xs : List ℕ) (v w : ℕ) → has xs w ≡ true → has (xs ++ v ∷ []) w ≡ true
has_old xs v w h = has_front xs (v ∷ []) w h

pub has_new : (xs : List ℕ) (v w : ℕ) → v ≡ w → has (xs ++ v ∷ []) w ≡ true
has_new xs v w e = has-append xs v w ∙ (grind (arith, nat_tests))

pub met_more : (met : List Bool) (trail : List ℕ) (at v : ℕ) → ((v : ℕ) → get_or met v false ≡ true → has trail v ≡ true) → get_or (slice_set met at true) v false ≡ true → has (trail ++ at ∷ []) v ≡ true
met_more met trail at v old h = elim (one_or_other at v) [
  | inl s ↦ has_new trail at v s
  | inr d ↦ (let other : v ≢ at = λ q. d (sym q) in
      let was : get_or (slice_set met at true) v false ≡ get_or met v false = rw get_or-set_other refl in
      has_old trail at v (old v (sym was ∙ h)))
]

pub reverse_last : (xs : List ℕ) (v : ℕ) → reverse (xs ++ v ∷ []) ≡ v ∷ reverse xs
reverse_last xs v = reverse-append xs (v ∷ [])
