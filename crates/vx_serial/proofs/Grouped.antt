-- Groups of places: which one holds a place.
use Rattle.std.proofs.Common.{◌≡◌, refl, sym, ap, ◌∙◌, ℕ, zero, suc, ◌+◌, ◌<◌, ◌≤◌, ◌==◌, ◌⊎◌, inl, inr, Bool, true, false, not, ◌||◌, cond, Option, None, Some, List, [], ◌∷◌, ◌++◌, length, length-append, append-nil, map, filter, find, min, nat_lt, slice_get, get_or, option_and_then, arith}
use Rattle.std.specs.List.{list_all, range_with_len}
use Rattle.std.proofs.lemmas.Bool.Decides.{nat_tests}
use Rattle.std.proofs.lemmas.List.Folds.{find_at}
use Rattle.std.proofs.lemmas.List.Sums.{sum_by-cons}
use Rattle.vx_order.specs.Groups.{has, owner_of, position_of, least_of, least, least_from, size, positions, links_of}
use Rattle.vx_order.specs.Order.{is_ready, next, place}
use Rattle.vx_order.specs.Walks.{Ascends}
use Rattle.vx_order.proofs.Placing.{both, head_or_more, at_head, in_more}
use Rattle.vx_order.proofs.Holding.{range_has}
use Rattle.vx_serial.specs.Window.{joined}
use Rattle.vx_serial.proofs.Numbers.{has_append, has_front, has_back, Distinct, distinct_left, distinct_right, distinct_apart}
use Rattle.vx_serial.proofs.Decided.{not_true, true_false}

pub min_is : (p q : ℕ) → (min p q ≡ p) ⊎ (min p q ≡ q)
min_is p q = grind arith

pub has_least_from : (p : ℕ) (ps : List ℕ) → has (p ∷ ps) (least_from p ps) ≡ true
has_least_from p [] = at_head p p [] refl
has_least_from p (q ∷ qs) = elim (head_or_more (min p q) (least_from (min p q) qs) qs (has_least_from (min p q) qs)) [
  | inl e ↦ elim (min_is p q) [
    | inl s ↦ at_head p (least_from (min p q) qs) (q ∷ qs) (sym s ∙ e)
    | inr s ↦ in_more p (least_from (min p q) qs) (q ∷ qs) (at_head q (least_from (min p q) qs) qs (sym s ∙ e))
  ]
  | inr more ↦ in_more p (least_from (min p q) qs) (q ∷ qs) (in_more q (least_from (min p q) qs) qs more)
]

-- a group that holds a place holds its least
pub has_least : (group : List ℕ) (x : ℕ) → has group x ≡ true → has group (least group) ≡ true
has_least [] x h = absurd cc
has_least (p ∷ ps) x h = has_least_from p ps

pub owner_first : (g : List ℕ) (gs : List (List ℕ)) (x : ℕ) → owner_of (g ∷ gs) x ≡ cond (has g x) 0 (suc (owner_of gs x))
owner_first g gs x = by_test (has g x) refl where
  by_test : (b : Bool) → has g x ≡ b → owner_of (g ∷ gs) x ≡ cond b 0 (suc (owner_of gs x))
  by_test true e = rw e refl
  by_test false e = (let more : 1 + owner_of gs x ≡ suc (owner_of gs x) = omega arith in rw e more)

-- the group of a number
abbrev pub group_of : List (List ℕ) → ℕ → List ℕ
group_of groups v = get_or groups (owner_of groups v) []

pub owner_holds : (groups : List (List ℕ)) (x : ℕ) → has (joined groups) x ≡ true → has (group_of groups x) x ≡ true
owner_holds [] x h = absurd cc
owner_holds (g ∷ gs) x h = by_test (has g x) refl (λ k. owner_holds gs x k) where
  by_test : (b : Bool) → has g x ≡ b → (has (joined gs) x ≡ true → has (group_of gs x) x ≡ true) → has (group_of (g ∷ gs) x) x ≡ true
  by_test true e more = ap (λ k. has (get_or (g ∷ gs) k []) x) (owner_first g gs x ∙ ap (λ b. cond b 0 (suc (owner_of gs x))) e) ∙ e
  by_test false e more =
      ap (λ k. has (get_or (g ∷ gs) k []) x) (owner_first g gs x ∙ ap (λ b. cond b 0 (suc (owner_of gs x))) e)
      ∙ more (sym (ap (λ b. b || has (joined gs) x) e) ∙ sym (has_append g (joined gs) x) ∙ h)

pub in_joined : (groups : List (List ℕ)) (k x : ℕ) → has (get_or groups k []) x ≡ true → has (joined groups) x ≡ true
in_joined [] k x h = absurd cc
in_joined (g ∷ gs) zero x h = has_front g (joined gs) x h
in_joined (g ∷ gs) (suc k) x h = has_back g (joined gs) x (in_joined gs k x h)

pub owner_unique : (groups : List (List ℕ)) (k x : ℕ) → Distinct (joined groups) → has (get_or groups k []) x ≡ true → owner_of groups x ≡ k
owner_unique [] k x d h = absurd cc
owner_unique (g ∷ gs) zero x d h = owner_first g gs x ∙ ap (λ b. cond b 0 (suc (owner_of gs x))) h
owner_unique (g ∷ gs) (suc k) x d h =
    owner_first g gs x ∙ ap (λ b. cond b 0 (suc (owner_of gs x))) (not_true (has g x) (λ e. true_false (sym (in_joined gs k x h) ∙ distinct_apart g (joined gs) x d e)))
    ∙ ap suc (owner_unique gs k x (distinct_right g (joined gs) d) h)

pub distinct_group : (groups : List (List ℕ)) (k : ℕ) → Distinct (joined groups) → Distinct (get_or groups k [])
distinct_group [] k d = tt
distinct_group (g ∷ gs) zero d = distinct_left g (joined gs) d
distinct_group (g ∷ gs) (suc k) d = distinct_group gs k (distinct_right g (joined gs) d)

pub least_found : (groups : List (List ℕ)) (k : ℕ) → least_of (slice_get groups k) ≡ least (get_or groups k [])
least_found [] k = refl
least_found (g ∷ gs) zero = refl
least_found (g ∷ gs) (suc k) = least_found gs k

-- a position is told by the owner
pub position_is : (groups : List (List ℕ)) (p : ℕ) → position_of groups p ≡ least (group_of groups p)
position_is groups p = ap least_of (find_at (λ group. has group p) groups) ∙ least_found groups (owner_of groups p)

pub long_joined : (groups : List (List ℕ)) → length (joined groups) ≡ size groups
long_joined [] = refl
long_joined (g ∷ gs) =
    let e : size (g ∷ gs) ≡ length g + size gs = sum_by-cons length g gs in
    let long : length (g ++ joined gs) ≡ length g + length (joined gs) = length-append g (joined gs) in
    let rest = long_joined gs in omega arith

pub filter_passes : (p : ℕ → Bool) (xs : List ℕ) (v : ℕ) → has (filter p xs) v ≡ true → p v ≡ true
filter_passes p [] v h = absurd cc
filter_passes p (x ∷ xs) v h = by_test (p x) refl h (λ k. filter_passes p xs v k) where
  by_test : (b : Bool) → p x ≡ b → has (cond b (x ∷ filter p xs) (filter p xs)) v ≡ true → (has (filter p xs) v ≡ true → p v ≡ true) → p v ≡ true
  by_test true e h more = by_first (head_or_more x v (filter p xs) h) where
    by_first : (x ≡ v) ⊎ (has (filter p xs) v ≡ true) → p v ≡ true
    by_first (inl s) = ap p (sym s) ∙ e
    by_first (inr k) = more k
  by_test false e h more = more h
