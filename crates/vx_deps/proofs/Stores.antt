-- The stores that are left to look at.
use Rattle.std.proofs.Common.{◌≡◌, refl, sym, ap, ◌∙◌, Bool, true, false, ◌||◌, None, Some, List, [], ◌∷◌, map, cond}
use Rattle.ir_types.specs.declared.id.Id.{Id}
use Rattle.ir_types.specs.declared.module.Module.{Module}
use Rattle.ir_types.specs.Available.{same_id}
use Rattle.ir_types.proofs.Among.{same_is, same_itself}
use Rattle.vx_view.specs.declared.question.Question.{Question}
use Rattle.vx_deps.specs.Reach.{has, has_all, first_with, parts, looked_ids, reach, LooksFor, LooksAt}

-- those left are among all
abbrev pub AreOf : List Id → List Id → Type 0
AreOf left all = (x : Id) → has left x ≡ true → has all x ≡ true

pub of_itself : (all : List Id) → AreOf all all
of_itself all x h = h

pub fewer : (s : Id) (left all : List Id) → AreOf (s ∷ left) all → AreOf left all
fewer s left all h x e = h x (by_test (same_id x s))
  where
    by_test : (b : Bool) → (b || has left x) ≡ true
    by_test true = refl
    by_test false = e

pub looks_for : (m : Module) (s : Id) (left all : List Id) → AreOf (s ∷ left) all → (q : Question) → LooksAt m s q → LooksFor m all q
looks_for m s left all h q l = (s, h s (ap (λ b. b || has left s) (same_itself s)), l)

-- what the stores left lead to is the reach of all
abbrev pub IsLeft : Module → List Id → List Id → Type 0
IsLeft m left all = first_with all (map (looked_ids m) left) ≡ reach m all

pub is_with : (m : Module) (s : Id) (left all ids : List Id) → IsLeft m (s ∷ left) all → ids ≡ looked_ids m s → has_all ids all ≡ true → Some ids ≡ reach m all
is_with m s left all ids e r h =
    ap Some r ∙ ap (λ b. cond b (Some (looked_ids m s)) (first_with all (map (looked_ids m) left))) (sym h ∙ ap (λ l. has_all l all) r) ∙ e

pub is_without : (m : Module) (s : Id) (left all ids : List Id) → IsLeft m (s ∷ left) all → ids ≡ looked_ids m s → has_all ids all ≡ false → IsLeft m left all
is_without m s left all ids e r h =
    ap (λ b. cond b (Some (looked_ids m s)) (first_with all (map (looked_ids m) left))) (sym h ∙ ap (λ l. has_all l all) r) ∙ e

-- the first of those left, and the others
pub parts_is : (xs ys : List Id) (x : Id) → Some (x, ys) ≡ parts xs → xs ≡ x ∷ ys
parts_is [] ys x e = absurd (some_none e)
  where
    some_none : {A : Type 0} {a : A} → Some a ≡ None → ⊥
    some_none e = cc
parts_is (z ∷ xs) ys x e = let s = some_is e in ap (λ (p : Id × List Id). p.0 ∷ p.1) (sym s)
  where
    some_is : {A : Type 0} {a b : A} → Some a ≡ Some b → a ≡ b
    some_is e = cc

-- ---- what a reach is

-- near: what is looked at for one of the stores, and all stores are among it
abbrev pub IsNearBy : Module → List Id → List Id → List Id → Type 0
IsNearBy m left all ids = (s : Id) × (has left s ≡ true) × (ids ≡ looked_ids m s) × (has_all ids all ≡ true)

pub near_is : (m : Module) (left all ids : List Id) → first_with all (map (looked_ids m) left) ≡ Some ids → IsNearBy m left all ids
near_is m [] all ids e = absurd (none_some e)
  where
    none_some : {A : Type 0} {a : A} → None ≡ Some a → ⊥
    none_some e = cc
near_is m (s ∷ left) all ids e = by_test (has_all (looked_ids m s) all) refl e (λ r. near_is m left all ids r)
  where
    some_is : {A : Type 0} {a b : A} → Some a ≡ Some b → a ≡ b
    some_is e = cc

    later : (x : Id) (b : Bool) → has left x ≡ true → (b || has left x) ≡ true
    later x true h = refl
    later x false h = h

    by_test : (b : Bool) → has_all (looked_ids m s) all ≡ b → cond b (Some (looked_ids m s)) (first_with all (map (looked_ids m) left)) ≡ Some ids →
        (first_with all (map (looked_ids m) left) ≡ Some ids → IsNearBy m left all ids) → IsNearBy m (s ∷ left) all ids
    by_test true t r more = (s, ap (λ b. b || has left s) (same_itself s), sym (some_is r), ap (λ l. has_all l all) (sym (some_is r)) ∙ t)
    by_test false t r more = let n = more r in (n.0, later n.0 (same_id n.0 s) n.1, n.2, n.3)

-- far: of no store are all stores among what is looked at for it
pub far_is : (m : Module) (left all : List Id) → first_with all (map (looked_ids m) left) ≡ None → (s : Id) → has left s ≡ true → has_all (looked_ids m s) all ≡ false
far_is m [] all e s h = absurd cc
far_is m (t ∷ left) all e s h = by_test (has_all (looked_ids m t) all) refl e (λ r g. far_is m left all r s g)
  where
    some_none : {A : Type 0} {a : A} → Some a ≡ None → ⊥
    some_none e = cc

    by_same : (b : Bool) → same_id s t ≡ b → (b || has left s) ≡ true → has_all (looked_ids m t) all ≡ false → (has left s ≡ true → has_all (looked_ids m s) all ≡ false) →
        has_all (looked_ids m s) all ≡ false
    by_same true g r this more = ap (λ x. has_all (looked_ids m x) all) (same_is s t g) ∙ this
    by_same false g r this more = more r

    by_test : (b : Bool) → has_all (looked_ids m t) all ≡ b → cond b (Some (looked_ids m t)) (first_with all (map (looked_ids m) left)) ≡ None →
        (first_with all (map (looked_ids m) left) ≡ None → has left s ≡ true → has_all (looked_ids m s) all ≡ false) → has_all (looked_ids m s) all ≡ false
    by_test true g r more = absurd (some_none r)
    by_test false g r more = by_same (same_id s t) refl h g (more r)
