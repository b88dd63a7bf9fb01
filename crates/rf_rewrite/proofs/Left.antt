-- What is left of lists when ids are taken out.
use Rattle.std.proofs.Common.{◌≡◌, refl, sym, ap, ◌∙◌, subst, ℕ, suc, ◌+◌, ◌≤◌, Bool, true, false, not, ◌&&◌, ◌||◌, List, [], ◌∷◌, ◌++◌, cond, nat_eq, arith}
use Rattle.std.specs.List.{list_all}
use Rattle.ir_types.specs.declared.id.Id.{Id}
use Rattle.ir_types.specs.declared.id.Use.{Use}
use Rattle.ir_types.specs.declared.inst.Inst.{Inst}
use Rattle.ir_types.specs.Available.{same_id}
use Rattle.ir_types.proofs.Among.{same_is, same_itself, swapped}
use Rattle.vx_view.specs.Answers.{slots_from, uses_in}
use Rattle.vx_view.specs.Changes.{each, removing}
use Rattle.vx_serial.specs.Bundles.{AreOnce, ids_of}
use Rattle.vx_serial.specs.Rewriting.{is_created, is_id_in, without}
use Rattle.vx_serial.specs.Changing.{not_among}
use Rattle.rf_rewrite.proofs.Contexts.{one_of, times}
use Rattle.rf_rewrite.proofs.Parts.{all_append}
use Rattle.rf_rewrite.proofs.Window.{left, next_rest}
use Rattle.rf_rewrite.proofs.Gone.{uses_id, used_by, without_none}
use Rattle.rf_rewrite.proofs.Trees.{any_append}
use Rattle.vx_serial.proofs.Decided.{true_false}

-- ---- without ids

pub without_append : (xs : List Id) (l k : List Inst) → without xs (l ++ k) ≡ without xs l ++ without xs k
without_append xs [] k = refl
without_append xs (i ∷ l) k = by_test (is_id_in xs i.id) (without_append xs l k)
  where
    by_test : (b : Bool) → without xs (l ++ k) ≡ without xs l ++ without xs k → cond b (without xs (l ++ k)) (i ∷ without xs (l ++ k)) ≡ cond b (without xs l) (i ∷ without xs l) ++ without xs k
    by_test true e = e
    by_test false e = ap (λ u. i ∷ u) e

without_cons : (x : Id) (xs : List Id) (l : List Inst) → without xs (each (removing x) l) ≡ without (x ∷ xs) l
without_cons x xs [] = refl
without_cons x xs (i ∷ l) = by_test (same_id i.id x) (without_cons x xs l)
  where
    by_test : (b : Bool) → without xs (each (removing x) l) ≡ without (x ∷ xs) l → without xs (cond b [] (i ∷ []) ++ each (removing x) l) ≡ cond (b || is_id_in xs i.id) (without (x ∷ xs) l) (i ∷ without (x ∷ xs) l)
    by_test true e = e
    by_test false e = ap (λ u. cond (is_id_in xs i.id) u (i ∷ u)) e

pub gone_times : (xs : List Id) (y : Id) (l : List Inst) → is_id_in xs y ≡ true → times y (without xs l) ≡ 0
gone_times xs y [] h = refl
gone_times xs y (i ∷ l) h = by_test (is_id_in xs i.id) refl (gone_times xs y l h)
  where
    by_test : (b : Bool) → is_id_in xs i.id ≡ b → times y (without xs l) ≡ 0 → times y (cond b (without xs l) (i ∷ without xs l)) ≡ 0
    by_test true t e = e
    by_test false t e = by_own (same_id i.id y) refl
      where
        by_own : (b : Bool) → same_id i.id y ≡ b → cond b 1 0 + times y (without xs l) ≡ 0
        by_own true s = absurd (true_false (sym h ∙ ap (is_id_in xs) (sym (same_is i.id y s)) ∙ t))
        by_own false s = omega (arith, e)

pub kept_times : (xs : List Id) (y : Id) (l : List Inst) → is_id_in xs y ≡ false → times y (without xs l) ≡ times y l
kept_times xs y [] h = refl
kept_times xs y (i ∷ l) h = by_test (is_id_in xs i.id) refl (kept_times xs y l h)
  where
    by_test : (b : Bool) → is_id_in xs i.id ≡ b → times y (without xs l) ≡ times y l → times y (cond b (without xs l) (i ∷ without xs l)) ≡ one_of i.id y + times y l
    by_test false t e = omega (arith, e)
    by_test true t e = by_own (same_id i.id y) refl
      where
        by_own : (b : Bool) → same_id i.id y ≡ b → times y (without xs l) ≡ cond b 1 0 + times y l
        by_own true s = absurd (true_false (sym t ∙ ap (is_id_in xs) (same_is i.id y s) ∙ h))
        by_own false s = omega (arith, e)

pub fewer_times : (xs : List Id) (y : Id) (l : List Inst) → times y (without xs l) ≤ times y l
fewer_times xs y l = by_test (is_id_in xs y) refl
  where
    by_test : (b : Bool) → is_id_in xs y ≡ b → times y (without xs l) ≤ times y l
    by_test true t = let none = gone_times xs y l t in omega (arith, none)
    by_test false t = let same = kept_times xs y l t in omega (arith, same)

own_times : (i : Inst) (l : List Inst) → 1 ≤ times i.id (i ∷ l)
own_times i l = let one : one_of i.id i.id ≡ 1 = ap (λ b. cond b 1 0) (same_itself i.id) in omega (arith, one)

pub without_agree : (xs ys : List Id) (l : List Inst) → ((y : Id) → 1 ≤ times y l → is_id_in xs y ≡ is_id_in ys y) → without xs l ≡ without ys l
without_agree xs ys [] h = refl
without_agree xs ys (i ∷ l) h =
    ap (λ b. cond b (without xs l) (i ∷ without xs l)) (h i.id (own_times i l))
    ∙ ap (λ u. cond (is_id_in ys i.id) u (i ∷ u)) (without_agree xs ys l (λ y some. h y (omega (arith, some))))

pub without_all : (xs : List Id) (l : List Inst) → ((y : Id) → 1 ≤ times y l → is_id_in xs y ≡ true) → without xs l ≡ []
without_all xs [] h = refl
without_all xs (i ∷ l) h = ap (λ b. cond b (without xs l) (i ∷ without xs l)) (h i.id (own_times i l)) ∙ without_all xs l (λ y some. h y (omega (arith, some)))

pub without_stays : (xs : List Id) (l : List Inst) → ((y : Id) → 1 ≤ times y l → is_id_in xs y ≡ false) → without xs l ≡ l
without_stays xs l h = without_agree xs [] l h ∙ without_none l

-- ---- what is moved

module _ (globals region : ℕ) (lanes : List Id) where
  abbrev pub moved : List Inst → List Id
  moved [] = []
  moved (i ∷ is) = cond (is_created region i) (moved is) (i.id ∷ moved is)

  pub left_is : (is rest : List Inst) → left globals region lanes is rest ≡ without (moved is) rest
  left_is [] rest = sym (without_none rest)
  left_is (i ∷ is) rest = by_test (is_created region i) (left_is is)
    where
      by_test : (b : Bool) → ((r : List Inst) → left globals region lanes is r ≡ without (moved is) r) →
          left globals region lanes is (next_rest globals region lanes b i rest) ≡ without (cond b (moved is) (i.id ∷ moved is)) rest
      by_test true more = more rest
      by_test false more = more (each (removing i.id) rest) ∙ without_cons i.id (moved is) rest

  pub moved_stands : (is : List Inst) (y : Id) → is_id_in (moved is) y ≡ true → 1 ≤ times y is
  moved_stands [] y h = absurd cc
  moved_stands (i ∷ is) y h = by_test (is_created region i) h (moved_stands is y)
    where
      by_test : (b : Bool) → is_id_in (cond b (moved is) (i.id ∷ moved is)) y ≡ true → (is_id_in (moved is) y ≡ true → 1 ≤ times y is) → 1 ≤ one_of i.id y + times y is
      by_test true r more = let some = more r in omega (arith, some)
      by_test false r more = by_own (same_id y i.id) refl r
        where
          by_own : (b : Bool) → same_id y i.id ≡ b → (b || is_id_in (moved is) y) ≡ true → 1 ≤ one_of i.id y + times y is
          by_own true s q = let one : one_of i.id y ≡ 1 = ap (λ b. cond b 1 0) (swapped i.id y ∙ s) in omega (arith, one)
          by_own false s q = let some = more q in omega (arith, some)

  pub stands_moved : (is : List Inst) (y : Id) → 1 ≤ times y is → nat_eq y.region (suc region) ≡ false → is_id_in (moved is) y ≡ true
  stands_moved [] y some old = absurd (omega (arith, some))
  stands_moved (i ∷ is) y some old = by_own (same_id i.id y) refl (stands_moved is y)
    where
      by_own : (b : Bool) → same_id i.id y ≡ b → (1 ≤ times y is → nat_eq y.region (suc region) ≡ false → is_id_in (moved is) y ≡ true) →
          is_id_in (cond (is_created region i) (moved is) (i.id ∷ moved is)) y ≡ true
      by_own true s more =
          ap (λ b. is_id_in (cond b (moved is) (i.id ∷ moved is)) y) (ap (λ (v : Id). nat_eq v.region (suc region)) (same_is i.id y s) ∙ old)
          ∙ ap (λ b. b || is_id_in (moved is) y) (swapped y i.id ∙ s)
      by_own false s more = by_test (is_created region i) (more (let none : one_of i.id y ≡ 0 = ap (λ b. cond b 1 0) s in omega (arith, some, none)) old)
        where
          by_test : (b : Bool) → is_id_in (moved is) y ≡ true → is_id_in (cond b (moved is) (i.id ∷ moved is)) y ≡ true
          by_test true r = r
          by_test false r = later (same_id y i.id) r
            where
              later : (b : Bool) → is_id_in (moved is) y ≡ true → (b || is_id_in (moved is) y) ≡ true
              later true q = refl
              later false q = q

-- ---- ids that are not among others

pub in_not_among : (ids xs : List Id) (y : Id) → is_id_in (not_among ids xs) y ≡ (is_id_in xs y && not (is_id_in ids y))
in_not_among ids [] y = refl
in_not_among ids (x ∷ xs) y = by_test (is_id_in ids x) refl (same_id y x) refl (in_not_among ids xs y)
  where
    and_false : (b : Bool) → (b && false) ≡ false
    and_false true = refl
    and_false false = refl

    by_test : (b : Bool) → is_id_in ids x ≡ b → (s : Bool) → same_id y x ≡ s → is_id_in (not_among ids xs) y ≡ (is_id_in xs y && not (is_id_in ids y)) →
        is_id_in (cond b (not_among ids xs) (x ∷ not_among ids xs)) y ≡ ((s || is_id_in xs y) && not (is_id_in ids y))
    by_test true t true s e =
        let there : is_id_in ids y ≡ true = ap (is_id_in ids) (same_is y x s) ∙ t in
        e ∙ ap (λ b. is_id_in xs y && not b) there ∙ and_false (is_id_in xs y) ∙ sym (ap not there)
    by_test true t false s e = e
    by_test false t true s e =
        let absent : is_id_in ids y ≡ false = ap (is_id_in ids) (same_is y x s) ∙ t in
        ap (λ b. b || is_id_in (not_among ids xs) y) s ∙ sym (ap not absent)
    by_test false t false s e = ap (λ b. b || is_id_in (not_among ids xs) y) s ∙ e

pub not_among_once : (ids xs : List Id) → AreOnce xs → AreOnce (not_among ids xs)
not_among_once ids [] o = tt
not_among_once ids (x ∷ xs) o = by_test (is_id_in ids x) (not_among_once ids xs o.1)
  where
    and_none : (b : Bool) → b ≡ false → (b && not (is_id_in ids x)) ≡ false
    and_none true e = absurd cc
    and_none false e = refl

    by_test : (b : Bool) → AreOnce (not_among ids xs) → AreOnce (cond b (not_among ids xs) (x ∷ not_among ids xs))
    by_test true r = r
    by_test false r = (in_not_among ids xs x ∙ and_none (is_id_in xs x) o.0, r)

pub in_both : (xs ys : List Id) (y : Id) → is_id_in (xs ++ ys) y ≡ (is_id_in xs y || is_id_in ys y)
in_both xs ys y = any_append xs ys y

pub ids_times : (y : Id) (l : List Inst) → is_id_in (ids_of l) y ≡ true → 1 ≤ times y l
ids_times y [] h = absurd cc
ids_times y (i ∷ l) h = by_own (same_id y i.id) refl h (ids_times y l)
  where
    by_own : (b : Bool) → same_id y i.id ≡ b → (b || is_id_in (ids_of l) y) ≡ true → (is_id_in (ids_of l) y ≡ true → 1 ≤ times y l) → 1 ≤ one_of i.id y + times y l
    by_own true s q more = let one : one_of i.id y ≡ 1 = ap (λ b. cond b 1 0) (swapped i.id y ∙ s) in omega (arith, one)
    by_own false s q more = let some = more q in omega (arith, some)

pub times_ids_in : (y : Id) (l : List Inst) → 1 ≤ times y l → is_id_in (ids_of l) y ≡ true
times_ids_in y [] h = absurd (omega (arith, h))
times_ids_in y (i ∷ l) h = by_own (same_id i.id y) refl (times_ids_in y l)
  where
    by_own : (b : Bool) → same_id i.id y ≡ b → (1 ≤ times y l → is_id_in (ids_of l) y ≡ true) → (same_id y i.id || is_id_in (ids_of l) y) ≡ true
    by_own true s more = ap (λ b. b || is_id_in (ids_of l) y) (swapped y i.id ∙ s)
    by_own false s more = later (same_id y i.id) (more (let none : one_of i.id y ≡ 0 = ap (λ b. cond b 1 0) s in omega (arith, h, none)))
      where
        later : (b : Bool) → is_id_in (ids_of l) y ≡ true → (b || is_id_in (ids_of l) y) ≡ true
        later true q = refl
        later false q = q

-- ---- users of a value in a list

pub user_in : (q : Id → Bool) (y : Id) (front rest : List Inst) (i : Inst) → list_all (λ (u : Use). q u.user) (uses_in y (front ++ i ∷ rest)) ≡ true → uses_id y i ≡ true → q i.id ≡ true
user_in q y [] rest i h u = first (used_by y i.id 0 i.opds u)
  where
    and_left : (a b : Bool) → (a && b) ≡ true → a ≡ true
    and_left true b e = refl
    and_left false b e = absurd cc

    own : list_all (λ (v : Use). q v.user) (slots_from y i.id 0 i.opds) ≡ true
    own = (all_append (λ (v : Use). q v.user) (slots_from y i.id 0 i.opds) (uses_in y rest) h).0

    first : (k : ℕ) × (us : List Use) × (slots_from y i.id 0 i.opds ≡ record { user = i.id; slot = k } ∷ us) → q i.id ≡ true
    first (k, us, e) = and_left (q i.id) (list_all (λ (v : Use). q v.user) us) (subst (λ vs. list_all (λ (v : Use). q v.user) vs ≡ true) e own)
user_in q y (j ∷ front) rest i h u = user_in q y front rest i (all_append (λ (v : Use). q v.user) (slots_from y j.id 0 j.opds) (uses_in y (front ++ i ∷ rest)) h).1 u
