-- The places of a window and of the members of its bundles, and its groups.
use Rattle.std.proofs.Common.{◌≡◌, refl, sym, ap, ◌∙◌, subst, ℕ, zero, suc, ◌+◌, ◌<◌, ◌≤◌, ◌==◌, ◌⊎◌, inl, inr, Bool, true, false, ◌||◌, cond, Option, None, Some, List, [], ◌∷◌, ◌++◌, length, length-append, map, nat_lt, slice_get, get_or, option_map, arith}
use Rattle.std.specs.List.{list_any}
use Rattle.std.proofs.lemmas.Bool.Decides.{nat_tests}
use Rattle.ir_types.specs.declared.id.Id.{Id}
use Rattle.ir_types.specs.declared.inst.Inst.{Inst}
use Rattle.ir_types.specs.declared.module.Module.{Module}
use Rattle.ir_types.specs.Available.{same_id}
use Rattle.ir_types.proofs.Among.{same_is, same_itself, swapped}
use Rattle.vx_order.specs.Groups.{has, owner_of, positions, links_of}
use Rattle.vx_order.specs.Walks.{Ascends}
use Rattle.vx_order.proofs.Placing.{head_or_more, at_head, in_more}
use Rattle.vx_serial.specs.Window.{is_member, place_of, singles, groups_in, edges_from, edges_in, with_inst, insts_at, joined}
use Rattle.vx_serial.specs.Bundles.{AreOnce, ids_of, AreBundles}
use Rattle.vx_serial.proofs.Numbers.{has_front, has_back, has_part, Distinct, distinct_both, ascends_distinct}
use Rattle.vx_serial.proofs.Decided.{not_true, or_case, or_first, or_second, true_false}

-- ---- all places

abbrev pub places_from : ℕ → List Inst → List ℕ
places_from at [] = []
places_from at (i ∷ is) = at ∷ places_from (suc at) is

pub places_ascend : (at low : ℕ) (is : List Inst) → low ≤ at → Ascends low (places_from at is)
places_ascend at low [] h = tt
places_ascend at low (i ∷ is) h = (h, places_ascend (suc at) (at + 1) is (omega arith))

places_have : (at : ℕ) (is : List Inst) (x : ℕ) → at ≤ x → x < at + length is → has (places_from at is) x ≡ true
places_have at [] x h k = absurd (omega arith)
places_have at (i ∷ is) x h k = by_test (at == x) refl (λ more. places_have (suc at) is x more (let u : length (i ∷ is) ≡ suc (length is) = refl in omega arith)) where
  by_test : (b : Bool) → (at == x) ≡ b → (suc at ≤ x → has (places_from (suc at) is) x ≡ true) → (b || has (places_from (suc at) is) x) ≡ true
  by_test true e more = refl
  by_test false e more = more (grind (arith, nat_tests))

places_within : (at : ℕ) (is : List Inst) (x : ℕ) → has (places_from at is) x ≡ true → (at ≤ x) × (x < at + length is)
places_within at [] x h = absurd cc
places_within at (i ∷ is) x h = by_first (head_or_more at x (places_from (suc at) is) h) (λ k. places_within (suc at) is x k) where
  by_first : (at ≡ x) ⊎ (has (places_from (suc at) is) x ≡ true) → (has (places_from (suc at) is) x ≡ true → (suc at ≤ x) × (x < suc at + length is)) → (at ≤ x) × (x < at + length (i ∷ is))
  by_first (inl e) more = (omega arith, omega arith)
  by_first (inr k) more = let r = more k in let a = r.0 in let b = r.1 in (omega arith, omega arith)

pub places_all : (is : List Inst) (x : ℕ) → has (places_from 0 is) x ≡ nat_lt x (length is)
places_all is x = by_test (nat_lt x (length is)) refl where
  by_test : (b : Bool) → nat_lt x (length is) ≡ b → has (places_from 0 is) x ≡ b
  by_test true e = places_have 0 is x (omega arith) (grind (arith, nat_tests))
  by_test false e = not_true (has (places_from 0 is) x) (λ h. (let r = places_within 0 is x h in let l = r.1 in true_false (let t : nat_lt x (length is) ≡ true = grind (arith, nat_tests) in sym t ∙ e)))

pub places_long : (at : ℕ) (is : List Inst) → length (places_from at is) ≡ length is
places_long at [] = refl
places_long at (i ∷ is) = ap suc (places_long (suc at) is)

-- ---- places of ids

-- where an id's instruction stands
record Found (insts : List Inst) (x : Id) : Type 0 where
  inst : Inst
  at : slice_get insts (place_of insts x) ≡ Some inst
  is : same_id inst.id x ≡ true

found_at : (insts : List Inst) (x : Id) → list_any (same_id x) (ids_of insts) ≡ true → Found insts x
found_at [] x h = absurd cc
found_at (i ∷ is) x h = by_test (same_id i.id x) refl (λ k. found_at is x k) where
  by_test : (b : Bool) → same_id i.id x ≡ b → (list_any (same_id x) (ids_of is) ≡ true → Found is x) → Found (i ∷ is) x
  by_test true e more = record { inst = i; at = ap (λ b. slice_get (i ∷ is) (cond b 0 (suc (place_of is x)))) e; is = e }
  by_test false e more =
      let r = more (sym (ap (λ b. b || list_any (same_id x) (ids_of is)) (swapped x i.id ∙ e)) ∙ h) in
      record { inst = r.inst; at = ap (λ b. slice_get (i ∷ is) (cond b 0 (suc (place_of is x)))) e ∙ r.at; is = r.is }

get_less : {A : Type 0} (xs : List A) (k : ℕ) (x : A) → slice_get xs k ≡ Some x → k < length xs
get_less [] k x e = absurd cc
get_less (z ∷ xs) zero x e = omega arith
get_less (z ∷ xs) (suc k) x e = let r = get_less xs k x e in omega arith

get_any : (insts : List Inst) (k : ℕ) (i : Inst) (x : Id) → slice_get insts k ≡ Some i → same_id x i.id ≡ true → list_any (same_id x) (ids_of insts) ≡ true
get_any [] k i x e h = absurd cc
get_any (j ∷ is) zero i x e h = let same : j ≡ i = cc in or_first (same_id x j.id) (list_any (same_id x) (ids_of is)) (ap (λ (j : Inst). same_id x j.id) same ∙ h)
get_any (j ∷ is) (suc k) i x e h = or_second (same_id x j.id) (list_any (same_id x) (ids_of is)) (get_any is k i x e h)

-- the place of the id of an instruction
place_at : (insts : List Inst) (k : ℕ) (i : Inst) → AreOnce (ids_of insts) → slice_get insts k ≡ Some i → place_of insts i.id ≡ k
place_at [] k i once e = absurd cc
place_at (j ∷ is) zero i once e = let same : j ≡ i = cc in ap (λ b. cond b 0 (suc (place_of is i.id))) (ap (λ (j : Inst). same_id j.id i.id) same ∙ same_itself i.id)
place_at (j ∷ is) (suc k) i once e =
    ap (λ b. cond b 0 (suc (place_of is i.id))) (not_true (same_id j.id i.id) (λ h. true_false (sym (get_any is k i j.id e h) ∙ once.0))) ∙ ap suc (place_at is k i once.1 e)

any_same : (xs : List Id) (x y : Id) → same_id x y ≡ true → list_any (same_id x) xs ≡ list_any (same_id y) xs
any_same xs x y h = ap (λ z. list_any (same_id z) xs) (same_is x y h)

-- ---- members

any_append : (xs ys : List Id) (x : Id) → list_any (same_id x) (xs ++ ys) ≡ (list_any (same_id x) xs || list_any (same_id x) ys)
any_append [] ys x = refl
any_append (z ∷ xs) ys x = ap (λ b. same_id x z || b) (any_append xs ys x) ∙ or_assoc (same_id x z) (list_any (same_id x) xs) (list_any (same_id x) ys) where
  or_assoc : (a b c : Bool) → (a || (b || c)) ≡ ((a || b) || c)
  or_assoc true b c = refl
  or_assoc false b c = refl

pub member_joined : (bundles : List (List Id)) (x : Id) → is_member bundles x ≡ list_any (same_id x) (joined bundles)
member_joined [] x = refl
member_joined (b ∷ bs) x = ap (λ t. list_any (same_id x) b || t) (member_joined bs x) ∙ sym (any_append b (joined bs) x)

map_joined : (f : Id → ℕ) (bundles : List (List Id)) → joined (map (map f) bundles) ≡ map f (joined bundles)
map_joined f [] = refl
map_joined f (b ∷ bs) = ap (λ r. map f b ++ r) (map_joined f bs) ∙ sym (map_append b (joined bs)) where
  map_append : (xs ys : List Id) → map f (xs ++ ys) ≡ map f xs ++ map f ys
  map_append [] ys = refl
  map_append (x ∷ xs) ys = ap (λ r. f x ∷ r) (map_append xs ys)

joined_append : (xs ys : List (List ℕ)) → joined (xs ++ ys) ≡ joined xs ++ joined ys
joined_append [] ys = refl
joined_append (x ∷ xs) ys = ap (λ r. x ++ r) (joined_append xs ys) ∙ sym (append_assoc x (joined xs) (joined ys)) where
  append_assoc : (xs ys zs : List ℕ) → (xs ++ ys) ++ zs ≡ xs ++ (ys ++ zs)
  append_assoc [] ys zs = refl
  append_assoc (x ∷ xs) ys zs = ap (λ r. x ∷ r) (append_assoc xs ys zs)

-- an id whose place this is
record Placed_by (insts : List Inst) (ids : List Id) (p : ℕ) : Type 0 where
  id : Id
  there : list_any (same_id id) ids ≡ true
  is : place_of insts id ≡ p

placed_by : (insts : List Inst) (ids : List Id) (p : ℕ) → has (map (place_of insts) ids) p ≡ true → Placed_by insts ids p
placed_by insts [] p h = absurd cc
placed_by insts (x ∷ ids) p h = by_first (head_or_more (place_of insts x) p (map (place_of insts) ids) h) (λ k. placed_by insts ids p k) where
  by_first : (place_of insts x ≡ p) ⊎ (has (map (place_of insts) ids) p ≡ true) → (has (map (place_of insts) ids) p ≡ true → Placed_by insts ids p) → Placed_by insts (x ∷ ids) p
  by_first (inl e) more = record { id = x; there = or_first (same_id x x) (list_any (same_id x) ids) (same_itself x); is = e }
  by_first (inr k) more = let r = more k in record { id = r.id; there = or_second (same_id r.id x) (list_any (same_id r.id) ids) r.there; is = r.is }

placed_there : (insts : List Inst) (ids : List Id) (x : Id) → list_any (same_id x) ids ≡ true → has (map (place_of insts) ids) (place_of insts x) ≡ true
placed_there insts [] x h = absurd cc
placed_there insts (y ∷ ids) x h = by_first (or_case (same_id x y) (list_any (same_id x) ids) h) (λ k. placed_there insts ids x k) where
  by_first : (same_id x y ≡ true) ⊎ (list_any (same_id x) ids ≡ true) → (list_any (same_id x) ids ≡ true → has (map (place_of insts) ids) (place_of insts x) ≡ true) →
      has (map (place_of insts) (y ∷ ids)) (place_of insts x) ≡ true
  by_first (inl e) more = at_head (place_of insts y) (place_of insts x) (map (place_of insts) ids) (ap (place_of insts) (sym (same_is x y e)))
  by_first (inr k) more = in_more (place_of insts y) (place_of insts x) (map (place_of insts) ids) (more k)

-- ids of one place are one
one_place : (insts : List Inst) (x y : Id) → list_any (same_id x) (ids_of insts) ≡ true → list_any (same_id y) (ids_of insts) ≡ true → place_of insts x ≡ place_of insts y → same_id x y ≡ true
one_place insts x y hx hy e =
    let a = found_at insts x hx in
    let b = found_at insts y hy in
    let same : Some a.inst ≡ Some b.inst = sym a.at ∙ ap (slice_get insts) e ∙ b.at in
    let is : a.inst ≡ b.inst = cc in
    ap (λ z. same_id z y) (sym (same_is a.inst.id x a.is)) ∙ ap (λ (i : Inst). same_id i.id y) is ∙ b.is

places_distinct : (insts : List Inst) (ids : List Id) → AreOnce ids → ((x : Id) → list_any (same_id x) ids ≡ true → list_any (same_id x) (ids_of insts) ≡ true) → Distinct (map (place_of insts) ids)
places_distinct insts [] once h = tt
places_distinct insts (x ∷ ids) once h = (
  not_true (has (map (place_of insts) ids) (place_of insts x)) (λ k.
      (let r = placed_by insts ids (place_of insts x) k in
      let same : same_id x r.id ≡ true = one_place insts x r.id (h x (or_first (same_id x x) (list_any (same_id x) ids) (same_itself x)))
      (h r.id (or_second (same_id r.id x) (list_any (same_id r.id) ids) r.there)) (sym r.is) in
      true_false (sym (any_same ids x r.id same ∙ r.there) ∙ once.0))),
  places_distinct insts ids once.1 (λ y k. h y (or_second (same_id y x) (list_any (same_id y) ids) k)),
)

-- ---- singles

module _ (bundles : List (List Id)) where
  lone_in : (is : List Inst) (at k : ℕ) (i : Inst) → slice_get is k ≡ Some i → is_member bundles i.id ≡ false → (a : ℕ) → a ≡ at + k → has (joined (singles bundles at is)) a ≡ true
  lone_in [] at k i e h a ea = absurd cc
  lone_in (j ∷ is) at zero i e h a ea =
      let same : j ≡ i = cc in
      ap (λ b. has (joined (cond b (singles bundles (suc at) is) ((at ∷ []) ∷ singles bundles (suc at) is))) a) (ap (λ (j : Inst). is_member bundles j.id) same ∙ h)
      ∙ at_head at a (joined (singles bundles (suc at) is)) (omega arith)
  lone_in (j ∷ is) at (suc k) i e h a ea = by_test (is_member bundles j.id) (lone_in is (suc at) k i e h a (omega arith)) where
    by_test : (b : Bool) → has (joined (singles bundles (suc at) is)) a ≡ true → has (joined (cond b (singles bundles (suc at) is) ((at ∷ []) ∷ singles bundles (suc at) is))) a ≡ true
    by_test true r = r
    by_test false r = in_more at a (joined (singles bundles (suc at) is)) r

  record Lone (is : List Inst) (at x : ℕ) : Type 0 where
    place : ℕ
    inst : Inst
    there : slice_get is place ≡ Some inst
    alone : is_member bundles inst.id ≡ false
    number : x ≡ at + place

  in_lone : (is : List Inst) (at x : ℕ) → has (joined (singles bundles at is)) x ≡ true → Lone is at x
  in_lone [] at x h = absurd cc
  in_lone (j ∷ is) at x h = by_test (is_member bundles j.id) refl h (λ k. in_lone is (suc at) x k) where
    further : Lone is (suc at) x → Lone (j ∷ is) at x
    further r = record { place = suc r.place; inst = r.inst; there = r.there; alone = r.alone; number = let n = r.number in omega arith }

    by_test : (b : Bool) → is_member bundles j.id ≡ b → has (joined (cond b (singles bundles (suc at) is) ((at ∷ []) ∷ singles bundles (suc at) is))) x ≡ true →
        (has (joined (singles bundles (suc at) is)) x ≡ true → Lone is (suc at) x) → Lone (j ∷ is) at x
    by_test true e h more = further (more h)
    by_test false e h more = by_first (head_or_more at x (joined (singles bundles (suc at) is)) h) where
      by_first : (at ≡ x) ⊎ (has (joined (singles bundles (suc at) is)) x ≡ true) → Lone (j ∷ is) at x
      by_first (inl s) = record { place = 0; inst = j; there = refl; alone = e; number = omega arith }
      by_first (inr k) = further (more k)

  singles_ascend : (is : List Inst) (at low : ℕ) → low ≤ at → Ascends low (joined (singles bundles at is))
  singles_ascend [] at low h = tt
  singles_ascend (j ∷ is) at low h = by_test (is_member bundles j.id) (singles_ascend is (suc at) low (omega arith)) (singles_ascend is (suc at) (at + 1) (omega arith)) where
    by_test : (b : Bool) → Ascends low (joined (singles bundles (suc at) is)) → Ascends (at + 1) (joined (singles bundles (suc at) is)) →
        Ascends low (joined (cond b (singles bundles (suc at) is) ((at ∷ []) ∷ singles bundles (suc at) is)))
    by_test true wide narrow = wide
    by_test false wide narrow = (h, narrow)

-- ---- the groups of a window

module _ (insts : List Inst) (bundles : List (List Id)) (once : AreOnce (ids_of insts)) (are : AreBundles insts bundles) where
  abbrev Members : List ℕ
  Members = map (place_of insts) (joined bundles)

  abbrev Others : List ℕ
  Others = joined (singles bundles 0 insts)

  groups_joined : joined (groups_in bundles insts) ≡ Members ++ Others
  groups_joined = joined_append (map (map (place_of insts)) bundles) (singles bundles 0 insts) ∙ ap (λ l. l ++ Others) (map_joined (place_of insts) bundles)

  apart : (x : ℕ) → has Members x ≡ true → has Others x ≡ false
  apart x h = not_true (has Others x) (λ k.
      (let r = placed_by insts (joined bundles) x h in
      let f = found_at insts r.id (are.members r.id r.there) in
      let l = in_lone bundles insts 0 x k in
      let n = l.number in
      let place : place_of insts r.id ≡ l.place = r.is ∙ (omega arith) in
      let same : Some f.inst ≡ Some l.inst = sym f.at ∙ ap (slice_get insts) place ∙ l.there in
      let is : f.inst ≡ l.inst = cc in
      true_false (sym (member_joined bundles l.inst.id ∙ ap (λ (i : Inst). list_any (same_id i.id) (joined bundles)) (sym is) ∙ any_same (joined bundles) f.inst.id r.id f.is ∙ r.there) ∙ l.alone)))

  pub groups_distinct : Distinct (joined (groups_in bundles insts))
  groups_distinct =
      subst Distinct (sym groups_joined)
      (distinct_both Members Others (places_distinct insts (joined bundles) are.once are.members) (ascends_distinct 0 Others (singles_ascend bundles insts 0 0 (omega arith))) apart)

  pub groups_cover : (x : ℕ) → has (joined (groups_in bundles insts)) x ≡ nat_lt x (length insts)
  groups_cover x = ap (λ l. has l x) groups_joined ∙ by_test (nat_lt x (length insts)) refl where
    there : (xs : List Inst) (k : ℕ) → k < length xs → (i : Inst) × (slice_get xs k ≡ Some i)
    there [] k h = absurd (omega arith)
    there (x ∷ xs) zero h = (x, refl)
    there (x ∷ xs) (suc k) h = there xs k (omega arith)

    by_member : (i : Inst) → slice_get insts x ≡ Some i → (b : Bool) → is_member bundles i.id ≡ b → has (Members ++ Others) x ≡ true
    by_member i e true h =
        has_front Members Others x (ap (has Members) (sym (place_at insts x i once e)) ∙ placed_there insts (joined bundles) i.id (sym (member_joined bundles i.id) ∙ h))
    by_member i e false h = has_back Members Others x (lone_in bundles insts 0 x i e h x (omega arith))

    by_part : (has Members x ≡ true) ⊎ (has Others x ≡ true) → x < length insts
    by_part (inl h) =
        let r = placed_by insts (joined bundles) x h in
        let f = found_at insts r.id (are.members r.id r.there) in
        subst (λ n. n < length insts) r.is (get_less insts (place_of insts r.id) f.inst f.at)
    by_part (inr h) = let l = in_lone bundles insts 0 x h in let n = l.number in let s = get_less insts l.place l.inst l.there in omega arith

    by_test : (b : Bool) → nat_lt x (length insts) ≡ b → has (Members ++ Others) x ≡ b
    by_test true e = let t = there insts x (grind (arith, nat_tests)) in by_member t.0 t.1 (is_member bundles t.0.id) refl
    by_test false e = not_true (has (Members ++ Others) x) (λ h. (let l = by_part (has_part Members Others x h) in true_false (let t : nat_lt x (length insts) ≡ true = grind (arith, nat_tests) in sym t ∙ e)))
