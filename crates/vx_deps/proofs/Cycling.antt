-- A cycle of groups by their numbers is one of groups by their members.
use Rattle.std.proofs.Common.{◌≡◌, refl, sym, ap, ◌∙◌, subst, inl, inr, ◌⊎◌, ℕ, zero, suc, ◌+◌, ◌<◌, Bool, true, false, ◌||◌, cond, Option, None, Some, List, [], ◌∷◌, ◌++◌, length, map, slice_get, get_or, arith}
use Rattle.std.specs.List.{All, Contains, list_any}
use Rattle.std.proofs.lemmas.List.Elements.{All-nil, All-cons, All-map}
use Rattle.ir_types.specs.declared.id.Id.{Id}
use Rattle.ir_types.specs.Available.{same_id}
use Rattle.ir_types.proofs.Among.{same_is, same_itself}
use Rattle.vx_order.specs.Groups.{has, owner_of, size, contracted, IsPartition}
use Rattle.vx_order.specs.Order as order
use Rattle.vx_order.specs.Order.{Leads}
use Rattle.vx_order.proofs.Placing.{head_or_more}
use Rattle.vx_serial.specs.Window.{is_member}
use Rattle.vx_serial.specs.Bundles.{AreOnce}
use Rattle.vx_serial.proofs.Grouped.{owner_first}
use Rattle.vx_serial.proofs.Decided.{not_true, or_first, or_second, true_false}
use Rattle.vx_deps.specs.Orders.{Keeps, place_of, singles, groups_in, edges_from, edges_in, with_id, ids_at}
use Rattle.vx_deps.specs.Cycles.{LeadsTo, LeadThrough, IsCycle, IsGroup}

some_is : {A : Type 0} {a b : A} → Some a ≡ Some b → a ≡ b
some_is e = cc

-- ---- items of lists

module _ {A : Type 0} where
  contains_more : (x : A) (xs : List A) (z : A) → Contains xs z → Contains (x ∷ xs) z
  contains_more x xs z (k, low, is) = (suc k, omega arith, is)

  contains_part : (xs ys : List A) (z : A) → Contains (xs ++ ys) z → Contains xs z ⊎ Contains ys z
  contains_part [] ys z c = inr c
  contains_part (x ∷ xs) ys z (zero, low, is) = inl (zero, omega arith, is)
  contains_part (x ∷ xs) ys z (suc k, low, is) = elim (contains_part xs ys z (k, omega arith, is)) [ inl c ↦ inl (contains_more x xs z c) | inr c ↦ inr c ]

contains_map : {A B : Type 0} (f : A → B) (xs : List A) (y : B) → Contains (map f xs) y → (x : A) × Contains xs x × (f x ≡ y)
contains_map f [] y c = absurd (omega (arith, c.1))
contains_map f (x ∷ xs) y (zero, low, is) = (x, (zero, omega arith, refl), is)
contains_map f (x ∷ xs) y (suc k, low, is) = let r = contains_map f xs y (k, omega arith, is) in (r.0, contains_more x xs r.0 r.1, r.2)

-- ---- edges

-- an edge leads between places of these ids of which the second depends on the first
record Edge (keeps : Keeps) (at : ℕ) (xs : List Id) (a b : ℕ) : Type 0 where
  from : ℕ
  to : ℕ
  earlier : Id
  later : Id
  from_is : a ≡ at + from
  to_is : b ≡ at + to
  before : from < to
  earlier_at : slice_get xs from ≡ Some earlier
  later_at : slice_get xs to ≡ Some later
  kept : keeps earlier later ≡ true

-- and one from a place leads to one of the later ids
record EdgeTo (keeps : Keeps) (from : ℕ) (x : Id) (at : ℕ) (ys : List Id) (a b : ℕ) : Type 0 where
  to : ℕ
  later : Id
  from_is : a ≡ from
  to_is : b ≡ at + to
  later_at : slice_get ys to ≡ Some later
  kept : keeps x later ≡ true

module _ (keeps : Keeps) where
  edge_to : (from : ℕ) (x : Id) (at : ℕ) (ys : List Id) (a b : ℕ) → Contains (edges_from keeps from x at ys) (a, b) → EdgeTo keeps from x at ys a b
  edge_to from x at [] a b c = absurd (omega (arith, c.1))
  edge_to from x at (y ∷ ys) a b c = by_test (keeps x y) refl c (λ d. edge_to from x (suc at) ys a b d)
    where
      rest : List (ℕ × ℕ)
      rest = edges_from keeps from x (suc at) ys

      further : EdgeTo keeps from x (suc at) ys a b → EdgeTo keeps from x at (y ∷ ys) a b
      further e = record { to = suc e.to; later = e.later; from_is = e.from_is; to_is = let n = e.to_is in omega arith; later_at = e.later_at; kept = e.kept }

      by_test : (t : Bool) → keeps x y ≡ t → Contains (cond t ((from, at) ∷ rest) rest) (a, b) → (Contains rest (a, b) → EdgeTo keeps from x (suc at) ys a b) → EdgeTo keeps from x at (y ∷ ys) a b
      by_test true e (zero, low, is) more =
          record { to = 0; later = y; from_is = ap (λ (p : ℕ × ℕ). p.0) (sym is); to_is = (let n : at ≡ b = ap (λ (p : ℕ × ℕ). p.1) is in omega arith); later_at = refl; kept = e }
      by_test true e (suc k, low, is) more = further (more (k, omega arith, is))
      by_test false e c more = further (more c)

  edge_in : (at : ℕ) (xs : List Id) (a b : ℕ) → Contains (edges_in keeps at xs) (a, b) → Edge keeps at xs a b
  edge_in at [] a b c = absurd (omega (arith, c.1))
  edge_in at (x ∷ xs) a b c = elim (contains_part (edges_from keeps at x (suc at) xs) (edges_in keeps (suc at) xs) (a, b) c) [
    | inl d ↦ first (edge_to at x (suc at) xs a b d)
    | inr d ↦ further (edge_in (suc at) xs a b d)
  ]
    where
      first : EdgeTo keeps at x (suc at) xs a b → Edge keeps at (x ∷ xs) a b
      first e = record {
        from = 0;
        to = suc e.to;
        earlier = x;
        later = e.later;
        from_is = let n = e.from_is in omega arith;
        to_is = let n = e.to_is in omega arith;
        before = omega arith;
        earlier_at = refl;
        later_at = e.later_at;
        kept = e.kept;
      }

      further : Edge keeps (suc at) xs a b → Edge keeps at (x ∷ xs) a b
      further e = record {
        from = suc e.from;
        to = suc e.to;
        earlier = e.earlier;
        later = e.later;
        from_is = let n = e.from_is in omega arith;
        to_is = let n = e.to_is in omega arith;
        before = let n = e.before in omega arith;
        earlier_at = e.earlier_at;
        later_at = e.later_at;
        kept = e.kept;
      }

-- ---- places of ids

any_at : (ys : List Id) (k : ℕ) (x y : Id) → slice_get ys k ≡ Some x → same_id y x ≡ true → list_any (same_id y) ys ≡ true
any_at [] k x y e s = absurd cc
any_at (z ∷ zs) zero x y e s = or_first (same_id y z) (list_any (same_id y) zs) (ap (same_id y) (some_is e) ∙ s)
any_at (z ∷ zs) (suc k) x y e s = or_second (same_id y z) (list_any (same_id y) zs) (any_at zs k x y e s)

place_at : (ids : List Id) (k : ℕ) (x : Id) → AreOnce ids → slice_get ids k ≡ Some x → place_of ids x ≡ k
place_at [] k x o e = absurd cc
place_at (y ∷ ys) zero x o e = ap (λ b. cond b 0 (suc (place_of ys x))) (ap (λ z. same_id z x) (some_is e) ∙ same_itself x)
place_at (y ∷ ys) (suc k) x o e =
    ap (λ b. cond b 0 (suc (place_of ys x))) (not_true (same_id y x) (λ s. true_false (sym (any_at ys k x y e s) ∙ o.0))) ∙ ap suc (place_at ys k x o.1 e)

found : (ids : List Id) (x : Id) → list_any (same_id x) ids ≡ true → slice_get ids (place_of ids x) ≡ Some x
found [] x h = absurd cc
found (y ∷ ys) x h = by_test (same_id y x) refl (λ k. found ys x k)
  where
    turned : same_id y x ≡ false → same_id x y ≡ false
    turned e = not_true (same_id x y) (λ s. true_false (sym (ap (λ z. same_id z x) (sym (same_is x y s)) ∙ same_itself x) ∙ e))

    by_test : (b : Bool) → same_id y x ≡ b → (list_any (same_id x) ys ≡ true → slice_get ys (place_of ys x) ≡ Some x) → slice_get (y ∷ ys) (cond b 0 (suc (place_of ys x))) ≡ Some x
    by_test true e more = ap Some (same_is y x e)
    by_test false e more = more (sym (ap (λ b. b || list_any (same_id x) ys) (turned e)) ∙ h)

-- ---- groups

owner_has : (groups : List (List ℕ)) (p : ℕ) → owner_of groups p < length groups → has (get_or groups (owner_of groups p) []) p ≡ true
owner_has [] p h = absurd (omega arith)
owner_has (g ∷ gs) p h = by_test (has g p) refl (λ l. owner_has gs p l)
  where
    owner : (b : Bool) → has g p ≡ b → owner_of (g ∷ gs) p ≡ cond b 0 (suc (owner_of gs p))
    owner b e = owner_first g gs p ∙ ap (λ t. cond t 0 (suc (owner_of gs p))) e

    by_test : (b : Bool) → has g p ≡ b → (owner_of gs p < length gs → has (get_or gs (owner_of gs p) []) p ≡ true) → has (get_or (g ∷ gs) (owner_of (g ∷ gs) p) []) p ≡ true
    by_test true e more = ap (λ k. has (get_or (g ∷ gs) k []) p) (owner true e) ∙ e
    by_test false e more =
        let less : suc (owner_of gs p) < length (g ∷ gs) = subst (λ k. k < length (g ∷ gs)) (owner false e) h in
        ap (λ k. has (get_or (g ∷ gs) k []) p) (owner false e) ∙ more (omega arith)

-- a group's number is that of a bundle or of a single
front_or_back : (f : List Id → List ℕ) (bs : List (List Id)) (rest : List (List ℕ)) (g : ℕ) → g < length (map f bs ++ rest) →
    ((b : List Id) × Contains bs b × (get_or (map f bs ++ rest) g [] ≡ f b)) ⊎ ((k : ℕ) × (k < length rest) × (get_or (map f bs ++ rest) g [] ≡ get_or rest k []))
front_or_back f [] rest g h = inr (g, h, refl)
front_or_back f (b ∷ bs) rest zero h = inl (b, (zero, omega arith, refl), refl)
front_or_back f (b ∷ bs) rest (suc g) h = elim (front_or_back f bs rest g (omega arith)) [ inl r ↦ inl (r.0, contains_more b bs r.0 r.1, r.2) | inr r ↦ inr r ]

record Single (bundles : List (List Id)) (groups : List (List ℕ)) (at : ℕ) (xs : List Id) (k : ℕ) : Type 0 where
  place : ℕ
  id : Id
  group : get_or groups k [] ≡ (at + place) ∷ []
  there : slice_get xs place ≡ Some id
  alone : is_member bundles id ≡ false

single_at : (bundles : List (List Id)) (at : ℕ) (xs : List Id) (k : ℕ) → k < length (singles bundles at xs) → Single bundles (singles bundles at xs) at xs k
single_at bundles at [] k h = absurd (omega arith)
single_at bundles at (x ∷ xs) k h = by_test (is_member bundles x) refl k h (λ j l. single_at bundles (suc at) xs j l)
  where
    rest : List (List ℕ)
    rest = singles bundles (suc at) xs

    plus : (n : ℕ) → suc at + n ≡ at + suc n
    plus n = omega arith

    further : (groups : List (List ℕ)) (k j : ℕ) → get_or groups k [] ≡ get_or rest j [] → Single bundles rest (suc at) xs j → Single bundles groups at (x ∷ xs) k
    further groups k j e s = record { place = suc s.place; id = s.id; group = e ∙ s.group ∙ ap (λ n. n ∷ []) (plus s.place); there = s.there; alone = s.alone }

    by_test : (b : Bool) → is_member bundles x ≡ b → (k : ℕ) → k < length (cond b rest ((at ∷ []) ∷ rest)) → ((j : ℕ) → j < length rest → Single bundles rest (suc at) xs j) →
        Single bundles (cond b rest ((at ∷ []) ∷ rest)) at (x ∷ xs) k
    by_test true e k h more = further rest k k refl (more k h)
    by_test false e zero h more = record { place = 0; id = x; group = ap (λ n. n ∷ []) (omega arith); there = refl; alone = e }
    by_test false e (suc k) h more = further ((at ∷ []) ∷ rest) (suc k) k refl (more k (omega arith))

member_of : (bs : List (List Id)) (b : List Id) (x : Id) → Contains bs b → list_any (same_id x) b ≡ true → is_member bs x ≡ true
member_of [] b x c h = absurd (omega (arith, c.1))
member_of (a ∷ bs) b x (zero, low, is) h = or_first (list_any (same_id x) a) (is_member bs x) (ap (list_any (same_id x)) is ∙ h)
member_of (a ∷ bs) b x (suc k, low, is) h = or_second (list_any (same_id x) a) (is_member bs x) (member_of bs b x (k, omega arith, is) h)

in_group : (ids : List Id) (ps : List ℕ) (p : ℕ) (x : Id) → has ps p ≡ true → slice_get ids p ≡ Some x → list_any (same_id x) (ids_at ids ps) ≡ true
in_group ids [] p x h e = absurd cc
in_group ids (q ∷ ps) p x h e = by_first (head_or_more q p ps h) (λ k. in_group ids ps p x k e)
  where
    further : (u : Option Id) (l : List Id) → list_any (same_id x) l ≡ true → list_any (same_id x) (with_id u l) ≡ true
    further None l k = k
    further (Some y) l k = or_second (same_id x y) (list_any (same_id x) l) k

    by_first : (q ≡ p) ⊎ (has ps p ≡ true) → (has ps p ≡ true → list_any (same_id x) (ids_at ids ps) ≡ true) → list_any (same_id x) (with_id (slice_get ids q) (ids_at ids ps)) ≡ true
    by_first (inl s) more =
        ap (λ u. list_any (same_id x) (with_id u (ids_at ids ps))) (ap (slice_get ids) s ∙ e) ∙ or_first (same_id x x) (list_any (same_id x) (ids_at ids ps)) (same_itself x)
    by_first (inr k) more = further (slice_get ids q) (ids_at ids ps) (more k)

whole : (ids b : List Id) → ((x : Id) → list_any (same_id x) b ≡ true → list_any (same_id x) ids ≡ true) → ids_at ids (map (place_of ids) b) ≡ b
whole ids [] h = refl
whole ids (x ∷ xs) h =
    ap (λ u. with_id u (ids_at ids (map (place_of ids) xs))) (found ids x (h x (or_first (same_id x x) (list_any (same_id x) xs) (same_itself x))))
    ∙ ap (λ l. x ∷ l) (whole ids xs (λ y k. h y (or_second (same_id y x) (list_any (same_id y) xs) k)))

module _ (keeps : Keeps) (ids : List Id) (bundles : List (List Id)) (once : AreOnce ids)
    (members : (x : Id) → is_member bundles x ≡ true → list_any (same_id x) ids ≡ true)
    (part : IsPartition (groups_in bundles ids)) (as_many : size (groups_in bundles ids) ≡ length ids) where
  abbrev groups : List (List ℕ)
  groups = groups_in bundles ids

  abbrev edges : List (ℕ × ℕ)
  edges = edges_in keeps 0 ids

  abbrev pub group : ℕ → List Id
  group g = ids_at ids (get_or groups g [])

  get_less : (xs : List Id) (k : ℕ) (x : Id) → slice_get xs k ≡ Some x → k < length xs
  get_less [] k x e = absurd cc
  get_less (z ∷ xs) zero x e = omega arith
  get_less (z ∷ xs) (suc k) x e = let r = get_less xs k x e in omega arith

  -- a place of an id is held by the group of its owner
  owned : (p : ℕ) (x : Id) → slice_get ids p ≡ Some x → (owner_of groups p < length groups) × (list_any (same_id x) (group (owner_of groups p)) ≡ true)
  owned p x e =
      let less : p < length ids = get_less ids p x e in
      let many = as_many in
      let low : owner_of groups p < length groups = part.covered p (omega arith) in
      (low, in_group ids (get_or groups (owner_of groups p) []) p x (owner_has groups p low) e)

  link : (g h : ℕ) → Contains (contracted groups edges) (g, h) → (g < length groups) × LeadsTo keeps ids (group g) (group h)
  link g h c =
      let r = contains_map (λ (e : ℕ × ℕ). (owner_of groups e.0, owner_of groups e.1)) edges (g, h) c in
      let e = edge_in keeps 0 ids (r.0).0 (r.0).1 r.1 in
      let from : e.from ≡ (r.0).0 = let n = e.from_is in omega arith in
      let to : e.to ≡ (r.0).1 = let n = e.to_is in omega arith in
      let first : owner_of groups e.from ≡ g = ap (owner_of groups) from ∙ ap (λ (p : ℕ × ℕ). p.0) r.2 in
      let second : owner_of groups e.to ≡ h = ap (owner_of groups) to ∙ ap (λ (p : ℕ × ℕ). p.1) r.2 in
      let one = owned e.from e.earlier e.earlier_at in
      let two = owned e.to e.later e.later_at in (
        subst (λ n. n < length groups) first one.0,
        record {
          earlier = e.earlier;
          later = e.later;
          in_first = ap (λ n. list_any (same_id e.earlier) (group n)) (sym first) ∙ one.1;
          in_second = ap (λ n. list_any (same_id e.later) (group n)) (sym second) ∙ two.1;
          before =
              let p : place_of ids e.earlier ≡ e.from = place_at ids e.from e.earlier once e.earlier_at in
              let q : place_of ids e.later ≡ e.to = place_at ids e.to e.later once e.later_at in
              let l = e.before in omega arith;
          kept = e.kept;
        },
      )

  from_none : (n : ℕ) → 0 + n ≡ n
  from_none n = omega arith

  -- a group of the window
  group_is : (g : ℕ) → g < length groups → IsGroup ids bundles (group g)
  group_is g h = elim (front_or_back (map (place_of ids)) bundles (singles bundles 0 ids) g h) [
    | inl r ↦ inl (subst (Contains bundles) (sym (ap (ids_at ids) r.2 ∙ whole ids r.0 (λ x k. members x (member_of bundles r.0 x r.1 k)))) r.1)
    | inr r ↦ (let s = single_at bundles 0 ids r.0 r.1 in
        inr (s.id, ap (ids_at ids) (r.2 ∙ s.group ∙ ap (λ n. n ∷ []) (from_none s.place)) ∙ ap (λ u. with_id u []) s.there, any_at ids s.place s.id s.id s.there (same_itself s.id), s.alone))
  ]

  leads : (v : ℕ) (vs : List ℕ) (w : ℕ) → Leads (contracted groups edges) v vs w → LeadThrough keeps ids (group v) (map group vs) (group w) × All (λ g. IsGroup ids bundles (group g)) (v ∷ vs)
  leads v [] w l = let r = link v w l in (r.1, All-cons (λ g. IsGroup ids bundles (group g)) v [] (group_is v r.0) (All-nil (λ g. IsGroup ids bundles (group g))))
  leads v (u ∷ vs) w l =
      let r = link v u l.0 in
      let more = leads u vs w l.1 in
      ((r.1, more.0), All-cons (λ g. IsGroup ids bundles (group g)) v (u ∷ vs) (group_is v r.0) more.1)

  pub cycled : (cycle : List ℕ) → order.IsCycle (contracted groups edges) cycle → IsCycle keeps ids (map group cycle) × All (IsGroup ids bundles) (map group cycle)
  cycled [] c = absurd c
  cycled (v ∷ vs) c = let r = leads v vs v c in (r.0, All-map (IsGroup ids bundles) group (v ∷ vs) r.1)
