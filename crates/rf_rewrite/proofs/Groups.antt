-- The groups of a window: each is the lanes of one node in order, or one instruction that is no lane; and they take the window once.
use Rattle.std.proofs.Common.{◌≡◌, refl, sym, ap, ◌∙◌, subst, ℕ, zero, suc, ◌+◌, ◌≤◌, inl, inr, Bool, true, false, ◌||◌, Option, None, Some, List, [], ◌∷◌, ◌++◌, map, cond, slice_get, get_or, option_map, arith, length, append_assoc}
use Rattle.std.specs.Bool.{⊤}
use Rattle.std.specs.List.{list_any}
use Rattle.ir_types.specs.declared.id.Id.{Id}
use Rattle.ir_types.specs.declared.inst.Inst.{Inst}
use Rattle.ir_types.specs.declared.module.Module.{Module}
use Rattle.ir_types.specs.Available.{same_id}
use Rattle.ir_types.proofs.Formed.{Every}
use Rattle.ir_types.proofs.Among.{same_is, same_itself, swapped}
use Rattle.vx_order.specs.Order.{order_of}
use Rattle.vx_view.specs.Answers.{find}
use Rattle.vx_serial.specs.declared.node.Node.{Node}
use Rattle.vx_serial.specs.Window.{is_member, up_to, from_member, window, place_of, singles, groups_in, edges_in, with_inst, insts_at, order_in, joined}
use Rattle.vx_serial.specs.Bundles.{AreOnce, ids_of}
use Rattle.vx_serial.specs.Rewriting.{is_id_in, joined_ids, before_member, after_inst, bundle_of}
use Rattle.vx_serial.proofs.Places.{member_joined}
use Rattle.rf_order.specs.Rows.{Reordered}
use Rattle.rf_rewrite.proofs.Contexts.{one_of, times, times_append}
use Rattle.rf_rewrite.proofs.Window.{find_id, find_append}
use Rattle.rf_rewrite.proofs.Making.{every_append, Member, IsGroup}

abbrev count : Bool → ℕ
count b = cond b 1 0

-- ---- the block, cut at its window

pub up_after : (last : Id) (l : List Inst) → up_to last l ++ after_inst last l ≡ l
up_after last [] = refl
up_after last (i ∷ l) = by_test (same_id i.id last) (up_after last l)
  where
    by_test : (b : Bool) → up_to last l ++ after_inst last l ≡ l → (i ∷ cond b [] (up_to last l)) ++ cond b l (after_inst last l) ≡ i ∷ l
    by_test true e = refl
    by_test false e = ap (λ u. i ∷ u) e

pub before_from : (bundles : List (List Id)) (l : List Inst) → before_member bundles l ++ from_member bundles l ≡ l
before_from bundles [] = refl
before_from bundles (i ∷ l) = by_test (is_member bundles i.id) (before_from bundles l)
  where
    by_test : (b : Bool) → before_member bundles l ++ from_member bundles l ≡ l → cond b [] (i ∷ before_member bundles l) ++ cond b (i ∷ l) (from_member bundles l) ≡ i ∷ l
    by_test true e = refl
    by_test false e = ap (λ u. i ∷ u) e

abbrev pub has_member : List (List Id) → List Inst → Bool
has_member bundles l = list_any (λ (i : Inst). is_member bundles i.id) l

before_append : (bundles : List (List Id)) (l k : List Inst) → has_member bundles l ≡ true → before_member bundles (l ++ k) ≡ before_member bundles l
before_append bundles [] k h = absurd cc
before_append bundles (i ∷ l) k h = by_test (is_member bundles i.id) h (before_append bundles l k)
  where
    by_test : (b : Bool) → (b || has_member bundles l) ≡ true → (has_member bundles l ≡ true → before_member bundles (l ++ k) ≡ before_member bundles l) →
        cond b [] (i ∷ before_member bundles (l ++ k)) ≡ cond b [] (i ∷ before_member bundles l)
    by_test true r more = refl
    by_test false r more = ap (λ u. i ∷ u) (more r)

-- what stands before the window, the window, and what stands after it
pub block_cut : (bundles : List (List Id)) (last : Id) (l : List Inst) → has_member bundles (up_to last l) ≡ true →
    before_member bundles l ++ (window l last bundles ++ after_inst last l) ≡ l
block_cut bundles last l h =
    ap (λ u. before_member bundles u ++ (window l last bundles ++ after_inst last l)) (sym (up_after last l))
    ∙ ap (λ u. u ++ (window l last bundles ++ after_inst last l)) (before_append bundles (up_to last l) (after_inst last l) h)
    ∙ sym (append_assoc (before_member bundles (up_to last l)) (window l last bundles) (after_inst last l))
    ∙ ap (λ u. u ++ after_inst last l) (before_from bundles (up_to last l))
    ∙ up_after last l

pub has_of : (bundles : List (List Id)) (x : Id) (l : List Inst) → 1 ≤ times x l → is_member bundles x ≡ true → has_member bundles l ≡ true
has_of bundles x [] some h = absurd (omega (arith, some))
has_of bundles x (i ∷ l) some h = by_test (same_id i.id x) refl (has_of bundles x l)
  where
    by_test : (b : Bool) → same_id i.id x ≡ b → (1 ≤ times x l → is_member bundles x ≡ true → has_member bundles l ≡ true) → (is_member bundles i.id || has_member bundles l) ≡ true
    by_test true t more = ap (λ v. is_member bundles v || has_member bundles l) (same_is i.id x t) ∙ ap (λ b. b || has_member bundles l) h
    by_test false t more = either_way (is_member bundles i.id)
      where
        none : one_of i.id x ≡ 0
        none = ap (λ b. cond b 1 0) t

        either_way : (b : Bool) → (b || has_member bundles l) ≡ true
        either_way true = refl
        either_way false = more (omega (arith, some, none)) h

-- a member stands in what begins with the first member
pub member_from : (bundles : List (List Id)) (x : Id) (l : List Inst) → is_member bundles x ≡ true → times x (from_member bundles l) ≡ times x l
member_from bundles x [] h = refl
member_from bundles x (i ∷ l) h = by_test (is_member bundles i.id) refl (member_from bundles x l h)
  where
    true_false : true ≡ false → ⊥
    true_false e = cc

    by_test : (b : Bool) → is_member bundles i.id ≡ b → times x (from_member bundles l) ≡ times x l → times x (cond b (i ∷ l) (from_member bundles l)) ≡ one_of i.id x + times x l
    by_test true t e = refl
    by_test false t e = let none = other (same_id i.id x) refl in omega (arith, e, none)
      where
        other : (b : Bool) → same_id i.id x ≡ b → count b ≡ 0
        other true s = absurd (true_false (sym h ∙ (ap (is_member bundles) (sym (same_is i.id x s)) ∙ t)))
        other false s = refl

-- no member stands before the window
pub none_before : (bundles : List (List Id)) (x : Id) (l : List Inst) → is_member bundles x ≡ true → times x (before_member bundles l) ≡ 0
none_before bundles x [] h = refl
none_before bundles x (i ∷ l) h = by_test (is_member bundles i.id) refl (none_before bundles x l h)
  where
    true_false : true ≡ false → ⊥
    true_false e = cc

    by_test : (b : Bool) → is_member bundles i.id ≡ b → times x (before_member bundles l) ≡ 0 → times x (cond b [] (i ∷ before_member bundles l)) ≡ 0
    by_test true t e = refl
    by_test false t e = let none = other (same_id i.id x) refl in omega (arith, e, none)
      where
        other : (b : Bool) → same_id i.id x ≡ b → count b ≡ 0
        other true s = absurd (true_false (sym h ∙ (ap (is_member bundles) (sym (same_is i.id x s)) ∙ t)))
        other false s = refl

-- ---- ids that stand once

pub any_times : (x : Id) (l : List Inst) → 1 ≤ times x l → list_any (same_id x) (ids_of l) ≡ true
any_times x [] h = absurd (omega (arith, h))
any_times x (i ∷ l) h = by_test (same_id i.id x) refl (any_times x l)
  where
    by_test : (b : Bool) → same_id i.id x ≡ b → (1 ≤ times x l → list_any (same_id x) (ids_of l) ≡ true) → (same_id x i.id || list_any (same_id x) (ids_of l)) ≡ true
    by_test true t more = ap (λ b. b || list_any (same_id x) (ids_of l)) (swapped x i.id ∙ t)
    by_test false t more =
        let none : one_of i.id x ≡ 0 = ap (λ b. cond b 1 0) t in
        ap (λ b. b || list_any (same_id x) (ids_of l)) (swapped x i.id ∙ t) ∙ more (omega (arith, h, none))

pub none_times : (x : Id) (l : List Inst) → times x l ≡ 0 → list_any (same_id x) (ids_of l) ≡ false
none_times x [] h = refl
none_times x (i ∷ l) h = by_test (same_id i.id x) refl h (none_times x l)
  where
    by_test : (b : Bool) → same_id i.id x ≡ b → cond b 1 0 + times x l ≡ 0 → (times x l ≡ 0 → list_any (same_id x) (ids_of l) ≡ false) → (same_id x i.id || list_any (same_id x) (ids_of l)) ≡ false
    by_test true t e more = absurd (omega (arith, e))
    by_test false t e more = ap (λ b. b || list_any (same_id x) (ids_of l)) (swapped x i.id ∙ t) ∙ more (omega (arith, e))

pub times_any : (x : Id) (l : List Inst) → list_any (same_id x) (ids_of l) ≡ true → 1 ≤ times x l
times_any x l h = by_times (times x l) refl
  where
    true_false : true ≡ false → ⊥
    true_false e = cc

    by_times : (n : ℕ) → times x l ≡ n → 1 ≤ times x l
    by_times zero e = absurd (true_false (sym h ∙ none_times x l e))
    by_times (suc n) e = omega (arith, e)

pub once_times : (l : List Inst) → ((x : Id) → times x l ≤ 1) → AreOnce (ids_of l)
once_times [] h = tt
once_times (i ∷ l) h = (
  none_times i.id l (let le = h i.id in let one : one_of i.id i.id ≡ 1 = ap (λ b. cond b 1 0) (same_itself i.id) in omega (arith, le, one)),
  once_times l (λ x. let le = h x in omega (arith, le)),
)

-- ---- another order takes each as often

pub reordered_times : (depends : Inst → Inst → Bool) (old new : List Inst) → Reordered depends old new → (y : Id) → times y new ≡ times y old
reordered_times depends old [] r y = ap (times y) (sym r)
reordered_times depends old (i ∷ new) (f, rest, is, none, more) y =
    let all = ap (times y) is in
    let first = times_append y f (i ∷ rest) in
    let then = times_append y f rest in
    let later = reordered_times depends (f ++ rest) new more y in
    omega (arith, all, first, then, later)

-- ---- where an instruction stands

pub place_found : (x : Id) (l : List Inst) (i : Inst) → find x l ≡ Some i → slice_get l (place_of l x) ≡ Some i
place_found x [] i e = absurd cc
place_found x (j ∷ l) i e = by_test (same_id j.id x) e (place_found x l i)
  where
    by_test : (b : Bool) → cond b (Some j) (find x l) ≡ Some i → (find x l ≡ Some i → slice_get l (place_of l x) ≡ Some i) → slice_get (j ∷ l) (cond b 0 (suc (place_of l x))) ≡ Some i
    by_test true r more = r
    by_test false r more = more r

-- ---- the kinds of groups

module _ (globals region : ℕ) (bundles : List (List Id)) (window : List Inst) (base : Id → ℕ) (tree : List Node)
    (members : (x : Id) (i : Inst) → find x window ≡ Some i → Member globals region (joined bundles) window base i) where
  abbrev pub AGroup : List ℕ → Type 0
  AGroup g = IsGroup globals region (joined bundles) window base tree (insts_at window g)

  -- a bundle whose ids stand in the window
  abbrev Standing : List Id → Type 0
  Standing xs = Every (λ x. (i : Inst) × (find x window ≡ Some i) × (is_id_in (joined bundles) x ≡ true)) xs

  bundle_members : (xs : List Id) → Standing xs →
      Every (Member globals region (joined bundles) window base) (insts_at window (map (place_of window) xs))
      × Every (λ (i : Inst). is_id_in (joined bundles) i.id ≡ true) (insts_at window (map (place_of window) xs))
  bundle_members [] h = (tt, tt)
  bundle_members (x ∷ xs) h =
      let rest = bundle_members xs h.1 in
      let inst = h.0.0 in
      let at = place_found x window inst h.0.1 in
      let lane : is_id_in (joined bundles) inst.id ≡ true = ap (is_id_in (joined bundles)) (same_is inst.id x (find_id x window inst h.0.1)) ∙ h.0.2 in (
        subst (λ o. Every (Member globals region (joined bundles) window base) (with_inst o (insts_at window (map (place_of window) xs)))) (sym at) (members x inst h.0.1, rest.0),
        subst (λ o. Every (λ (i : Inst). is_id_in (joined bundles) i.id ≡ true) (with_inst o (insts_at window (map (place_of window) xs)))) (sym at) (lane, rest.1),
      )

  -- the first of a bundle is the first lane of a node
  abbrev pub HasFirst : ℕ → List Node → List Id → Type 0
  HasFirst at ns [] = ⊤
  HasFirst at ns (x ∷ xs) = (b : ℕ × List ℕ) × (bundle_of x at ns ≡ Some b)

  bundle_group : (xs : List Id) → Standing xs → HasFirst 0 tree xs → AGroup (map (place_of window) xs)
  bundle_group [] h f = tt
  bundle_group (x ∷ xs) h f =
      let all = bundle_members (x ∷ xs) h in
      let inst = h.0.0 in
      let at = place_found x window inst h.0.1 in
      let first : bundle_of inst.id 0 tree ≡ Some f.0 = ap (λ v. bundle_of v 0 tree) (same_is inst.id x (find_id x window inst h.0.1)) ∙ f.1 in
      let one = subst (λ o. Every (Member globals region (joined bundles) window base) (with_inst o (insts_at window (map (place_of window) xs)))) at all.0 in
      let two = subst (λ o. Every (λ (i : Inst). is_id_in (joined bundles) i.id ≡ true) (with_inst o (insts_at window (map (place_of window) xs)))) at all.1 in
      subst (λ o. IsGroup globals region (joined bundles) window base tree (with_inst o (insts_at window (map (place_of window) xs)))) (sym at) (one, inr (f.0, first, two))

  pub bundle_groups : (bs : List (List Id)) → Every Standing bs → Every (HasFirst 0 tree) bs → Every AGroup (map (map (place_of window)) bs)
  bundle_groups [] h f = tt
  bundle_groups (b ∷ bs) h f = (bundle_group b h.0 f.0, bundle_groups bs h.1 f.1)

  get_at : (front is : List Inst) (i : Inst) (at : ℕ) → at ≡ length front → window ≡ front ++ i ∷ is → slice_get window at ≡ Some i
  get_at front is i at e w = ap (λ n. slice_get window n) e ∙ ap (λ u. slice_get u (length front)) w ∙ middle front
    where
      middle : (f : List Inst) → slice_get (f ++ i ∷ is) (length f) ≡ Some i
      middle [] = refl
      middle (j ∷ f) = middle f

  module _ (alone : (x : Id) → is_id_in (joined bundles) x ≡ false → bundle_of x 0 tree ≡ None) (once : (x : Id) → times x window ≤ 1) where
    finds_at : (front is : List Inst) (i : Inst) → window ≡ front ++ i ∷ is → find i.id window ≡ Some i
    finds_at front is i w =
        let le = once i.id in
        let all = ap (times i.id) w in
        let sum = times_append i.id front (i ∷ is) in
        let one : one_of i.id i.id ≡ 1 = ap (λ b. cond b 1 0) (same_itself i.id) in
        ap (find i.id) w ∙ find_append i.id front (i ∷ is) (omega (arith, le, all, sum, one)) ∙ ap (λ b. cond b (Some i) (find i.id is)) (same_itself i.id)

    pub single_groups : (front is : List Inst) (at : ℕ) → at ≡ length front → window ≡ front ++ is → Every AGroup (singles bundles at is)
    single_groups front [] at e w = tt
    single_groups front (i ∷ is) at e w = by_test (is_member bundles i.id) refl (single_groups (front ++ i ∷ []) is (suc at) longer (w ∙ sym (append_assoc front (i ∷ []) is)))
      where
        longer : suc at ≡ length (front ++ i ∷ [])
        longer = ap suc e ∙ count front
          where
            count : (f : List Inst) → suc (length f) ≡ length (f ++ i ∷ [])
            count [] = refl
            count (j ∷ f) = ap suc (count f)

        by_test : (b : Bool) → is_member bundles i.id ≡ b → Every AGroup (singles bundles (suc at) is) → Every AGroup (cond b (singles bundles (suc at) is) ((at ∷ []) ∷ singles bundles (suc at) is))
        by_test true t rest = rest
        by_test false t rest =
            let lone : is_id_in (joined bundles) i.id ≡ false = sym (member_joined bundles i.id) ∙ t in (
              subst (λ o. IsGroup globals region (joined bundles) window base tree (with_inst o [])) (sym (get_at front is i at e w))
                  ((members i.id i (finds_at front is i w), tt), inl (alone i.id lone, (lone, tt))),
              rest,
            )

    get_group : (gs : List (List ℕ)) (k : ℕ) → Every AGroup gs → AGroup (get_or gs k [])
    get_group [] k h = tt
    get_group (g ∷ gs) zero h = h.0
    get_group (g ∷ gs) (suc k) h = get_group gs k h.1

    got_groups : (gs : List (List ℕ)) (ws : List ℕ) → Every AGroup gs →
        Every (IsGroup globals region (joined bundles) window base tree) (map (λ g. insts_at window (get_or gs g [])) ws)
    got_groups gs [] h = tt
    got_groups gs (w ∷ ws) h = (get_group gs w h, got_groups gs ws h)

    -- all groups of the order
    pub order_groups : (m : Module) (block : List Inst) (groups : List (List Inst)) → Every Standing bundles → Every (HasFirst 0 tree) bundles → order_in m block window bundles ≡ Some groups →
        Every (IsGroup globals region (joined bundles) window base tree) groups
    order_groups m block groups stand first e = by_order (order_of (groups_in bundles window) (edges_in m block 0 window)) e
      where
        all : Every AGroup (groups_in bundles window)
        all = every_append AGroup (map (map (place_of window)) bundles) (singles bundles 0 window) (bundle_groups bundles stand first) (single_groups [] window 0 refl refl)

        some_is : (p q : List (List Inst)) → Some p ≡ Some q → p ≡ q
        some_is p q e = cc

        by_order : (o : Option (List ℕ)) → option_map (map (λ g. insts_at window (get_or (groups_in bundles window) g []))) o ≡ Some groups →
            Every (IsGroup globals region (joined bundles) window base tree) groups
        by_order None r = absurd cc
        by_order (Some ws) r =
            subst (Every (IsGroup globals region (joined bundles) window base tree))
            (some_is (map (λ g. insts_at window (get_or (groups_in bundles window) g [])) ws) groups r)
            (got_groups (groups_in bundles window) ws all)

-- ---- the nodes of a tree and their bundles

joined_same : (bs : List (List Id)) → joined_ids bs ≡ joined bs
joined_same [] = refl
joined_same (b ∷ bs) = ap (λ u. b ++ u) (joined_same bs)

pub joined_is : (bs : List (List Id)) → joined_ids bs ≡ joined bs
joined_is bs = joined_same bs
