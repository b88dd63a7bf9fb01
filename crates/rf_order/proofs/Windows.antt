-- The window of bundles in its order: its places, its groups and its edges, and the instructions that stand there.
use Rattle.std.proofs.Common.{◌≡◌, refl, sym, ap, ◌∙◌, subst, ℕ, zero, suc, ◌+◌, ◌<◌, inl, inr, Bool, true, false, cond, Option, None, Some, List, [], ◌∷◌, ◌++◌, length, length-append, map, slice_get, get_or, option_map, arith}
use Rattle.ir_types.specs.declared.id.Id.{Id}
use Rattle.ir_types.specs.declared.inst.Inst.{Inst}
use Rattle.ir_types.specs.declared.module.Module.{Module}
use Rattle.vx_order.specs.Groups.{owner_of, positions, links_of}
use Rattle.vx_order.specs.Order.{order_on}
use Rattle.vx_view.specs.Conflicts.{depends}
use Rattle.vx_serial.specs.Window.{groups_in, edges_from, edges_in, with_inst, insts_at, order_in, joined}
use Rattle.vx_serial.specs.Bundles.{AreOnce, ids_of, AreBundles}
use Rattle.rf_order.specs.Rows.{NoneBefore, Reordered}
use Rattle.vx_serial.proofs.Grouped.{group_of}
use Rattle.vx_serial.proofs.Places.{groups_cover, groups_distinct, places_all, places_ascend, places_from, places_long}
use Rattle.rf_order.specs.Windows.{OrdersReorder}
use Rattle.rf_order.proofs.Schedules.{place_is, Stands, flat_reordered, InTurn, groups_in_turn}

-- ---- the instructions of places

-- whether the instruction of a later place depends on that of an earlier one
abbrev pub depends_if : Module → List Inst → Option Inst → Option Inst → Bool
depends_if m block (Some j) (Some i) = depends m block j i
depends_if m block _ _ = false

abbrev pub depends_at : Module → List Inst → List Inst → ℕ → ℕ → Bool
depends_at m block insts y x = depends_if m block (slice_get insts y) (slice_get insts x)

with_append : (o : Option Inst) (xs ys : List Inst) → with_inst o (xs ++ ys) ≡ with_inst o xs ++ ys
with_append None xs ys = refl
with_append (Some i) xs ys = refl

pub insts_append : (insts : List Inst) (ps qs : List ℕ) → insts_at insts (ps ++ qs) ≡ insts_at insts ps ++ insts_at insts qs
insts_append insts [] qs = refl
insts_append insts (p ∷ ps) qs = ap (with_inst (slice_get insts p)) (insts_append insts ps qs) ∙ with_append (slice_get insts p) (insts_at insts ps) (insts_at insts qs)

module _ (m : Module) (block insts : List Inst) where
  none_before : (f : List ℕ) (y : ℕ) (i : Inst) → slice_get insts y ≡ Some i → NoneBefore (depends_at m block insts) f y → NoneBefore (depends m block) (insts_at insts f) i
  none_before [] y i e h = tt
  none_before (x ∷ f) y i e h = by_inst (slice_get insts x) (ap (λ o. depends_if m block o (slice_get insts x)) (sym e) ∙ h.0) (none_before f y i e h.1) where
    by_inst : (o : Option Inst) → depends_if m block (Some i) o ≡ false → NoneBefore (depends m block) (insts_at insts f) i → NoneBefore (depends m block) (with_inst o (insts_at insts f)) i
    by_inst None h rest = rest
    by_inst (Some j) h rest = (h, rest)

  pub insts_reordered : (new old : List ℕ) → Reordered (depends_at m block insts) old new → Reordered (depends m block) (insts_at insts old) (insts_at insts new)
  insts_reordered [] old r = ap (insts_at insts) r
  insts_reordered (y ∷ ys) old (f, rest, is, none, more) = by_inst (slice_get insts y) refl (insts_reordered ys (f ++ rest) more) where
    by_inst : (o : Option Inst) → slice_get insts y ≡ o → Reordered (depends m block) (insts_at insts (f ++ rest)) (insts_at insts ys) → Reordered (depends m block) (insts_at insts old) (with_inst o (insts_at insts ys))
    by_inst None e more =
        subst (λ l. Reordered (depends m block) l (insts_at insts ys))
        (insts_append insts f rest ∙ ap (λ l. insts_at insts f ++ l) (ap (λ o. with_inst o (insts_at insts rest)) (sym e)) ∙ sym (insts_append insts f (y ∷ rest)) ∙ ap (insts_at insts) (sym is)) more
    by_inst (Some i) e more = (
      insts_at insts f,
      insts_at insts rest,
      ap (insts_at insts) is ∙ insts_append insts f (y ∷ rest) ∙ ap (λ o. insts_at insts f ++ with_inst o (insts_at insts rest)) e,
      none_before f y i e none,
      subst (λ l. Reordered (depends m block) l (insts_at insts ys)) (insts_append insts f rest) more,
    )

-- ---- all places

get_middle : (front is : List Inst) (i : Inst) → slice_get (front ++ i ∷ is) (length front) ≡ Some i
get_middle [] is i = refl
get_middle (j ∷ front) is i = get_middle front is i

append_more : (xs : List Inst) (y : Inst) (ys : List Inst) → (xs ++ y ∷ []) ++ ys ≡ xs ++ y ∷ ys
append_more [] y ys = refl
append_more (x ∷ xs) y ys = ap (λ r. x ∷ r) (append_more xs y ys)

insts_places : (is front all : List Inst) (at : ℕ) → all ≡ front ++ is → at ≡ length front → insts_at all (places_from at is) ≡ is
insts_places [] front all at e l = refl
insts_places (i ∷ is) front all at e l =
    ap (λ o. with_inst o (insts_at all (places_from (suc at) is))) (ap (slice_get all) l ∙ ap (λ a. slice_get a (length front)) e ∙ get_middle front is i)
    ∙ ap (λ r. i ∷ r) (insts_places is (front ++ i ∷ []) all (suc at) (e ∙ sym (append_more front i is)) (let u : length (front ++ i ∷ []) ≡ length front + 1 = length-append front (i ∷ []) in omega arith))

-- ---- edges

stands_front : (xs ys : List (ℕ × ℕ)) (e : ℕ × ℕ) → Stands e xs → Stands e (xs ++ ys)
stands_front [] ys e s = elim s [ ]
stands_front (x ∷ xs) ys e (inl h) = inl h
stands_front (x ∷ xs) ys e (inr h) = inr (stands_front xs ys e h)

stands_back : (xs ys : List (ℕ × ℕ)) (e : ℕ × ℕ) → Stands e ys → Stands e (xs ++ ys)
stands_back [] ys e s = s
stands_back (x ∷ xs) ys e s = inr (stands_back xs ys e s)

module _ (m : Module) (block : List Inst) where
  from_stands : (from : ℕ) (i : Inst) (at : ℕ) (js : List Inst) (y : ℕ) (j : Inst) → slice_get js y ≡ Some j → depends m block j i ≡ true → (b : ℕ) → b ≡ at + y → Stands (from, b) (edges_from m block from i at js)
  from_stands from i at [] y j e d b is = absurd cc
  from_stands from i at (k ∷ js) zero j e d b is =
      let same : k ≡ j = cc in
      subst (λ t. Stands (from, b) (cond t ((from, at) ∷ edges_from m block from i (suc at) js) (edges_from m block from i (suc at) js)))
      (sym (ap (λ x. depends m block x i) same ∙ d)) (inl (ap (λ n. (from, n)) (omega arith)))
  from_stands from i at (k ∷ js) (suc y) j e d b is = by_test (depends m block k i) (from_stands from i (suc at) js y j e d b (omega arith)) where
    by_test : (t : Bool) → Stands (from, b) (edges_from m block from i (suc at) js) → Stands (from, b) (cond t ((from, at) ∷ edges_from m block from i (suc at) js) (edges_from m block from i (suc at) js))
    by_test true s = inr s
    by_test false s = s

  edge_stands : (is : List Inst) (at x y : ℕ) (i j : Inst) → slice_get is x ≡ Some i → slice_get is y ≡ Some j → x < y → depends m block j i ≡ true → (a b : ℕ) → a ≡ at + x → b ≡ at + y →
      Stands (a, b) (edges_in m block at is)
  edge_stands [] at x y i j ei ej less d a b ea eb = absurd cc
  edge_stands (k ∷ is) at zero zero i j ei ej less d a b ea eb = absurd (omega arith)
  edge_stands (k ∷ is) at zero (suc y) i j ei ej less d a b ea eb =
      let same : k ≡ i = cc in
      stands_front (edges_from m block at k (suc at) is) (edges_in m block (suc at) is) (a, b)
      (subst (λ n. Stands (n, b) (edges_from m block at k (suc at) is)) (let e = ea in omega arith)
      (from_stands at k (suc at) is y j ej (ap (depends m block j) same ∙ d) b (omega arith)))
  edge_stands (k ∷ is) at (suc x) zero i j ei ej less d a b ea eb = absurd (omega arith)
  edge_stands (k ∷ is) at (suc x) (suc y) i j ei ej less d a b ea eb =
      stands_back (edges_from m block at k (suc at) is) (edges_in m block (suc at) is) (a, b) (edge_stands is (suc at) x y i j ei ej (omega arith) d a b (omega arith) (omega arith))

  pub edges_stand : (insts : List Inst) (x y : ℕ) → x < y → depends_at m block insts y x ≡ true → Stands (x, y) (edges_in m block 0 insts)
  edges_stand insts x y less d = by_insts (slice_get insts y) (slice_get insts x) refl refl d where
    by_insts : (j i : Option Inst) → slice_get insts y ≡ j → slice_get insts x ≡ i → depends_if m block j i ≡ true → Stands (x, y) (edges_in m block 0 insts)
    by_insts (Some j) (Some i) ej ei d = edge_stands insts 0 x y i j ei ej less d x y (omega arith) (omega arith)
    by_insts None i ej ei d = absurd cc
    by_insts (Some j) None ej ei d = absurd cc

-- ---- the order

joined_insts : (insts : List Inst) (groups : List (List ℕ)) (vs : List ℕ) →
    joined (map (λ g. insts_at insts (get_or groups g [])) (map (owner_of groups) vs)) ≡ insts_at insts (joined (map (group_of groups) vs))
joined_insts insts groups [] = refl
joined_insts insts groups (v ∷ vs) =
    ap (λ r. insts_at insts (group_of groups v) ++ r) (joined_insts insts groups vs) ∙ sym (insts_append insts (group_of groups v) (joined (map (group_of groups) vs)))

pub orders_reordered : OrdersReorder
orders_reordered m block insts bundles once are groups e = by_order (order_on (positions gs) (links_of gs es)) refl e where
  gs : List (List ℕ)
  gs = groups_in bundles insts

  es : List (ℕ × ℕ)
  es = edges_in m block 0 insts

  by_order : (o : Option (List ℕ)) → order_on (positions gs) (links_of gs es) ≡ o →
      option_map (map (λ g. insts_at insts (get_or gs g []))) (option_map (map (owner_of gs)) o) ≡ Some groups → Reordered (depends m block) insts (joined groups)
  by_order None is e = absurd cc
  by_order (Some vs) is e =
      let p = place_is (positions gs) (links_of gs es) (positions gs) [] vs is in
      let same : map (λ g. insts_at insts (get_or gs g [])) (map (owner_of gs) vs) ≡ groups = some e in
      subst (Reordered (depends m block) insts) (sym (joined_insts insts gs vs) ∙ ap joined same)
      (subst (λ l. Reordered (depends m block) l (insts_at insts (joined (map (group_of gs) vs)))) (insts_places insts [] insts 0 refl refl)
      (insts_reordered m block insts (joined (map (group_of gs) vs)) (places_from 0 insts)
      (subst (λ l. Reordered (depends_at m block insts) (places_from 0 insts) (joined (map (group_of gs) l))) (sym p.is)
      (flat_reordered gs (length insts) es (depends_at m block insts) (groups_distinct insts bundles once are) (groups_cover insts bundles once are)
      (λ x y less d. edges_stand m block insts x y less d) (places_from 0 insts) (places_ascend 0 0 insts (omega arith)) (places_all insts) (places_long 0 insts) p.more p.chosen p.long))))
    where
      some : Some (map (λ g. insts_at insts (get_or gs g [])) (map (owner_of gs) vs)) ≡ Some groups → map (λ g. insts_at insts (get_or gs g [])) (map (owner_of gs) vs) ≡ groups
      some e = cc

-- the groups of an order are those of places, of which each stands after all that its members depend on
pub record Turning (m : Module) (block insts : List Inst) (groups : List (List Inst)) : Type 0 where
  pub places : List (List ℕ)
  pub are : groups ≡ map (insts_at insts) places
  pub turn : InTurn (depends_at m block insts) (λ x. false) places

pub orders_in_turn : (m : Module) (block insts : List Inst) (bundles : List (List Id)) → AreOnce (ids_of insts) → AreBundles insts bundles → (groups : List (List Inst)) → order_in m block insts bundles ≡ Some groups →
    Turning m block insts groups
orders_in_turn m block insts bundles once are groups e = by_order (order_on (positions gs) (links_of gs es)) refl e where
  gs : List (List ℕ)
  gs = groups_in bundles insts

  es : List (ℕ × ℕ)
  es = edges_in m block 0 insts

  by_order : (o : Option (List ℕ)) → order_on (positions gs) (links_of gs es) ≡ o →
      option_map (map (λ g. insts_at insts (get_or gs g []))) (option_map (map (owner_of gs)) o) ≡ Some groups → Turning m block insts groups
  by_order None is e = absurd cc
  by_order (Some vs) is e =
      let p = place_is (positions gs) (links_of gs es) (positions gs) [] vs is in
      record {
        places = map (group_of gs) p.more;
        are = sym (some e) ∙ ap (λ us. map (λ g. insts_at insts (get_or gs g [])) (map (owner_of gs) us)) p.is ∙ mapped p.more;
        turn = groups_in_turn gs (length insts) es (depends_at m block insts) (groups_distinct insts bundles once are) (groups_cover insts bundles once are)
            (λ x y less d. edges_stand m block insts x y less d) (places_from 0 insts) (places_ascend 0 0 insts (omega arith)) (places_all insts) (places_long 0 insts) p.more p.chosen p.long;
      }
    where
      some : Some (map (λ g. insts_at insts (get_or gs g [])) (map (owner_of gs) vs)) ≡ Some groups → map (λ g. insts_at insts (get_or gs g [])) (map (owner_of gs) vs) ≡ groups
      some e = cc

      mapped : (us : List ℕ) → map (λ g. insts_at insts (get_or gs g [])) (map (owner_of gs) us) ≡ map (insts_at insts) (map (group_of gs) us)
      mapped [] = refl
      mapped (u ∷ us) = ap (λ r. insts_at insts (group_of gs u) ∷ r) (mapped us)
