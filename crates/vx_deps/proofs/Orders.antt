-- What is kept of a window has the order that the window has.
use Rattle.std.proofs.Common.{◌≡◌, refl, sym, ap, ◌∙◌, ℕ, zero, suc, Bool, true, false, cond, Option, None, Some, List, [], ◌∷◌, ◌++◌, map, slice_get, option_map, get_or, append_assoc, ◌||◌, subst}
use Rattle.std.proofs.lemmas.List.{reverse-append, map-append}
use Rattle.ir_types.specs.declared.id.Id.{Id}
use Rattle.ir_types.specs.declared.inst.Inst.{Inst}
use Rattle.ir_types.specs.declared.module.Module.{Module}
use Rattle.ir_types.specs.Available.{same_id}
use Rattle.std.specs.List.{list_any}
use Rattle.ir_types.proofs.Among.{among, among_left, among_right, Once, same_itself, swapped}
use Rattle.vx_serial.specs.Bundles.{AreOnce}
use Rattle.vx_serial.proofs.Decided.{neither}
use Rattle.ir_types.specs.Formed.{IsFormed}
use Rattle.vx_view.specs.Answers.{find, found, Standing}
use Rattle.vx_view.specs.Blocks.{block_at}
use Rattle.vx_view.proofs.Blocks.{found_block}
use Rattle.vx_view.proofs.Edits.{inst_ids, once_left, once_right}
use Rattle.vx_deps.specs.Graphs as graph
use Rattle.vx_deps.specs.Graphs.{Kept, insts_of, kept_of, keeps, IsPart, IsRight, IsHeld}
use Rattle.vx_deps.proofs.Standings.{stood_in, block_once}
use Rattle.vx_deps.proofs.Trailing.{apart}
use Rattle.vx_deps.proofs.Growing.{some_is, find_once, among_at, ids_are, told}
use Rattle.vx_order.specs.Order.{order_of}
use Rattle.vx_view.specs.Conflicts.{depends}
use Rattle.vx_serial.specs.Window as window
use Rattle.vx_serial.specs.Window.{is_member}
use Rattle.vx_deps.specs.Reach.{ids_of}
use Rattle.vx_deps.specs.Orders.{Keeps, from_member, place_of, singles, groups_in, edges_from, edges_in, with_id, ids_at, order_in, ids_in, HaveMembers, IsWindowOrder}

-- ---- what is kept of each two

-- of an instruction and each of some later ones
abbrev pub KeepsOf : Module → List Inst → Keeps → Inst → List Inst → Type 0
KeepsOf m insts keeps i [] = Unit {0}
KeepsOf m insts keeps i (j ∷ js) = (keeps i.id j.id ≡ depends m insts j i) × KeepsOf m insts keeps i js

abbrev pub KeepsAll : Module → List Inst → Keeps → List Inst → Type 0
KeepsAll m insts keeps [] = Unit {0}
KeepsAll m insts keeps (i ∷ is) = KeepsOf m insts keeps i is × KeepsAll m insts keeps is

-- ---- groups

same_place : (insts : List Inst) (x : Id) → window.place_of insts x ≡ place_of (ids_of insts) x
same_place [] x = refl
same_place (i ∷ is) x = ap (λ n. cond (same_id i.id x) 0 (suc n)) (same_place is x)

same_places : (insts : List Inst) (xs : List Id) → map (window.place_of insts) xs ≡ map (place_of (ids_of insts)) xs
same_places insts [] = refl
same_places insts (x ∷ xs) = ap (λ n. n ∷ map (window.place_of insts) xs) (same_place insts x) ∙ ap (λ l. place_of (ids_of insts) x ∷ l) (same_places insts xs)

same_bundles : (insts : List Inst) (bundles : List (List Id)) → map (map (window.place_of insts)) bundles ≡ map (map (place_of (ids_of insts))) bundles
same_bundles insts [] = refl
same_bundles insts (b ∷ bs) =
    ap (λ l. l ∷ map (map (window.place_of insts)) bs) (same_places insts b) ∙ ap (λ l. map (place_of (ids_of insts)) b ∷ l) (same_bundles insts bs)

module _ (bundles : List (List Id)) where
  same_singles : (at : ℕ) (insts : List Inst) → window.singles bundles at insts ≡ singles bundles at (ids_of insts)
  same_singles at [] = refl
  same_singles at (i ∷ is) = ap (λ l. cond (is_member bundles i.id) l ((at ∷ []) ∷ l)) (same_singles (suc at) is)

  pub same_groups : (insts : List Inst) → window.groups_in bundles insts ≡ groups_in bundles (ids_of insts)
  same_groups insts =
      ap (λ l. l ++ window.singles bundles 0 insts) (same_bundles insts bundles) ∙ ap (λ l. map (map (place_of (ids_of insts))) bundles ++ l) (same_singles 0 insts)

  pub same_window : (insts : List Inst) → ids_of (window.from_member bundles insts) ≡ from_member bundles (ids_of insts)
  same_window [] = refl
  same_window (i ∷ is) = by_test (is_member bundles i.id) (same_window is)
    where
      by_test : (b : Bool) → ids_of (window.from_member bundles is) ≡ from_member bundles (ids_of is) →
          ids_of (cond b (i ∷ is) (window.from_member bundles is)) ≡ cond b (i.id ∷ ids_of is) (from_member bundles (ids_of is))
      by_test true r = refl
      by_test false r = r

-- ---- edges

module _ (m : Module) (block : List Inst) (keeps : Keeps) where
  same_from : (from : ℕ) (i : Inst) (at : ℕ) (js : List Inst) → KeepsOf m block keeps i js → window.edges_from m block from i at js ≡ edges_from keeps from i.id at (ids_of js)
  same_from from i at [] h = refl
  same_from from i at (j ∷ js) h =
      ap (λ b. cond b ((from, at) ∷ window.edges_from m block from i (suc at) js) (window.edges_from m block from i (suc at) js)) (sym h.0)
      ∙ ap (λ l. cond (keeps i.id j.id) ((from, at) ∷ l) l) (same_from from i (suc at) js h.1)

  pub same_edges : (at : ℕ) (insts : List Inst) → KeepsAll m block keeps insts → window.edges_in m block at insts ≡ edges_in keeps at (ids_of insts)
  same_edges at [] h = refl
  same_edges at (i ∷ is) h =
      ap (λ l. l ++ window.edges_in m block (suc at) is) (same_from at i (suc at) is h.0) ∙ ap (λ l. edges_from keeps at i.id (suc at) (ids_of is) ++ l) (same_edges (suc at) is h.1)

-- ---- the groups in their order

abbrev id_at : Option Inst → Option Id
id_at u = option_map (λ (i : Inst). i.id) u

same_at : (insts : List Inst) (p : ℕ) → id_at (slice_get insts p) ≡ slice_get (ids_of insts) p
same_at [] p = refl
same_at (i ∷ is) zero = refl
same_at (i ∷ is) (suc p) = same_at is p

same_ids : (insts : List Inst) (ps : List ℕ) → ids_of (window.insts_at insts ps) ≡ ids_at (ids_of insts) ps
same_ids insts [] = refl
same_ids insts (p ∷ ps) = by_inst (slice_get insts p) ∙ ap (λ l. with_id (id_at (slice_get insts p)) l) (same_ids insts ps) ∙ ap (λ u. with_id u (ids_at (ids_of insts) ps)) (same_at insts p)
  where
    by_inst : (u : Option Inst) → ids_of (window.with_inst u (window.insts_at insts ps)) ≡ with_id (id_at u) (ids_of (window.insts_at insts ps))
    by_inst None = refl
    by_inst (Some i) = refl

module _ (insts : List Inst) (groups : List (List ℕ)) where
  listed : (order : List ℕ) → map ids_of (map (λ g. window.insts_at insts (get_or groups g [])) order) ≡ map (λ g. ids_at (ids_of insts) (get_or groups g [])) order
  listed [] = refl
  listed (g ∷ gs) =
      ap (λ x. x ∷ map ids_of (map (λ g. window.insts_at insts (get_or groups g [])) gs)) (same_ids insts (get_or groups g []))
      ∙ ap (λ l. ids_at (ids_of insts) (get_or groups g []) ∷ l) (listed gs)

  pub ordered : (u : Option (List ℕ)) →
      option_map (map ids_of) (option_map (map (λ g. window.insts_at insts (get_or groups g []))) u) ≡ option_map (map (λ g. ids_at (ids_of insts) (get_or groups g []))) u
  ordered None = refl
  ordered (Some order) = ap Some (listed order)

-- what is kept of the instructions of a window gives their order
pub same_order : (m : Module) (block insts : List Inst) (keeps : Keeps) (bundles : List (List Id)) → KeepsAll m block keeps insts →
    option_map (map ids_of) (window.order_in m block insts bundles) ≡ order_in keeps (ids_of insts) bundles
same_order m block insts keeps bundles h =
    ordered insts (window.groups_in bundles insts) (order_of (window.groups_in bundles insts) (window.edges_in m block 0 insts))
    ∙ ap (λ gs. option_map (map (λ g. ids_at (ids_of insts) (get_or gs g []))) (order_of gs (window.edges_in m block 0 insts))) (same_groups bundles insts)
    ∙ ap (λ es. option_map (map (λ g. ids_at (ids_of insts) (get_or (groups_in bundles (ids_of insts)) g []))) (order_of (groups_in bundles (ids_of insts)) es)) (same_edges m block keeps 0 insts h)

-- ---- the window

or_false_left : (a b : Bool) → (a || b) ≡ false → a ≡ false
or_false_left true b h = absurd cc
or_false_left false b h = refl

or_false_right : (a b : Bool) → (a || b) ≡ false → b ≡ false
or_false_right true b h = absurd cc
or_false_right false b h = h

-- up to an instruction that stands once
pub up_at : (xs : List Inst) (z : Inst) (ys : List Inst) → among (ids_of xs) z.id ≡ false → window.up_to z.id (xs ++ z ∷ ys) ≡ xs ++ z ∷ []
up_at [] z ys h = ap (λ b. z ∷ cond b [] (window.up_to z.id ys)) (same_itself z.id)
up_at (x ∷ xs) z ys h =
    ap (λ b. x ∷ cond b [] (window.up_to z.id (xs ++ z ∷ ys))) (or_false_left (same_id x.id z.id) (among (ids_of xs) z.id) h)
    ∙ ap (λ l. x ∷ l) (up_at xs z ys (or_false_right (same_id x.id z.id) (among (ids_of xs) z.id) h))

abbrev pub HasNoMember : List (List Id) → List Inst → Type 0
HasNoMember bundles [] = Unit {0}
HasNoMember bundles (i ∷ is) = (is_member bundles i.id ≡ false) × HasNoMember bundles is

pub skips : (bundles : List (List Id)) (before rest : List Inst) → HasNoMember bundles before → window.from_member bundles (before ++ rest) ≡ window.from_member bundles rest
skips bundles [] rest h = refl
skips bundles (i ∷ is) rest h = ap (λ b. cond b (i ∷ (is ++ rest)) (window.from_member bundles (is ++ rest))) h.0 ∙ skips bundles is rest h.1

kept_from : (m : Module) (block : List Inst) (keeps : Keeps) (bundles : List (List Id)) (insts : List Inst) → KeepsAll m block keeps insts →
    KeepsAll m block keeps (window.from_member bundles insts)
kept_from m block keeps bundles [] h = h
kept_from m block keeps bundles (i ∷ is) h = by_test (is_member bundles i.id) (kept_from m block keeps bundles is h.1)
  where
    by_test : (b : Bool) → KeepsAll m block keeps (window.from_member bundles is) → KeepsAll m block keeps (cond b (i ∷ is) (window.from_member bundles is))
    by_test true more = h
    by_test false more = more

-- where what is held is `first` and then `last`, with what stands before and after it, the order of what is held is that of the window
pub right_order : (m : Module) (keeps : Keeps) (bundles : List (List Id)) (before first : List Inst) (last : Inst) (after : List Inst) →
    among (ids_of (before ++ first)) last.id ≡ false → HasNoMember bundles before →
    KeepsAll m ((before ++ first) ++ last ∷ after) keeps (first ++ last ∷ []) →
    option_map (map ids_of) (window.order m ((before ++ first) ++ last ∷ after) last.id bundles)
    ≡ order_in keeps (from_member bundles (ids_of (first ++ last ∷ []))) bundles
right_order m keeps bundles before first last after once none kept =
    let block : List Inst = (before ++ first) ++ last ∷ after in
    let held : List Inst = first ++ last ∷ [] in
    ap (λ l. option_map (map ids_of) (window.order_in m block (window.from_member bundles l) bundles)) (up_at (before ++ first) last after once ∙ append_assoc before first (last ∷ []))
    ∙ ap (λ l. option_map (map ids_of) (window.order_in m block l bundles)) (skips bundles before held none)
    ∙ same_order m block (window.from_member bundles held) keeps bundles (kept_from m block keeps bundles held kept)
    ∙ ap (λ ids. order_in keeps ids bundles) (same_window bundles held)

-- ---- what a graph holds

drop_last : (ys : List Id) (z x : Id) → among (ys ++ z ∷ []) x ≡ true → same_id z x ≡ false → among ys x ≡ true
drop_last [] z x h e = absurd (differ (sym e ∙ or_last (same_id z x) h))
  where
    differ : false ≡ true → ⊥
    differ r = cc

    or_last : (b : Bool) → (b || false) ≡ true → b ≡ true
    or_last true r = refl
    or_last false r = r
drop_last (y ∷ ys) z x h e = by_test (same_id y x) h (λ r. drop_last ys z x r e)
  where
    by_test : (b : Bool) → (b || among (ys ++ z ∷ []) x) ≡ true → (among (ys ++ z ∷ []) x ≡ true → among ys x ≡ true) → (b || among ys x) ≡ true
    by_test true r more = refl
    by_test false r more = more r

kept_last : (k : Kept) (ks : List Kept) → insts_of (k ∷ ks) ≡ insts_of ks ++ k.inst ∷ []
kept_last k ks = reverse-append (k.inst ∷ []) (map (λ (n : Kept). n.inst) ks)

held_by : (kept : List Kept) (x : Id) → among (ids_of (insts_of kept)) x ≡ true → IsHeld kept x
held_by [] x h = absurd cc
held_by (k ∷ ks) x h = by_test (same_id k.inst.id x) refl (λ r. held_by ks x r)
  where
    others : same_id k.inst.id x ≡ false → among (ids_of (insts_of ks)) x ≡ true
    others e =
        drop_last (ids_of (insts_of ks)) k.inst.id x
        (ap (λ l. among l x) (sym (map-append (λ (i : Inst). i.id) (insts_of ks) (k.inst ∷ []))) ∙ ap (λ l. among (ids_of l) x) (sym (kept_last k ks)) ∙ h) e

    by_test : (b : Bool) → same_id k.inst.id x ≡ b → (among (ids_of (insts_of ks)) x ≡ true → IsHeld ks x) → (n : Kept) × (cond b (Some k) (kept_of x ks) ≡ Some n)
    by_test true e more = (k, refl)
    by_test false e more = more (others e)

pub among_any : (xs : List Id) (x : Id) → list_any (same_id x) xs ≡ true → among xs x ≡ true
among_any [] x h = h
among_any (y ∷ ys) x h = by_test (same_id x y) (swapped y x) h (λ r. among_any ys x r)
  where
    by_test : (b : Bool) → same_id y x ≡ b → (b || list_any (same_id x) ys) ≡ true → (list_any (same_id x) ys ≡ true → among ys x ≡ true) → (same_id y x || among ys x) ≡ true
    by_test true e r more = ap (λ b. b || among ys x) e
    by_test false e r more = ap (λ b. b || among ys x) e ∙ more r

not_among : (xs : List Id) (x : Id) → among xs x ≡ false → list_any (same_id x) xs ≡ false
not_among [] x h = h
not_among (y ∷ ys) x h =
    neither (same_id x y) (list_any (same_id x) ys) (swapped x y ∙ or_false_left (same_id y x) (among ys x) h) (not_among ys x (or_false_right (same_id y x) (among ys x) h))

once_of : (xs : List Id) → Once xs → AreOnce xs
once_of [] o = tt
once_of (x ∷ xs) o = (not_among xs x o.0, once_of xs o.1)

-- a graph that is right holds each instruction once
pub right_once : (m : Module) → IsFormed m → (kept : List Kept) → IsRight m kept → AreOnce (graph.ids_of kept)
right_once m formed [] right = tt
right_once m formed (k ∷ ks) p =
    let kept : List Kept = k ∷ ks in
    let whole : Once (inst_ids (p.before ++ (insts_of kept ++ p.after))) = subst (λ l. Once (inst_ids l)) p.whole (block_once m formed p.place) in
    let rest : Once (inst_ids (insts_of kept ++ p.after)) =
    once_right (inst_ids p.before) (inst_ids (insts_of kept ++ p.after)) (subst Once (map-append (λ (i : Inst). i.id) p.before (insts_of kept ++ p.after)) whole)
    in
    subst AreOnce (sym (ids_are kept)) (once_of (inst_ids (insts_of kept)) (once_left (inst_ids (insts_of kept)) (inst_ids p.after) (subst Once (map-append (λ (i : Inst). i.id) (insts_of kept) p.after) rest)))

module _ (m : Module) (formed : IsFormed m) (kept : List Kept) (p : IsPart m kept) (right : IsRight m kept) where
  abbrev block : List Inst
  block = block_at m p.place

  once : Once (inst_ids (p.before ++ (insts_of kept ++ p.after)))
  once = subst (λ l. Once (inst_ids l)) p.whole (block_once m formed p.place)

  -- one that is held, where it stands
  stands : (front : List Inst) (i : Inst) (back : List Inst) → insts_of kept ≡ front ++ i ∷ back → IsHeld kept i.id × ((s : Standing) × (found m i.id ≡ Some s) × (block ≡ s.block) × (s.inst ≡ i))
  stands front i back e =
      let cut : block ≡ (p.before ++ front) ++ i ∷ (back ++ p.after) =
      p.whole ∙ ap (λ l. p.before ++ (l ++ p.after)) e ∙ ap (λ l. p.before ++ l) (append_assoc front (i ∷ back) p.after) ∙ sym (append_assoc p.before front (i ∷ (back ++ p.after)))
      in
      let found_there : find i.id block ≡ Some i = ap (find i.id) cut ∙ find_once (p.before ++ front) i (back ++ p.after) (subst (λ l. Once (inst_ids l)) cut (block_once m formed p.place)) in
      let w = stood_in m formed p.place i.id i found_there in (
        held_by kept i.id (ap (λ l. among (ids_of l) i.id) e ∙ among_at front i back),
        (w.0, w.1, w.2, some_is (sym (found_block i.id w.0 m w.1).1 ∙ ap (find i.id) (sym w.2) ∙ found_there)),
      )

  pair_kept : (i j : Inst) → IsHeld kept i.id × ((s : Standing) × (found m i.id ≡ Some s) × (block ≡ s.block) × (s.inst ≡ i)) →
      IsHeld kept j.id × ((s : Standing) × (found m j.id ≡ Some s) × (block ≡ s.block) × (s.inst ≡ j)) → keeps kept i.id j.id ≡ depends m block j i
  pair_kept i j a b =
      let t = told m kept formed right i.id j.id a.0 b.0 in
      let one : t.earlier ≡ (a.1).0 = some_is (sym t.earlier_found ∙ (a.1).1) in
      let other : t.later ≡ (b.1).0 = some_is (sym t.later_found ∙ (b.1).1) in
      t.same ∙ ap (λ (s : Standing). depends m s.block t.later.inst s.inst) one ∙ ap (λ (s : Standing). depends m (a.1).0.block s.inst (a.1).0.inst) other
      ∙ ap (λ l. depends m l (b.1).0.inst (a.1).0.inst) (sym (a.1).2) ∙ ap (λ v. depends m block v (a.1).0.inst) (b.1).3 ∙ ap (depends m block j) (a.1).3

  kept_from_one : (i : Inst) → IsHeld kept i.id × ((s : Standing) × (found m i.id ≡ Some s) × (block ≡ s.block) × (s.inst ≡ i)) →
      (front js : List Inst) → insts_of kept ≡ front ++ js → KeepsOf m block (keeps kept) i js
  kept_from_one i a front [] e = tt
  kept_from_one i a front (j ∷ js) e = (
    pair_kept i j a (stands front j js e),
    kept_from_one i a (front ++ j ∷ []) js (e ∙ sym (append_assoc front (j ∷ []) js)),
  )

  kept_all : (front is : List Inst) → insts_of kept ≡ front ++ is → KeepsAll m block (keeps kept) is
  kept_all front [] e = tt
  kept_all front (i ∷ is) e =
      let next : insts_of kept ≡ (front ++ i ∷ []) ++ is = e ∙ sym (append_assoc front (i ∷ []) is) in
      (kept_from_one i (stands front i is e) (front ++ i ∷ []) is next, kept_all (front ++ i ∷ []) is next)

  no_member : (bundles : List (List Id)) → HaveMembers (graph.ids_of kept) bundles → (before : List Inst) → Once (inst_ids (before ++ (insts_of kept ++ p.after))) → HasNoMember bundles before
  no_member bundles members [] o = tt
  no_member bundles members (i ∷ is) o = (by_test (is_member bundles i.id) refl, no_member bundles members is o.1)
    where
      differ : false ≡ true → ⊥
      differ r = cc

      rest : List Inst
      rest = insts_of kept ++ p.after

      by_test : (b : Bool) → is_member bundles i.id ≡ b → b ≡ false
      by_test false e = refl
      by_test true e =
          absurd (differ (sym o.0 ∙ ap (λ l. among l i.id) (map-append (λ (v : Inst). v.id) is rest)
          ∙ among_right (inst_ids is) (inst_ids rest) i.id
          (ap (λ l. among l i.id) (map-append (λ (v : Inst). v.id) (insts_of kept) p.after)
          ∙ among_left (inst_ids (insts_of kept)) (inst_ids p.after) i.id (among_any (inst_ids (insts_of kept)) i.id (ap (list_any (same_id i.id)) (sym (ids_are kept)) ∙ members i.id e)))))

lacks_last : (xs : List Inst) (z : Inst) (ys : List Inst) → Once (inst_ids (xs ++ z ∷ ys)) → among (ids_of xs) z.id ≡ false
lacks_last [] z ys o = refl
lacks_last (x ∷ xs) z ys o =
    ap (λ b. b || among (ids_of xs) z.id) (apart x.id z.id (inst_ids (xs ++ z ∷ ys)) o.0 (among_at xs z ys)) ∙ lacks_last xs z ys o.1

-- in a module for which a graph is right, its order is that of the window
pub window_order : (m : Module) → IsFormed m → (k : Kept) (ks : List Kept) → IsRight m (k ∷ ks) → (bundles : List (List Id)) → HaveMembers (graph.ids_of (k ∷ ks)) bundles → IsWindowOrder m k.inst.id (k ∷ ks) bundles
window_order m formed k ks p bundles members =
    let kept : List Kept = k ∷ ks in
    let first : List Inst = insts_of ks in
    let block : List Inst = block_at m p.place in
    let cut : block ≡ (p.before ++ first) ++ k.inst ∷ p.after =
    p.whole ∙ ap (λ l. p.before ++ (l ++ p.after)) (kept_last k ks) ∙ ap (λ l. p.before ++ l) (append_assoc first (k.inst ∷ []) p.after)
    ∙ sym (append_assoc p.before first (k.inst ∷ p.after))
    in
    let alone = subst (λ l. Once (inst_ids l)) cut (block_once m formed p.place) in
    let at = stands m formed kept p p first k.inst [] (kept_last k ks) in
    let s = (at.1).0 in
    record {
      standing = s;
      there = (at.1).1;
      same =
          ap (λ l. option_map ids_in (window.order m l k.inst.id bundles)) (sym (at.1).2 ∙ cut)
          ∙ right_order m (keeps kept) bundles p.before first k.inst p.after (lacks_last (p.before ++ first) k.inst p.after alone)
          (no_member m formed kept p p bundles members p.before (once m formed kept p p))
          (subst (λ l. KeepsAll m l (keeps kept) (first ++ k.inst ∷ [])) cut (subst (KeepsAll m block (keeps kept)) (kept_last k ks) (kept_all m formed kept p p [] (insts_of kept) refl)))
          ∙ ap (λ ids. order_in (keeps kept) (from_member bundles ids) bundles) (ap ids_of (sym (kept_last k ks)) ∙ sym (ids_are kept));
    }
