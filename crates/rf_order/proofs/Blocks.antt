-- The instructions of a block of a formed module may run one after another, and the state in which it is entered is ready.
use Rattle.std.proofs.Common.{◌≡◌, refl, sym, ap, ◌∙◌, subst, ℕ, zero, suc, ◌+◌, ◌<◌, ◌≤◌, ◌⊎◌, inl, inr, Bool, true, false, not, ◌&&◌, ◌||◌, cond, Option, None, Some, List, [], ◌∷◌, ◌++◌, length, map, take, nat_eq, slice_get, arith}
use Rattle.std.specs.List.{list_any}
use Rattle.std.proofs.lemmas.Bool.Decides.{nat_tests}
use Rattle.std.proofs.lemmas.List.Elements.{All-contains}
use Rattle.ir_types.specs.declared.id.Id.{Id}
use Rattle.ir_types.specs.declared.opd.Opd.{Opd}
use Rattle.ir_types.specs.declared.opd.Opd.TheVariants.{Val, Lit, Sym}
use Rattle.ir_types.specs.declared.inst.Inst.{Inst}
use Rattle.ir_types.specs.declared.func.Param.{Param}
use Rattle.ir_types.specs.declared.func.Block.{Block}
use Rattle.ir_types.specs.declared.func.Func.{Func}
use Rattle.ir_types.specs.declared.module.Item.{Item}
use Rattle.ir_types.specs.declared.module.Item.TheVariants.{Kept, Opaque, Func as FuncItem}
use Rattle.ir_types.specs.declared.module.Module.{Module}
use Rattle.ir_types.specs.Walks.{GoesOn, IsWalk, EndsFrom, EndsAt}
use Rattle.ir_types.specs.Available.{graph_of, is_param, defines, insts_of, insts_at, stands_from, stands_on, IsAvailableFunc}
use Rattle.ir_types.specs.Formed.{is_alloca, ends_from, EndsOnce, block_ids, item_ids, ids_of_items, IsFormedFunc, IsFormedItem}
use Rattle.ir_types.proofs.Among.{among, same_is, same_itself, swapped, among_left, among_right, Once, once_of_pairs}
use Rattle.ir_model.specs.Values.{same_id}
use Rattle.ir_model.specs.Step.{State, Went, Lost, Halts, On, then_go, Reached, Calls, step}
use Rattle.ir_model.specs.Run.{is_terminator, is_phi, run_insts, types_of}
use Rattle.ir_model.specs.Shapes.{CallsKeepShapes}
use Rattle.ir_model.proofs.Ids.{once_left, once_right, once_apart, func_once, inst_among, value_type}
use Rattle.ir_model.proofs.Walked.{stands_next, insts_found}
use Rattle.ir_model.proofs.Shaped.{walk_end_plain, before_plain}
use Rattle.ir_model.proofs.Sound.{contained_item}
use Rattle.vx_view.specs.Answers.{funcs_of, param_in, find, either, param_of, Standing, standing, standing_in, standing_of, found}
use Rattle.vx_view.specs.Conflicts.{Allocated, Unknown, value_kind}
use Rattle.vx_view.proofs.Edits.{lacks_left, lacks_right}
use Rattle.vx_serial.specs.Window.{order_in, joined}
use Rattle.rf_order.specs.Rows.{Instead}
use Rattle.rf_order.specs.Swaps.{CallsKeepObjects}
use Rattle.rf_order.specs.Steps.{uses}
use Rattle.vx_serial.specs.Bundles.{AreOnce, ids_of as ids_of_insts, AreBundles}
use Rattle.rf_order.specs.Ready.{Known, next, IsStatement, MayRunAll, is_known, IsReady}
use Rattle.rf_order.specs.Blocks.{ArePhis, NoPhis, IsEntered, IsCut, BlocksRefine}
use Rattle.rf_order.proofs.Shapes.{step_ready}
use Rattle.rf_order.proofs.Refined.{NoEnds, insts_append, windows}
use Rattle.vx_serial.proofs.Decided.{and_left, and_right, neither, not_true, or_case, or_first, or_left, or_right, or_second, true_false}

abbrev Ids : List Inst → List Id
Ids is = map (λ (i : Inst). i.id) is

-- ---- what is found of an id

find_own : (is : List Inst) (k : ℕ) (i : Inst) → slice_get is k ≡ Some i → Once (Ids is) → find i.id is ≡ Some i
find_own [] k i e once = absurd cc
find_own (j ∷ is) zero i e once = let same : j ≡ i = cc in ap (λ b. cond b (Some j) (find i.id is)) (ap (λ (j : Inst). same_id j.id i.id) same ∙ same_itself i.id) ∙ ap Some same
find_own (j ∷ is) (suc k) i e once =
    ap (λ b. cond b (Some j) (find i.id is)) (not_true (same_id j.id i.id) (λ h. true_false (sym (ap (among (Ids is)) (same_is j.id i.id h) ∙ inst_among is k i e) ∙ once.0)))
    ∙ find_own is k i e once.1

find_none : (is : List Inst) (x : Id) → among (Ids is) x ≡ false → find x is ≡ None
find_none [] x h = refl
find_none (i ∷ is) x h = ap (λ b. cond b (Some i) (find x is)) (or_left (same_id i.id x) (among (Ids is) x) h) ∙ find_none is x (or_right (same_id i.id x) (among (Ids is) x) h)

in_none : (bs : List Block) (x : Id) (func number : ℕ) → among (block_ids bs) x ≡ false → standing_in x func number bs ≡ None
in_none [] x func number h = refl
in_none (b ∷ bs) x func number h =
    ap (λ o. either (standing func number b.insts o) (standing_in x func (suc number) bs)) (find_none b.insts x (lacks_left (Ids b.insts) (block_ids bs) x h))
    ∙ in_none bs x func (suc number) (lacks_right (Ids b.insts) (block_ids bs) x h)

param_none : (ps : List Param) (x : Id) → among (map (λ (p : Param). p.id) ps) x ≡ false → param_in x ps ≡ None
param_none [] x h = refl
param_none (p ∷ ps) x h =
    ap (λ b. cond b (Some p) (param_in x ps)) (or_left (same_id p.id x) (among (map (λ (p : Param). p.id) ps) x) h) ∙ param_none ps x (or_right (same_id p.id x) (among (map (λ (p : Param). p.id) ps) x) h)

abbrev FoundIs : Option Standing → Inst → Type 0
FoundIs o i = (s : Standing) × (o ≡ Some s) × (s.inst ≡ i)

block_among : (bs : List Block) (at : ℕ) (b : Block) (x : Id) → slice_get bs at ≡ Some b → among (Ids b.insts) x ≡ true → among (block_ids bs) x ≡ true
block_among [] at b x e h = absurd cc
block_among (c ∷ bs) zero b x e h = let same : c ≡ b = cc in among_left (Ids c.insts) (block_ids bs) x (ap (λ (c : Block). among (Ids c.insts) x) same ∙ h)
block_among (c ∷ bs) (suc at) b x e h = among_right (Ids c.insts) (block_ids bs) x (block_among bs at b x e h)

block_once : (bs : List Block) (at : ℕ) (b : Block) → slice_get bs at ≡ Some b → Once (block_ids bs) → Once (Ids b.insts)
block_once [] at b e once = absurd cc
block_once (c ∷ bs) zero b e once = let same : c ≡ b = cc in subst (λ (c : Block). Once (Ids c.insts)) same (once_left (Ids c.insts) (block_ids bs) once)
block_once (c ∷ bs) (suc at) b e once = block_once bs at b e (once_right (Ids c.insts) (block_ids bs) once)

in_block : (bs : List Block) (at : ℕ) (b : Block) (k : ℕ) (i : Inst) (func number : ℕ) → slice_get bs at ≡ Some b → slice_get b.insts k ≡ Some i → Once (block_ids bs) → FoundIs (standing_in i.id func number bs) i
in_block [] at b k i func number e h once = absurd cc
in_block (c ∷ bs) zero b k i func number e h once =
    let same : c ≡ b = cc in (
      record { place = record { func = func; block = number }; block = c.insts; inst = i },
      ap (λ o. either (standing func number c.insts o) (standing_in i.id func (suc number) bs)) (find_own c.insts k i (ap (λ (c : Block). slice_get c.insts k) same ∙ h) (once_left (Ids c.insts) (block_ids bs) once)),
      refl,
    )
in_block (c ∷ bs) (suc at) b k i func number e h once =
    let r = in_block bs at b k i func (suc number) e h (once_right (Ids c.insts) (block_ids bs) once) in (
      r.0,
      ap (λ o. either (standing func number c.insts o) (standing_in i.id func (suc number) bs))
          (find_none c.insts i.id (once_apart (Ids c.insts) (block_ids bs) i.id once (block_among bs at b i.id e (inst_among b.insts k i h)))) ∙ r.1,
      r.2,
    )

of_none : (items : List Item) (x : Id) (func : ℕ) → among (ids_of_items items) x ≡ false → (param_of x (funcs_of items) ≡ None) × (standing_of x func (funcs_of items) ≡ None)
of_none [] x func h = (refl, refl)
of_none (Kept text ∷ items) x func h = of_none items x func h
of_none (Opaque text ∷ items) x func h = of_none items x func h
of_none (FuncItem g ∷ items) x func h =
    let mine = lacks_left (item_ids (FuncItem g)) (ids_of_items items) x h in
    let rest = of_none items x (suc func) (lacks_right (item_ids (FuncItem g)) (ids_of_items items) x h) in (
      ap (λ o. either o (param_of x (funcs_of items))) (param_none g.params x (lacks_left (map (λ (p : Param). p.id) g.params) (block_ids g.blocks) x mine)) ∙ rest.0,
      ap (λ o. either o (standing_of x (suc func) (funcs_of items))) (in_none g.blocks x func 0 (lacks_right (map (λ (p : Param). p.id) g.params) (block_ids g.blocks) x mine)) ∙ rest.1,
    )

func_among : (items : List Item) (kf : ℕ) (f : Func) (x : Id) → slice_get items kf ≡ Some (FuncItem f) → among (block_ids f.blocks) x ≡ true → among (ids_of_items items) x ≡ true
func_among [] kf f x e h = absurd cc
func_among (item ∷ items) zero f x e h =
    let same : item ≡ FuncItem f = cc in
    among_left (item_ids item) (ids_of_items items) x (ap (λ i. among (item_ids i) x) same ∙ among_right (map (λ (p : Param). p.id) f.params) (block_ids f.blocks) x h)
func_among (item ∷ items) (suc kf) f x e h = among_right (item_ids item) (ids_of_items items) x (func_among items kf f x e h)

apart_after : (xs ys : List Id) (x : Id) → Once (xs ++ ys) → among xs x ≡ true → among ys x ≡ false
apart_after xs ys x once h = not_true (among ys x) (λ k. true_false (sym h ∙ once_apart xs ys x once k))

-- an instruction's id is no parameter's, and stands where the instruction does
pub of_items : (items : List Item) (kf : ℕ) (f : Func) (at : ℕ) (b : Block) (k : ℕ) (i : Inst) (func : ℕ) → slice_get items kf ≡ Some (FuncItem f) → slice_get f.blocks at ≡ Some b → slice_get b.insts k ≡ Some i → Once (ids_of_items items) →
    (param_of i.id (funcs_of items) ≡ None) × FoundIs (standing_of i.id func (funcs_of items)) i
of_items [] kf f at b k i func e found here once = absurd cc
of_items (Kept text ∷ items) zero f at b k i func e found here once = absurd cc
of_items (Opaque text ∷ items) zero f at b k i func e found here once = absurd cc
of_items (FuncItem g ∷ items) zero f at b k i func e found here once =
    let same : g ≡ f = cc in
    let there : slice_get g.blocks at ≡ Some b = ap (λ (g : Func). slice_get g.blocks at) same ∙ found in
    let mine : Once (item_ids (FuncItem g)) = once_left (item_ids (FuncItem g)) (ids_of_items items) once in
    let among_blocks : among (block_ids g.blocks) i.id ≡ true = block_among g.blocks at b i.id there (inst_among b.insts k i here) in
    let rest = of_none items i.id (suc func) (apart_after (item_ids (FuncItem g)) (ids_of_items items) i.id once (among_right (map (λ (p : Param). p.id) g.params) (block_ids g.blocks) i.id among_blocks)) in
    let r = in_block g.blocks at b k i func 0 there here (once_right (map (λ (p : Param). p.id) g.params) (block_ids g.blocks) mine) in (
      ap (λ o. either o (param_of i.id (funcs_of items))) (param_none g.params i.id (once_apart (map (λ (p : Param). p.id) g.params) (block_ids g.blocks) i.id mine among_blocks)) ∙ rest.0,
      (r.0, ap (λ o. either o (standing_of i.id (suc func) (funcs_of items))) r.1, r.2),
    )
of_items (Kept text ∷ items) (suc kf) f at b k i func e found here once = of_items items kf f at b k i func e found here once
of_items (Opaque text ∷ items) (suc kf) f at b k i func e found here once = of_items items kf f at b k i func e found here once
of_items (FuncItem g ∷ items) (suc kf) f at b k i func e found here once =
    let none : among (item_ids (FuncItem g)) i.id ≡ false =
    once_apart (item_ids (FuncItem g)) (ids_of_items items) i.id once (func_among items kf f i.id e (block_among f.blocks at b i.id found (inst_among b.insts k i here))) in
    let r = of_items items kf f at b k i (suc func) e found here (once_right (item_ids (FuncItem g)) (ids_of_items items) once) in (
      ap (λ o. either o (param_of i.id (funcs_of items))) (param_none g.params i.id (lacks_left (map (λ (p : Param). p.id) g.params) (block_ids g.blocks) i.id none)) ∙ r.0,
      (r.1.0, ap (λ o. either o (standing_of i.id (suc func) (funcs_of items))) (in_none g.blocks i.id func 0 (lacks_right (map (λ (p : Param). p.id) g.params) (block_ids g.blocks) i.id none)) ∙ r.1.1, r.1.2),
    )

-- ---- walks

-- no block but the last is this
abbrev LastAlone : ℕ → ℕ → List ℕ → Type 0
LastAlone at a [] = Unit {0}
LastAlone at a (b ∷ rest) = (nat_eq a at ≡ false) × LastAlone at b rest

record FirstVisit (g : List (List ℕ)) (a at : ℕ) : Type 0 where
  rest : List ℕ
  goes : GoesOn g a rest
  ends : EndsFrom a rest at
  alone : LastAlone at a rest

first_visit : (g : List (List ℕ)) (a : ℕ) (rest : List ℕ) (at : ℕ) → GoesOn g a rest → EndsFrom a rest at → FirstVisit g a at
first_visit g a [] at goes ends = record { rest = []; goes = tt; ends = ends; alone = tt }
first_visit g a (b ∷ rest) at goes ends = by_test (nat_eq a at) refl (first_visit g b rest at goes.1 ends) where
  by_test : (t : Bool) → nat_eq a at ≡ t → FirstVisit g b at → FirstVisit g a at
  by_test true e v = record { rest = []; goes = tt; ends = grind (arith, nat_tests); alone = tt }
  by_test false e v = record { rest = b ∷ v.rest; goes = (goes.0, v.goes); ends = v.ends; alone = (e, v.alone) }

defines_among : (x : Id) (is : List Inst) → defines x is ≡ among (Ids is) x
defines_among x [] = refl
defines_among x (i ∷ is) = ap (λ b. same_id i.id x || b) (defines_among x is)

param_among : (x : Id) (ps : List Param) → list_any (λ (p : Param). same_id p.id x) ps ≡ among (map (λ (p : Param). p.id) ps) x
param_among x [] = refl
param_among x (p ∷ ps) = ap (λ b. same_id p.id x || b) (param_among x ps)

other_block : (bs : List Block) (at a : ℕ) (b c : Block) (x : Id) → slice_get bs at ≡ Some b → slice_get bs a ≡ Some c → nat_eq a at ≡ false → among (Ids b.insts) x ≡ true → Once (block_ids bs) → among (Ids c.insts) x ≡ false
other_block [] at a b c x e d ne h once = absurd cc
other_block (z ∷ bs) zero zero b c x e d ne h once = absurd cc
other_block (z ∷ bs) zero (suc a) b c x e d ne h once =
    let same : z ≡ b = cc in
    not_true (among (Ids c.insts) x) (λ k. true_false (sym (block_among bs a c x d k) ∙ apart_after (Ids z.insts) (block_ids bs) x once (ap (λ (z : Block). among (Ids z.insts) x) same ∙ h)))
other_block (z ∷ bs) (suc at) zero b c x e d ne h once =
    let same : z ≡ c = cc in
    ap (λ (z : Block). among (Ids z.insts) x) (sym same) ∙ once_apart (Ids z.insts) (block_ids bs) x once (block_among bs at b x e h)
other_block (z ∷ bs) (suc at) (suc a) b c x e d ne h once = other_block bs at a b c x e d (grind (arith, nat_tests)) h (once_right (Ids z.insts) (block_ids bs) once)

-- ---- a block

pub get_middle : (front is : List Inst) (i : Inst) → slice_get (front ++ i ∷ is) (length front) ≡ Some i
get_middle [] is i = refl
get_middle (j ∷ front) is i = get_middle front is i

append_more : (xs : List Inst) (y : Inst) (ys : List Inst) → (xs ++ y ∷ []) ++ ys ≡ xs ++ y ∷ ys
append_more [] y ys = refl
append_more (x ∷ xs) y ys = ap (λ r. x ∷ r) (append_more xs y ys)

append_assoc : (xs ys zs : List Inst) → (xs ++ ys) ++ zs ≡ xs ++ (ys ++ zs)
append_assoc [] ys zs = refl
append_assoc (x ∷ xs) ys zs = ap (λ r. x ∷ r) (append_assoc xs ys zs)

use_slot : (x : Id) (os : List Opd) → uses x os ≡ true → (slot : ℕ) × (slice_get os slot ≡ Some (Val x))
use_slot x [] h = absurd cc
use_slot x (Val v ∷ os) h = by_first (or_case (same_id v x) (uses x os) h) (λ k. use_slot x os k) where
  by_first : (same_id v x ≡ true) ⊎ (uses x os ≡ true) → (uses x os ≡ true → (slot : ℕ) × (slice_get os slot ≡ Some (Val x))) → (slot : ℕ) × (slice_get (Val v ∷ os) slot ≡ Some (Val x))
  by_first (inl e) more = (0, ap (λ z. Some (Val z)) (same_is v x e))
  by_first (inr k) more = let r = more k in (suc r.0, r.1)
use_slot x (Lit l ∷ os) h = let r = use_slot x os h in (suc r.0, r.1)
use_slot x (Sym g ∷ os) h = let r = use_slot x os h in (suc r.0, r.1)

pub defines_append : (x : Id) (xs ys : List Inst) → defines x (xs ++ ys) ≡ (defines x xs || defines x ys)
defines_append x [] ys = refl
defines_append x (i ∷ xs) ys = ap (λ b. same_id i.id x || b) (defines_append x xs ys) ∙ or_assoc (same_id i.id x) (defines x xs) (defines x ys) where
  or_assoc : (a b c : Bool) → (a || (b || c)) ≡ ((a || b) || c)
  or_assoc true b c = refl
  or_assoc false b c = refl

take_none : (x : Id) (is : List Inst) → defines x (take 0 is) ≡ false
take_none x [] = refl
take_none x (i ∷ is) = refl

module _ (m : Module) (f : Func) (walk : List ℕ) (at : ℕ) (b : Block) (phis before insts : List Inst) (last : Inst) (after : List Inst) (cut : IsCut m f walk at b phis before insts last after) where
  pub item : (k : ℕ) × (slice_get m.items k ≡ Some (FuncItem f))
  item = contained_item m.items f cut.func

  pub once_all : Once (ids_of_items m.items)
  once_all = once_of_pairs (ids_of_items m.items) cut.formed.once

  pub once : Once (item_ids (FuncItem f))
  once = func_once m.items item.0 f item.1 once_all

  once_blocks : Once (block_ids f.blocks)
  once_blocks = once_right (map (λ (p : Param). p.id) f.params) (block_ids f.blocks) once

  once_here : Once (Ids b.insts)
  once_here = block_once f.blocks at b cut.there once_blocks

  pub func : IsFormedFunc m f
  func = All-contains (IsFormedItem m) m.items (FuncItem f) cut.formed.items cut.func

  pub available : IsAvailableFunc f
  available = cut.formed.available item.0 (FuncItem f) item.1

  abbrev Body : List Inst
  Body = (before ++ insts) ++ last ∷ after

  -- ---- what stands where

  -- an instruction of the block before a place, with an id
  pub record Earlier (x : Id) (low high : ℕ) : Type 0 where
    pub place : ℕ
    pub inst : Inst
    pub from : low ≤ place
    pub to : place < high
    pub here : slice_get b.insts place ≡ Some inst
    pub is : same_id inst.id x ≡ true

  pub back : (x : Id) (w : List ℕ) → EndsAt w at → (low j : ℕ) → low + j ≤ length b.insts → stands_on f x (low + j) w ≡ true → (stands_on f x low w ≡ true) ⊎ Earlier x low (low + j)
  back x w ends low zero room h = inl (ap (λ n. stands_on f x n w) (plain low) ∙ h) where
    plain : (n : ℕ) → n ≡ n + 0
    plain n = omega arith
  back x w ends low (suc j) room h = by_next (get (low + j) (omega arith)) (λ k. back x w ends low j (omega arith) k) where
    get : (k : ℕ) → k < length b.insts → (i : Inst) × (slice_get b.insts k ≡ Some i)
    get k less = there b.insts k less where
      there : (xs : List Inst) (k : ℕ) → k < length xs → (x : Inst) × (slice_get xs k ≡ Some x)
      there [] k h = absurd (omega arith)
      there (x ∷ xs) zero h = (x, refl)
      there (x ∷ xs) (suc k) h = there xs k (omega arith)

    further : (stands_on f x low w ≡ true) ⊎ Earlier x low (low + j) → (stands_on f x low w ≡ true) ⊎ Earlier x low (low + suc j)
    further (inl k) = inl k
    further (inr e) = inr (record { place = e.place; inst = e.inst; from = e.from; to = (let t = e.to in omega arith); here = e.here; is = e.is })

    by_next : (i : Inst) × (slice_get b.insts (low + j) ≡ Some i) → (stands_on f x (low + j) w ≡ true → (stands_on f x low w ≡ true) ⊎ Earlier x low (low + j)) →
        (stands_on f x low w ≡ true) ⊎ Earlier x low (low + suc j)
    by_next (i, e) more = by_case (stands_next f x w at (low + j) i ends (ap (λ is. slice_get is (low + j)) (insts_found f at b cut.there) ∙ e) (ap (λ n. stands_on f x n w) (one low j) ∙ h)) where
      one : (low j : ℕ) → low + j + 1 ≡ low + suc j
      one low j = omega arith

      by_case : (stands_on f x (low + j) w ≡ true) ⊎ (same_id i.id x ≡ true) → (stands_on f x low w ≡ true) ⊎ Earlier x low (low + suc j)
      by_case (inl k) = further (more k)
      by_case (inr k) = inr (record { place = low + j; inst = i; from = omega arith; to = omega arith; here = e; is = k })

  -- ids of the block stand in no block of a first visit before it
  not_from : (x : Id) → among (Ids b.insts) x ≡ true → (a : ℕ) (rest : List ℕ) → LastAlone at a rest → stands_from f x 0 a rest ≡ false
  not_from x h a [] alone = take_none x (insts_at f a)
  not_from x h a (c ∷ rest) alone = neither (defines x (insts_at f a)) (stands_from f x 0 c rest) (by_block (slice_get f.blocks a) refl) (not_from x h c rest alone.1) where
    by_block : (o : Option Block) → slice_get f.blocks a ≡ o → defines x (insts_of o) ≡ false
    by_block None e = refl
    by_block (Some d) e = defines_among x d.insts ∙ other_block f.blocks at a b d x cut.there e alone.0 h once_blocks

  -- a walk on which the block is entered for the first time
  record Visit : Type 0 where
    path : List ℕ
    walks : IsWalk (graph_of f) path
    ends : EndsAt path at
    new : (x : Id) → among (Ids b.insts) x ≡ true → stands_on f x 0 path ≡ false

  visit : Visit
  visit = by_walk walk cut.walks cut.ends where
    by_walk : (w : List ℕ) → IsWalk (graph_of f) w → EndsAt w at → Visit
    by_walk [] walks ends = elim walks [ ]
    by_walk (a ∷ rest) walks ends =
        let v = first_visit (graph_of f) a rest at walks.2 ends in
        record {
          path = a ∷ v.rest;
          walks = (walks.0, walks.1, v.goes);
          ends = v.ends;
          new = λ x h. neither (is_param x f) (stands_from f x 0 a v.rest)
              (param_among x f.params ∙ once_apart (map (λ (p : Param). p.id) f.params) (block_ids f.blocks) x once (block_among f.blocks at b x cut.there h)) (not_from x h a v.rest v.alone);
        }

  -- ---- instructions of the block

  statement : (k : ℕ) (i : Inst) → slice_get b.insts k ≡ Some i → is_phi i.op ≡ false → is_terminator i.op ≡ false → IsStatement m f b.insts i
  statement k i here plain goes =
      let h = (func.blocks at b cut.there).insts k i here in
      let s = of_items m.items item.0 f at b k i 0 item.1 cut.there here once_all in record {
        operands = h.operands;
        typed = h.typed;
        calling = h.calling;
        no_phi = plain;
        no_end = goes;
        gives = value_type f at b k i cut.there here once;
        here = find_own b.insts k i here once_here;
        kind = ap (λ p. value_kind p (found m i.id)) s.0 ∙ ap (value_kind None) s.1.1 ∙ ap (λ (i : Inst). cond (is_alloca i.op) Allocated Unknown) s.1.2;
      }

  -- the place of an id in the block is one
  one_place : (is : List Inst) (j k : ℕ) (x y : Inst) → slice_get is j ≡ Some x → slice_get is k ≡ Some y → same_id x.id y.id ≡ true → Once (Ids is) → j ≡ k
  one_place [] j k x y e d h o = absurd cc
  one_place (z ∷ is) zero zero x y e d h o = refl
  one_place (z ∷ is) zero (suc k) x y e d h o =
      let same : z ≡ x = cc in
      absurd (true_false (sym (ap (among (Ids is)) (ap (λ (z : Inst). z.id) same ∙ same_is x.id y.id h) ∙ inst_among is k y d) ∙ o.0))
  one_place (z ∷ is) (suc j) zero x y e d h o =
      let same : z ≡ y = cc in
      absurd (true_false (sym (ap (among (Ids is)) (ap (λ (z : Inst). z.id) same ∙ sym (same_is x.id y.id h)) ∙ inst_among is j x e) ∙ o.0))
  one_place (z ∷ is) (suc j) (suc k) x y e d h o = ap suc (one_place is j k x y e d h o.1)

  -- what is known when the block's phis have run
  abbrev pub entry : Known
  entry = record { values = λ x. not (defines x ((before ++ insts) ++ last ∷ after)) && stands_on f x (length phis) walk; done = [] }

-- ---- places of a list

get_after : (xs ys : List Inst) (n : ℕ) (i : Inst) → slice_get ys n ≡ Some i → slice_get (xs ++ ys) (length xs + n) ≡ Some i
get_after [] ys n i e = ap (slice_get ys) (plain n) ∙ e where
  plain : (n : ℕ) → 0 + n ≡ n
  plain n = omega arith
get_after (x ∷ xs) ys n i e = ap (slice_get (x ∷ xs ++ ys)) (more (length xs) n) ∙ get_after xs ys n i e where
  more : (a n : ℕ) → suc a + n ≡ suc (a + n)
  more a n = omega arith

get_defines : (ys : List Inst) (q : ℕ) (y : Inst) (z : Id) → slice_get ys q ≡ Some y → same_id y.id z ≡ true → defines z ys ≡ true
get_defines [] q y z e h = absurd cc
get_defines (j ∷ ys) zero y z e h = let same : j ≡ y = cc in or_first (same_id j.id z) (defines z ys) (ap (λ (j : Inst). same_id j.id z) same ∙ h)
get_defines (j ∷ ys) (suc q) y z e h = or_second (same_id j.id z) (defines z ys) (get_defines ys q y z e h)

pub after_defines : (xs ys : List Inst) (q : ℕ) (y : Inst) (z : Id) → slice_get (xs ++ ys) q ≡ Some y → length xs ≤ q → same_id y.id z ≡ true → defines z ys ≡ true
after_defines [] ys q y z e less h = get_defines ys q y z e h
after_defines (x ∷ xs) ys zero y z e less h = absurd (omega arith)
after_defines (x ∷ xs) ys (suc q) y z e less h = after_defines xs ys q y z e (omega arith) h

-- where an id is defined
record Defined (is : List Inst) (z : Id) : Type 0 where
  place : ℕ
  inst : Inst
  here : slice_get is place ≡ Some inst
  is_it : same_id inst.id z ≡ true

defined : (is : List Inst) (z : Id) → defines z is ≡ true → Defined is z
defined [] z h = absurd cc
defined (i ∷ is) z h = by_first (or_case (same_id i.id z) (defines z is) h) (λ k. defined is z k) where
  by_first : (same_id i.id z ≡ true) ⊎ (defines z is ≡ true) → (defines z is ≡ true → Defined is z) → Defined (i ∷ is) z
  by_first (inl e) more = record { place = 0; inst = i; here = refl; is_it = e }
  by_first (inr k) more = let r = more k in record { place = suc r.place; inst = r.inst; here = r.here; is_it = r.is_it }

get_less : (xs : List Inst) (k : ℕ) (x : Inst) → slice_get xs k ≡ Some x → k < length xs
get_less [] k x e = absurd cc
get_less (z ∷ xs) zero x e = omega arith
get_less (z ∷ xs) (suc k) x e = let r = get_less xs k x e in omega arith

get_front : (xs ys : List Inst) (k : ℕ) → k < length xs → slice_get (xs ++ ys) k ≡ slice_get xs k
get_front [] ys k h = absurd (omega arith)
get_front (x ∷ xs) ys zero h = refl
get_front (x ∷ xs) ys (suc k) h = get_front xs ys k (omega arith)

not_false : (b : Bool) → not b ≡ true → b ≡ false
not_false false h = refl
not_false true h = absurd cc

-- what is found and not after the phis is a phi
found_phi : (phis body : List Inst) (x : Id) (i : Inst) → ArePhis phis → defines x body ≡ false → find x (phis ++ body) ≡ Some i → is_phi i.op ≡ true
found_phi [] body x i are none e = absurd (let no = sym (find_none body x (sym (defines_among x body) ∙ none)) ∙ e in cc)
found_phi (j ∷ phis) body x i are none e = by_test (same_id j.id x) e (λ d. found_phi phis body x i are.1 none d) where
  by_test : (t : Bool) → cond t (Some j) (find x (phis ++ body)) ≡ Some i → (find x (phis ++ body) ≡ Some i → is_phi i.op ≡ true) → is_phi i.op ≡ true
  by_test true e more = let same : j ≡ i = cc in ap (λ (j : Inst). is_phi j.op) (sym same) ∙ are.0
  by_test false e more = more e

-- ---- ends

goes_on : (i : Inst) (rest : List Inst) (y : Inst) (ys : List Inst) → ends_from i (rest ++ y ∷ ys) ≡ true → is_terminator i.op ≡ false
goes_on i [] y ys e = not_false (is_terminator i.op) (and_left (not (is_terminator i.op)) (ends_from y ys) e)
goes_on i (j ∷ rest) y ys e = not_false (is_terminator i.op) (and_left (not (is_terminator i.op)) (ends_from j (rest ++ y ∷ ys)) e)

ends_rest : (i : Inst) (rest : List Inst) (y : Inst) (ys : List Inst) → ends_from i (rest ++ y ∷ ys) ≡ true → EndsOnce (rest ++ y ∷ ys)
ends_rest i [] y ys e = and_right (not (is_terminator i.op)) (ends_from y ys) e
ends_rest i (j ∷ rest) y ys e = and_right (not (is_terminator i.op)) (ends_from j (rest ++ y ∷ ys)) e

no_ends_before : (xs : List Inst) (y : Inst) (ys : List Inst) → EndsOnce (xs ++ y ∷ ys) → NoEnds xs
no_ends_before [] y ys e = tt
no_ends_before (i ∷ xs) y ys e = (goes_on i xs y ys e, no_ends_before xs y ys (ends_rest i xs y ys e))

no_ends_right : (xs ys : List Inst) → NoEnds (xs ++ ys) → NoEnds ys
no_ends_right [] ys h = h
no_ends_right (x ∷ xs) ys h = no_ends_right xs ys h.1

-- ---- a block that is cut

module _ (m : Module) (f : Func) (walk : List ℕ) (at : ℕ) (b : Block) (phis before insts : List Inst) (last : Inst) (after : List Inst) (cut : IsCut m f walk at b phis before insts last after) where
  abbrev Rest : List Inst
  Rest = (before ++ insts) ++ last ∷ after

  abbrev Start : Known
  Start = entry m f walk at b phis before insts last after cut

  pub on_body : (n : ℕ) (i : Inst) → slice_get Rest n ≡ Some i → slice_get b.insts (length phis + n) ≡ Some i
  on_body n i e = ap (λ is. slice_get is (length phis + n)) cut.parts ∙ get_after phis Rest n i e

  once_in : Once (Ids b.insts)
  once_in = once_here m f walk at b phis before insts last after cut

  module _ (front is : List Inst) (i : Inst) (parts : before ++ insts ≡ front ++ i ∷ is) where
    rest_is : Rest ≡ front ++ i ∷ (is ++ last ∷ after)
    rest_is = ap (λ l. l ++ last ∷ after) parts ∙ append_assoc front (i ∷ is) (last ∷ after)

    in_rest : slice_get Rest (length front) ≡ Some i
    in_rest = ap (λ l. slice_get l (length front)) rest_is ∙ get_middle front (is ++ last ∷ after) i

    in_block_here : slice_get b.insts (length phis + length front) ≡ Some i
    in_block_here = on_body (length front) i in_rest

    in_room : length phis + length front ≤ length b.insts
    in_room = let l = get_less b.insts (length phis + length front) i in_block_here in omega arith

    -- an id of the body that stands before is one of those that ran
    ran_before : (z : Id) (q : ℕ) (y : Inst) → slice_get b.insts q ≡ Some y → q < length phis + length front → same_id y.id z ≡ true → defines z Rest ≡ true → defines z front ≡ true
    ran_before z q y e less h d =
        let r = defined Rest z d in
        let same : same_id y.id r.inst.id ≡ true = ap (same_id y.id) (same_is r.inst.id z r.is_it) ∙ h in
        let place : q ≡ length phis + r.place = one_place m f walk at b phis before insts last after cut b.insts q (length phis + r.place) y r.inst e (on_body r.place r.inst r.here) same once_in in
        get_defines front r.place r.inst z (sym (get_front front (i ∷ (is ++ last ∷ after)) r.place (omega arith)) ∙ ap (λ l. slice_get l r.place) (sym rest_is) ∙ r.here) r.is_it

    defines_here : (z : Id) → defines z Rest ≡ true → among (Ids b.insts) z ≡ true
    defines_here z d = sym (defines_among z b.insts) ∙ ap (defines z) cut.parts ∙ defines_append z phis Rest ∙ or_second (defines z phis) (defines z Rest) d

    stands_here : (z : Id) → uses z i.opds ≡ true → is_phi i.op ≡ false → (w : List ℕ) → IsWalk (graph_of f) w → EndsAt w at → stands_on f z (length phis + length front) w ≡ true
    stands_here z u plain w walks ends =
        let slot = use_slot z i.opds u in
        subst (λ n. stands_on f z n w ≡ true) (before_plain i.op (insts_at f at) (length phis + length front) plain)
        (available m f walk at b phis before insts last after cut at b cut.there (length phis + length front) i in_block_here slot.0 (Val z) slot.1 at (walk_end_plain i.op slot.0 at plain) w walks ends)

    known_before : (z : Id) → uses z i.opds ≡ true → is_phi i.op ≡ false → (defines z front || Start.values z) ≡ true
    known_before z u plain = by_body (defines z Rest) refl where
      v : Visit m f walk at b phis before insts last after cut
      v = visit m f walk at b phis before insts last after cut

      in_body : defines z Rest ≡ true → (stands_on f z 0 v.path ≡ true) ⊎ Earlier m f walk at b phis before insts last after cut z 0 (0 + (length phis + length front)) → (defines z front || Start.values z) ≡ true
      in_body d (inl h) = absurd (true_false (sym h ∙ v.new z (defines_here z d)))
      in_body d (inr e) = or_first (defines z front) (Start.values z) (ran_before z e.place e.inst e.here (let t = e.to in omega arith) e.is d)

      outside : defines z Rest ≡ false → (stands_on f z (length phis) walk ≡ true) ⊎ Earlier m f walk at b phis before insts last after cut z (length phis) (length phis + length front) → (defines z front || Start.values z) ≡ true
      outside d (inl h) = or_second (defines z front) (Start.values z) (ap (λ t. not t && stands_on f z (length phis) walk) d ∙ h)
      outside d (inr e) =
          absurd (true_false (sym (after_defines phis Rest e.place e.inst z (ap (λ is. slice_get is e.place) (sym cut.parts) ∙ e.here) e.from e.is) ∙ d))

      plain_sum : (n : ℕ) → n ≡ 0 + n
      plain_sum n = omega arith

      by_body : (t : Bool) → defines z Rest ≡ t → (defines z front || Start.values z) ≡ true
      by_body true d =
          in_body d (back m f walk at b phis before insts last after cut z v.path v.ends 0 (length phis + length front) (let r = in_room in omega arith)
          (ap (λ n. stands_on f z n v.path) (sym (plain_sum (length phis + length front))) ∙ stands_here z u plain v.path v.walks v.ends))
      by_body false d =
          outside d (back m f walk at b phis before insts last after cut z walk cut.ends (length phis) (length front) in_room (stands_here z u plain walk cut.walks cut.ends))

    new_here : (defines i.id front || Start.values i.id) ≡ false
    new_here = neither (defines i.id front) (Start.values i.id) (not_true (defines i.id front) twice)
        (ap (λ t. not t && stands_on f i.id (length phis) walk) (get_defines Rest (length front) i i.id in_rest (same_itself i.id)))
      where
        twice : defines i.id front ≡ true → ⊥
        twice h =
            let r = defined front i.id h in
            let less = get_less front r.place r.inst r.here in
            let there : slice_get Rest r.place ≡ Some r.inst = ap (λ l. slice_get l r.place) rest_is ∙ get_front front (i ∷ (is ++ last ∷ after)) r.place less ∙ r.here in
            let place : length phis + r.place ≡ length phis + length front =
            one_place m f walk at b phis before insts last after cut b.insts (length phis + r.place) (length phis + length front) r.inst i (on_body r.place r.inst there) in_block_here r.is_it once_in in
            absurd (omega arith)

  or_moved : (a d e : Bool) → (a || (d || e)) ≡ ((d || (a || false)) || e)
  or_moved true true e = refl
  or_moved true false e = refl
  or_moved false true e = refl
  or_moved false false e = refl

  pub all_run : (is front : List Inst) (k : Known) → before ++ insts ≡ front ++ is → ((z : Id) → k.values z ≡ (defines z front || Start.values z)) → NoPhis is → NoEnds is → MayRunAll m f b.insts k is
  all_run [] front k e same plain goes = tt
  all_run (i ∷ is) front k e same plain goes = (
    record {
      statement = statement m f walk at b phis before insts last after cut (length phis + length front) i (in_block_here front is i e) plain.0 goes.0;
      there = λ z u. same z ∙ known_before front is i e z u plain.0;
      fresh = same i.id ∙ new_here front is i e;
    },
    all_run is (front ++ i ∷ []) (next k i) (e ∙ sym (append_more front i is))
        (λ z. ap (λ b. same_id i.id z || b) (same z) ∙ or_moved (same_id i.id z) (defines z front) (Start.values z) ∙ ap (λ b. b || Start.values z) (sym (defines_append z front (i ∷ [])))) plain.1 goes.1,
  )

  stands_known : (a : Opd) → is_known (length m.globals) Start.values a ≡ true → is_known (length m.globals) (λ x. stands_on f x (length phis) walk) a ≡ true
  stands_known (Val x) h = and_right (not (defines x Rest)) (stands_on f x (length phis) walk) h
  stands_known (Lit l) h = refl
  stands_known (Sym g) h = h

  pub entered_ready : (s : State) → IsEntered m f walk (length phis) s → IsReady m f b.insts Start s
  entered_ready s en = record {
    values = λ x t e v h. en.shaped.values x t e v (and_right (not (defines x Rest)) (stands_on f x (length phis) walk) h);
    globals = en.shaped.globals;
    found = λ x i h e. inl (found_phi phis Rest x i cut.phis_first (not_false (defines x Rest) (and_left (not (defines x Rest)) (stands_on f x (length phis) walk) h)) (ap (find x) (sym cut.parts) ∙ e));
    ran = λ i d. elim d [ ];
    own = λ i d. elim d [ ];
    computed = λ i d. elim d [ ];
    within = λ a h kind. en.within a (stands_known a h) kind;
    roots = λ a c ha hc differ never. en.roots a c (stands_known a ha) (stands_known c hc) differ never;
  }

  pub ends_none : NoEnds (before ++ insts)
  ends_none =
      no_ends_right phis (before ++ insts)
      (no_ends_before (phis ++ (before ++ insts)) last after
      (subst EndsOnce (cut.parts ∙ sym (append_assoc phis (before ++ insts) (last ∷ after))) ((func m f walk at b phis before insts last after cut).blocks at b cut.there).ends))

  once_right_ids : (xs ys : List Inst) → Once (Ids (xs ++ ys)) → Once (Ids ys)
  once_right_ids [] ys h = h
  once_right_ids (x ∷ xs) ys h = once_right_ids xs ys h.1

  once_left_ids : (xs ys : List Inst) → Once (Ids (xs ++ ys)) → AreOnce (Ids xs)
  once_left_ids [] ys h = tt
  once_left_ids (x ∷ xs) ys h = (absent xs (not_true (among (Ids xs) x.id) (λ k. true_false (sym (wider xs k) ∙ h.0))), once_left_ids xs ys h.1) where
    wider : (xs : List Inst) → among (Ids xs) x.id ≡ true → among (Ids (xs ++ ys)) x.id ≡ true
    wider [] k = absurd cc
    wider (y ∷ xs) k = by_first (or_case (same_id y.id x.id) (among (Ids xs) x.id) k) (λ k. wider xs k) where
      by_first : (same_id y.id x.id ≡ true) ⊎ (among (Ids xs) x.id ≡ true) → (among (Ids xs) x.id ≡ true → among (Ids (xs ++ ys)) x.id ≡ true) → among (Ids (y ∷ xs ++ ys)) x.id ≡ true
      by_first (inl e) more = or_first (same_id y.id x.id) (among (Ids (xs ++ ys)) x.id) e
      by_first (inr k) more = or_second (same_id y.id x.id) (among (Ids (xs ++ ys)) x.id) (more k)

    absent : (xs : List Inst) → among (Ids xs) x.id ≡ false → list_any (same_id x.id) (Ids xs) ≡ false
    absent [] h = refl
    absent (y ∷ xs) h =
        neither (same_id x.id y.id) (list_any (same_id x.id) (Ids xs)) (swapped x.id y.id ∙ or_left (same_id y.id x.id) (among (Ids xs) x.id) h) (absent xs (or_right (same_id y.id x.id) (among (Ids xs) x.id) h))

  pub window_once : AreOnce (ids_of_insts insts)
  window_once =
      once_left_ids insts (last ∷ after)
      (once_right_ids before (insts ++ last ∷ after)
      (once_right_ids phis (before ++ (insts ++ last ∷ after))
      (subst (λ is. Once (Ids is)) (cut.parts ∙ ap (λ l. phis ++ l) (append_assoc before insts (last ∷ after))) once_in)))

  -- instructions before the window
  prefix : (bundles : List (List Id)) → AreBundles insts bundles → (groups : List (List Inst)) → order_in m b.insts insts bundles ≡ Some groups → (calls : Calls) → CallsKeepShapes m calls → CallsKeepObjects calls →
      (xs : List Inst) (k : Known) (r : Reached) → MayRunAll m f b.insts k (xs ++ insts) → IsReady m f b.insts k r.state →
      Instead (run_insts (types_of f) calls (xs ++ joined groups ++ last ∷ after) r) (run_insts (types_of f) calls (xs ++ insts ++ last ∷ after) r)
  prefix bundles are groups e calls keep objects [] k r v ready = windows m f cut.formed b.insts calls keep objects k insts (last ∷ after) bundles are groups e v r ready
  prefix bundles are groups e calls keep objects (x ∷ xs) k r v ready =
      subst (λ w. Instead w (run_insts (types_of f) calls (x ∷ xs ++ insts ++ last ∷ after) r)) (sym (insts_append (types_of f) calls (x ∷ []) (xs ++ joined groups ++ last ∷ after) r (v.0.statement.no_end, tt)))
      (subst (Instead (then_go (then_go (step (types_of f) calls x r) (λ q. On q)) (run_insts (types_of f) calls (xs ++ joined groups ++ last ∷ after))))
      (sym (insts_append (types_of f) calls (x ∷ []) (xs ++ insts ++ last ∷ after) r (v.0.statement.no_end, tt)))
      (by_step (step (types_of f) calls x r) refl (λ q d. prefix bundles are groups e calls keep objects xs (next k x) q v.1 (step_ready m f cut.formed b.insts calls keep k x r q v.0 ready d))))
    where
      by_step : (w : Went Reached) → step (types_of f) calls x r ≡ w →
          ((q : Reached) → step (types_of f) calls x r ≡ On q → Instead (run_insts (types_of f) calls (xs ++ joined groups ++ last ∷ after) q) (run_insts (types_of f) calls (xs ++ insts ++ last ∷ after) q)) →
          Instead (then_go (then_go w (λ q. On q)) (run_insts (types_of f) calls (xs ++ joined groups ++ last ∷ after))) (then_go (then_go w (λ q. On q)) (run_insts (types_of f) calls (xs ++ insts ++ last ∷ after)))
      by_step Lost d more = inl refl
      by_step (Halts n) d more = inr refl
      by_step (On q) d more = more q d

pub blocks_refine-proof : BlocksRefine
blocks_refine-proof m f walk at b phis before insts last after cut bundles are groups e calls keep objects r en =
    prefix m f walk at b phis before insts last after cut bundles are groups e calls keep objects before (entry m f walk at b phis before insts last after cut) r
    (all_run m f walk at b phis before insts last after cut (before ++ insts) [] (entry m f walk at b phis before insts last after cut) refl (λ z. refl) cut.no_phis
    (ends_none m f walk at b phis before insts last after cut))
    (entered_ready m f walk at b phis before insts last after cut r.state en)
