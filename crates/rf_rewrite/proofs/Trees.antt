-- What holds of the nodes of a region's tree: widened lanes are instructions that may move, none is a lane twice, and the bundles have an
-- order.
use Rattle.std.proofs.Common.{◌≡◌, refl, sym, ap, ◌∙◌, subst, ℕ, zero, suc, ◌≤◌, ◌⊎◌, inl, inr, Bool, true, false, not, ◌&&◌, ◌||◌, Option, None, Some, List, [], ◌∷◌, ◌++◌, cond, slice_get, option_map, arith, length, append_assoc}
use Rattle.std.specs.Bool.{⊤}
use Rattle.std.specs.Prelude.{is_none}
use Rattle.std.specs.List.{list_any, list_all}
use Rattle.ir_types.specs.declared.id.Id.{Id}
use Rattle.ir_types.specs.declared.opd.Opd.{Opd}
use Rattle.ir_types.specs.declared.opd.Opd.TheVariants.{Val, Lit, Sym}
use Rattle.ir_types.specs.declared.op.Op.{Op}
use Rattle.ir_types.specs.declared.op.Op.TheVariants as op
use Rattle.ir_types.specs.declared.inst.Inst.{Inst}
use Rattle.ir_types.specs.declared.func.Param.{Param}
use Rattle.ir_types.specs.declared.module.Module.{Module}
use Rattle.ir_types.specs.Available.{same_id}
use Rattle.ir_types.specs.Typed.{is_scalar}
use Rattle.ir_types.specs.Formed.{is_phi, is_alloca, is_terminator, is_store, ids_of as module_ids}
use Rattle.ir_types.proofs.Formed.{Every}
use Rattle.ir_types.proofs.Among.{same_is, same_itself, swapped}
use Rattle.vx_view.specs.Answers.{find, found, param_of, funcs_of, Standing, is_value}
use Rattle.sb_uses.specs.Totals.{id_times}
use Rattle.vx_serial.specs.declared.cause.Cause.{Cause}
use Rattle.vx_serial.specs.declared.node.How.{How}
use Rattle.vx_serial.specs.declared.node.How.TheVariants.{Widen, Reuse, Ident, Pack}
use Rattle.vx_serial.specs.declared.node.Node.{Node}
use Rattle.vx_serial.specs.Window.{order, joined}
use Rattle.vx_serial.specs.Bundles.{AreOnce, ids_of}
use Rattle.vx_serial.specs.Near.{looked_at}
use Rattle.vx_serial.specs.Legal.{same_value, is_widened, reused, inst_of, insts_of, with_lane, value_ty, ty_of, of_lanes, element_of, vector_of, whole_vector, are_elements, identity, is_there, is_kind, may_widen, is_among, are_repeated, is_taken, bundles_of, first_cause, is_root, causes, packed, or_else, legal}
use Rattle.vx_serial.specs.Tree.{slot_count, with_opd, slot, slots_from, Visit, visit_all, with_slots, node, visited, visit, values_of, tree_in}
use Rattle.vx_serial.specs.Rewriting.{is_id_in, bundle_of, is_first_lane}
use Rattle.rf_rewrite.proofs.Contexts.{neither_there}
use Rattle.rf_rewrite.proofs.Window.{Known, find_id}
use Rattle.rf_rewrite.proofs.Gone.{Removable}
use Rattle.rf_rewrite.proofs.Making.{every_append, every_map, IdentKnown, NodeKnown}
use Rattle.vx_serial.proofs.Decided.{true_false, and_left, and_right, or_left, or_right, or_second}
use Rattle.rf_rewrite.proofs.Facts.{append_none}

-- ---- booleans and lists

pub false_of_not : (b : Bool) → not b ≡ false → b ≡ true
false_of_not true e = refl
false_of_not false e = absurd cc

pub any_append : (xs ys : List Id) (x : Id) → list_any (same_id x) (xs ++ ys) ≡ (list_any (same_id x) xs || list_any (same_id x) ys)
any_append [] ys x = refl
any_append (y ∷ xs) ys x = ap (λ b. same_id x y || b) (any_append xs ys x) ∙ assoc (same_id x y) (list_any (same_id x) xs) (list_any (same_id x) ys)
  where
    assoc : (a b c : Bool) → (a || (b || c)) ≡ ((a || b) || c)
    assoc true b c = refl
    assoc false b c = refl

pub once_both : (xs ys : List Id) → AreOnce xs → AreOnce ys → ((x : Id) → is_id_in xs x ≡ true → is_id_in ys x ≡ false) → AreOnce (xs ++ ys)
once_both [] ys o p apart = p
once_both (x ∷ xs) ys o p apart = (
  any_append xs ys x ∙ ap (λ b. b || list_any (same_id x) ys) o.0 ∙ apart x (ap (λ b. b || is_id_in xs x) (same_itself x)),
  once_both xs ys o.1 p (λ y h. apart y (or_second (same_id y x) (is_id_in xs y) h)),
)

among_any : (x : Id) (l : List Inst) → list_any (same_id x) (ids_of l) ≡ list_any (λ (j : Inst). same_id j.id x) l
among_any x [] = refl
among_any x (i ∷ l) = ap (λ b. b || list_any (same_id x) (ids_of l)) (swapped x i.id) ∙ ap (λ b. same_id i.id x || b) (among_any x l)

pub repeated_once : (l : List Inst) → are_repeated l ≡ false → AreOnce (ids_of l)
repeated_once [] e = tt
repeated_once (i ∷ l) e = (among_any i.id l ∙ or_left (is_among l i) (are_repeated l) e, repeated_once l (or_right (is_among l i) (are_repeated l) e))

pub joined_append : (bs cs : List (List Id)) → joined (bs ++ cs) ≡ joined bs ++ joined cs
joined_append [] cs = refl
joined_append (b ∷ bs) cs = ap (λ u. b ++ u) (joined_append bs cs) ∙ sym (append_assoc b (joined bs) (joined cs))

-- ---- causes

pub causes_none : (rs : List (Bool × Cause)) → first_cause rs ≡ None → Every (λ (r : Bool × Cause). r.0 ≡ false) rs
causes_none [] e = tt
causes_none (r ∷ rs) e = by_test r.0 e (causes_none rs)
  where
    by_test : (b : Bool) → cond b (Some r.1) (first_cause rs) ≡ None → (first_cause rs ≡ None → Every (λ (r : Bool × Cause). r.0 ≡ false) rs) → (b ≡ false) × Every (λ (r : Bool × Cause). r.0 ≡ false) rs
    by_test true n more = absurd cc
    by_test false n more = (refl, more n)

module _ (globals : ℕ) (base : Id → ℕ) (m : Module) (block : List Inst) (last : Id) (based : (y : Id) → id_times y (module_ids m) ≡ base y)
    (operands : (x : Id) (i : Inst) → find x block ≡ Some i → Every (Known globals base) i.opds) where
  -- ---- lanes that are widened

  pub record LaneOk (o : Opd) : Type 0 where
    pub id : Id
    pub value : o ≡ Val id
    pub inst : Inst
    pub stands : find id block ≡ Some inst
    pub may : Removable inst
    pub near : is_among (looked_at block last) inst ≡ true

  abbrev pub LanesOk : How → List Opd → Type 0
  LanesOk Widen lanes = Every LaneOk lanes
  LanesOk _ lanes = ⊤

  pub record NodeOk (n : Node) : Type 0 where
    pub lanes : Every (Known globals base) n.lanes
    pub ident : IdentKnown base n.how
    pub widens : LanesOk n.how n.lanes

  pub lane_inst : (o : Opd) (k : LaneOk o) → inst_of block o ≡ Some k.inst
  lane_inst o k = ap (inst_of block) k.value ∙ k.stands

  kind_removable : (o : Op) → is_kind o ≡ true → (is_phi o ≡ false) × (is_alloca o ≡ false) × (is_terminator o ≡ false)
  kind_removable (op.Bin o flags) e = (refl, refl, refl)
  kind_removable (op.Icmp pred) e = (refl, refl, refl)
  kind_removable (op.Cast o nneg) e = (refl, refl, refl)
  kind_removable op.Select e = (refl, refl, refl)
  kind_removable (op.Load align) e = (refl, refl, refl)
  kind_removable op.Extract e = absurd cc
  kind_removable op.Insert e = absurd cc
  kind_removable (op.Shuffle mask) e = absurd cc
  kind_removable (op.Gep elem inbounds) e = absurd cc
  kind_removable (op.Store align) e = absurd cc
  kind_removable (op.Alloca elem align) e = absurd cc
  kind_removable (op.Phi blocks) e = absurd cc
  kind_removable op.Ret e = absurd cc
  kind_removable (op.Br to) e = absurd cc
  kind_removable (op.CondBr first second) e = absurd cc
  kind_removable (op.Switch other cases to) e = absurd cc
  kind_removable op.Unreachable e = absurd cc
  kind_removable (op.Call site) e = absurd cc

  store_removable : (o : Op) → is_store o ≡ true → (is_phi o ≡ false) × (is_alloca o ≡ false) × (is_terminator o ≡ false)
  store_removable (op.Store align) e = (refl, refl, refl)
  store_removable (op.Bin o flags) e = absurd cc
  store_removable (op.Icmp pred) e = absurd cc
  store_removable (op.Cast o nneg) e = absurd cc
  store_removable op.Select e = absurd cc
  store_removable (op.Load align) e = absurd cc
  store_removable op.Extract e = absurd cc
  store_removable op.Insert e = absurd cc
  store_removable (op.Shuffle mask) e = absurd cc
  store_removable (op.Gep elem inbounds) e = absurd cc
  store_removable (op.Alloca elem align) e = absurd cc
  store_removable (op.Phi blocks) e = absurd cc
  store_removable op.Ret e = absurd cc
  store_removable (op.Br to) e = absurd cc
  store_removable (op.CondBr first second) e = absurd cc
  store_removable (op.Switch other cases to) e = absurd cc
  store_removable op.Unreachable e = absurd cc
  store_removable (op.Call site) e = absurd cc

  widen_removable : (root : Bool) (i : Inst) → may_widen root i ≡ true → Removable i
  widen_removable true i e = store_removable i.op e
  widen_removable false i e = kind_removable i.op (and_left (is_kind i.op) (is_scalar i.ty) e)

  pub lanes_ok : (root : Bool) (lanes : List Opd) → list_all (λ o. is_there (inst_of block o)) lanes ≡ true → list_all (may_widen root) (insts_of block lanes) ≡ true →
      list_all (is_among (looked_at block last)) (insts_of block lanes) ≡ true → Every LaneOk lanes
  lanes_ok root [] a b c = tt
  lanes_ok root (Lit l ∷ os) a b c = absurd cc
  lanes_ok root (Sym g ∷ os) a b c = absurd cc
  lanes_ok root (Val v ∷ os) a b c = by_inst (find v block) refl a b c (lanes_ok root os)
    where
      by_inst : (o : Option Inst) → find v block ≡ o → (is_there o && list_all (λ u. is_there (inst_of block u)) os) ≡ true → list_all (may_widen root) (with_lane o (insts_of block os)) ≡ true →
          list_all (is_among (looked_at block last)) (with_lane o (insts_of block os)) ≡ true →
          (list_all (λ u. is_there (inst_of block u)) os ≡ true → list_all (may_widen root) (insts_of block os) ≡ true → list_all (is_among (looked_at block last)) (insts_of block os) ≡ true → Every LaneOk os) →
          LaneOk (Val v) × Every LaneOk os
      by_inst None e p q r more = absurd cc
      by_inst (Some i) e p q r more = (
        record {
          id = v;
          value = refl;
          inst = i;
          stands = e;
          may = widen_removable root i (and_left (may_widen root i) (list_all (may_widen root) (insts_of block os)) q);
          near = and_left (is_among (looked_at block last) i) (list_all (is_among (looked_at block last)) (insts_of block os)) r;
        },
        more (and_right (is_there (Some i)) (list_all (λ u. is_there (inst_of block u)) os) p) (and_right (may_widen root i) (list_all (may_widen root) (insts_of block os)) q)
            (and_right (is_among (looked_at block last) i) (list_all (is_among (looked_at block last)) (insts_of block os)) r),
      )

  -- ---- lanes that were taken

  -- a lane of a widened node, by its id
  lane_taken : (x : Id) (lanes : List Opd) → Every LaneOk lanes → is_id_in (ids_of (insts_of block lanes)) x ≡ true → list_any (same_value (Val x)) lanes ≡ true
  lane_taken x [] k h = absurd cc
  lane_taken x (o ∷ os) k h = by_first (same_id x k.0.id) refl (subst (λ l. is_id_in (ids_of (with_lane l (insts_of block os))) x ≡ true) (lane_inst o k.0) h) (lane_taken x os k.1)
    where
      by_first : (b : Bool) → same_id x k.0.id ≡ b → (same_id x k.0.inst.id || is_id_in (ids_of (insts_of block os)) x) ≡ true →
          (is_id_in (ids_of (insts_of block os)) x ≡ true → list_any (same_value (Val x)) os ≡ true) → (same_value (Val x) o || list_any (same_value (Val x)) os) ≡ true
      by_first true t r more = ap (λ u. same_value (Val x) u || list_any (same_value (Val x)) os) k.0.value ∙ ap (λ b. b || list_any (same_value (Val x)) os) t
      by_first false t r more =
          ap (λ u. same_value (Val x) u || list_any (same_value (Val x)) os) k.0.value ∙ ap (λ b. b || list_any (same_value (Val x)) os) t
          ∙ more (sym (ap (λ b. b || is_id_in (ids_of (insts_of block os)) x) (ap (same_id x) (same_is k.0.inst.id k.0.id (find_id k.0.id block k.0.inst k.0.stands)) ∙ t)) ∙ r)

  taken_by : (x : Id) (ns : List Node) → Every NodeOk ns → is_id_in (joined (bundles_of block ns)) x ≡ true → is_taken ns (Val x) ≡ true
  taken_by x [] k h = absurd cc
  taken_by x (n ∷ ns) k h = by_how n.how refl k.0.widens h (taken_by x ns k.1)
    where
      Rest : Type 0
      Rest = is_id_in (joined (bundles_of block ns)) x ≡ true → is_taken ns (Val x) ≡ true

      by_how : (how : How) → n.how ≡ how → LanesOk how n.lanes → is_id_in (joined (cond (is_widened how) (ids_of (insts_of block n.lanes) ∷ bundles_of block ns) (bundles_of block ns))) x ≡ true → Rest →
          ((is_widened n.how && list_any (same_value (Val x)) n.lanes) || is_taken ns (Val x)) ≡ true
      by_how Widen e w r more =
          by_both (is_id_in (ids_of (insts_of block n.lanes)) x) refl (sym (any_append (ids_of (insts_of block n.lanes)) (joined (bundles_of block ns)) x) ∙ r)
        where
          at : (is_widened n.how && list_any (same_value (Val x)) n.lanes) ≡ list_any (same_value (Val x)) n.lanes
          at = ap (λ h. is_widened h && list_any (same_value (Val x)) n.lanes) e

          by_both : (b : Bool) → is_id_in (ids_of (insts_of block n.lanes)) x ≡ b → (b || is_id_in (joined (bundles_of block ns)) x) ≡ true →
              ((is_widened n.how && list_any (same_value (Val x)) n.lanes) || is_taken ns (Val x)) ≡ true
          by_both true t s = ap (λ b. b || is_taken ns (Val x)) (at ∙ lane_taken x n.lanes w t)
          by_both false t s = or_second (is_widened n.how && list_any (same_value (Val x)) n.lanes) (is_taken ns (Val x)) (more s)
      by_how (Reuse k) e w r more = or_second (is_widened n.how && list_any (same_value (Val x)) n.lanes) (is_taken ns (Val x)) (more r)
      by_how (Ident v) e w r more = or_second (is_widened n.how && list_any (same_value (Val x)) n.lanes) (is_taken ns (Val x)) (more r)
      by_how (Pack c) e w r more = or_second (is_widened n.how && list_any (same_value (Val x)) n.lanes) (is_taken ns (Val x)) (more r)

  not_taken : (tree : List Node) (x : Id) (lanes : List Opd) → Every LaneOk lanes → list_any (is_taken tree) lanes ≡ false → is_id_in (ids_of (insts_of block lanes)) x ≡ true → is_taken tree (Val x) ≡ false
  not_taken tree x [] k e h = absurd cc
  not_taken tree x (o ∷ os) k e h = by_first (same_id x k.0.id) refl (subst (λ l. is_id_in (ids_of (with_lane l (insts_of block os))) x ≡ true) (lane_inst o k.0) h) (not_taken tree x os k.1 (or_right (is_taken tree o) (list_any (is_taken tree) os) e))
    where
      by_first : (b : Bool) → same_id x k.0.id ≡ b → (same_id x k.0.inst.id || is_id_in (ids_of (insts_of block os)) x) ≡ true →
          (is_id_in (ids_of (insts_of block os)) x ≡ true → is_taken tree (Val x) ≡ false) → is_taken tree (Val x) ≡ false
      by_first true t r more = ap (λ v. is_taken tree (Val v)) (same_is x k.0.id t) ∙ ap (is_taken tree) (sym k.0.value) ∙ or_left (is_taken tree o) (list_any (is_taken tree) os) e
      by_first false t r more = more (sym (ap (λ b. b || is_id_in (ids_of (insts_of block os)) x) (ap (same_id x) (same_is k.0.inst.id k.0.id (find_id k.0.id block k.0.inst k.0.stands)) ∙ t)) ∙ r)

  -- ---- a tree

  pub record TreeOk (tree : List Node) : Type 0 where
    pub nodes : Every NodeOk tree
    pub once : AreOnce (joined (bundles_of block tree))
    pub ordered : (bundles_of block tree ≡ []) ⊎ (is_none (order m block last (bundles_of block tree)) ≡ false)

  pub bundles_append : (xs ys : List Node) → bundles_of block (xs ++ ys) ≡ bundles_of block xs ++ bundles_of block ys
  bundles_append [] ys = refl
  bundles_append (n ∷ xs) ys = by_test (is_widened n.how) (bundles_append xs ys)
    where
      by_test : (b : Bool) → bundles_of block (xs ++ ys) ≡ bundles_of block xs ++ bundles_of block ys →
          cond b (ids_of (insts_of block n.lanes) ∷ bundles_of block (xs ++ ys)) (bundles_of block (xs ++ ys))
          ≡ cond b (ids_of (insts_of block n.lanes) ∷ bundles_of block xs) (bundles_of block xs) ++ bundles_of block ys
      by_test true e = ap (λ u. ids_of (insts_of block n.lanes) ∷ u) e
      by_test false e = e

  -- a node that is not widened
  one_packed : (tree : List Node) (lanes : List Opd) (how : How) → TreeOk tree → Every (Known globals base) lanes → IdentKnown base how → LanesOk how lanes → bundles_of block (node lanes how ∷ []) ≡ [] →
      TreeOk (tree ++ node lanes how ∷ [])
  one_packed tree lanes how t k i w none = record {
    nodes = every_append NodeOk tree (node lanes how ∷ []) t.nodes (record { lanes = k; ident = i; widens = w }, tt);
    once = subst (λ bs. AreOnce (joined bs)) (sym same) t.once;
    ordered = subst (λ bs. (bs ≡ []) ⊎ (is_none (order m block last bs) ≡ false)) (sym same) t.ordered;
  }
    where
      nothing : (bs : List (List Id)) → bs ++ [] ≡ bs
      nothing [] = refl
      nothing (b ∷ bs) = ap (λ u. b ∷ u) (nothing bs)

      same : bundles_of block (tree ++ node lanes how ∷ []) ≡ bundles_of block tree
      same = bundles_append tree (node lanes how ∷ []) ∙ ap (λ u. bundles_of block tree ++ u) none ∙ nothing (bundles_of block tree)

  -- one that is widened
  one_widened : (tree : List Node) (lanes : List Opd) → TreeOk tree → Every (Known globals base) lanes → first_cause (causes m block last tree lanes (insts_of block lanes)) ≡ None →
      TreeOk (tree ++ node lanes Widen ∷ [])
  one_widened tree lanes t k e = record {
    nodes = every_append NodeOk tree (node lanes Widen ∷ []) t.nodes (record { lanes = k; ident = tt; widens = ok }, tt);
    once = subst (λ bs. AreOnce (joined bs)) (sym same)
        (subst AreOnce (sym joined_is) (once_both (joined (bundles_of block tree)) (ids_of (insts_of block lanes)) t.once (repeated_once (insts_of block lanes) all.1.1.1.1.1.0) apart));
    ordered = inr (ap (λ bs. is_none (order m block last bs)) same ∙ all.1.1.1.1.1.1.1.1.1.0);
  }
    where
      all : Every (λ (r : Bool × Cause). r.0 ≡ false) (causes m block last tree lanes (insts_of block lanes))
      all = causes_none (causes m block last tree lanes (insts_of block lanes)) e

      ok : Every LaneOk lanes
      ok = lanes_ok (is_root tree) lanes (false_of_not (list_all (λ o. is_there (inst_of block o)) lanes) all.1.0) (false_of_not (list_all (may_widen (is_root tree)) (insts_of block lanes)) all.1.1.0)
          (false_of_not (list_all (is_among (looked_at block last)) (insts_of block lanes)) all.1.1.1.1.1.1.1.0)

      same : bundles_of block (tree ++ node lanes Widen ∷ []) ≡ bundles_of block tree ++ ids_of (insts_of block lanes) ∷ []
      same = bundles_append tree (node lanes Widen ∷ [])

      joined_is : joined (bundles_of block tree ++ ids_of (insts_of block lanes) ∷ []) ≡ joined (bundles_of block tree) ++ ids_of (insts_of block lanes)
      joined_is = joined_append (bundles_of block tree) (ids_of (insts_of block lanes) ∷ []) ∙ ap (λ u. joined (bundles_of block tree) ++ u) (append_none (ids_of (insts_of block lanes)))

      apart : (x : Id) → is_id_in (joined (bundles_of block tree)) x ≡ true → is_id_in (ids_of (insts_of block lanes)) x ≡ false
      apart x h = by_test (is_id_in (ids_of (insts_of block lanes)) x) refl
        where
          by_test : (b : Bool) → is_id_in (ids_of (insts_of block lanes)) x ≡ b → b ≡ false
          by_test true r = absurd (true_false (sym (taken_by x tree t.nodes h) ∙ not_taken tree x lanes ok all.1.1.1.1.1.1.0 r))
          by_test false r = refl

  -- ---- a vector whose elements lanes are

  none_ty : (v : Id) → base v ≡ 0 → ty_of m (Val v) ≡ None
  none_ty v e = both (param_of v (funcs_of m.items)) (found m v) (neither_there m v (based v ∙ e))
    where
      IsNeitherHere : Option Param → Option Standing → Type 0
      IsNeitherHere o u = Rattle.vx_view.specs.Changes.IsNeither o u

      both : (o : Option Param) (u : Option Standing) → Rattle.vx_view.specs.Changes.IsNeither o u → value_ty o u ≡ None
      both None None h = refl
      both None (Some s) h = absurd h
      both (Some p) None h = absurd h
      both (Some p) (Some s) h = absurd h

  whole_known : (lanes : List Opd) (o : Option Id) (v : Id) → whole_vector m block lanes o ≡ Some v → 1 ≤ base v
  whole_known lanes None v e = absurd cc
  whole_known lanes (Some w) v e = by_number (base v) refl
    where
      by_test : (b : Bool) → cond b (Some w) None ≡ Some v → (b ≡ true) × (w ≡ v)
      by_test true r = (refl, some_is r)
        where
          some_is : Some w ≡ Some v → w ≡ v
          some_is r = cc
      by_test false r = absurd cc

      is : ((of_lanes (length lanes) (ty_of m (Val w)) && are_elements block w 0 lanes) ≡ true) × (w ≡ v)
      is = by_test (of_lanes (length lanes) (ty_of m (Val w)) && are_elements block w 0 lanes) e

      typed : of_lanes (length lanes) (ty_of m (Val v)) ≡ true
      typed = subst (λ x. of_lanes (length lanes) (ty_of m (Val x)) ≡ true) is.1 (and_left (of_lanes (length lanes) (ty_of m (Val w))) (are_elements block w 0 lanes) is.0)

      by_number : (n : ℕ) → base v ≡ n → 1 ≤ base v
      by_number zero z = absurd (true_false (sym typed ∙ ap (of_lanes (length lanes)) (none_ty v z)))
      by_number (suc n) z = omega (arith, z)

  identity_known : (lanes : List Opd) (v : Id) → identity m block lanes ≡ Some v → 1 ≤ base v
  identity_known [] v e = absurd cc
  identity_known (o ∷ os) v e = whole_known (o ∷ os) (vector_of (element_of (inst_of block o))) v e

  -- ---- one more node

  pub legal_ok : (tree : List Node) (lanes : List Opd) → TreeOk tree → Every (Known globals base) lanes → TreeOk (tree ++ node lanes (legal m block last tree lanes) ∷ [])
  legal_ok tree lanes t k = by_reuse (reused 0 lanes tree) (identity m block lanes) refl (first_cause (causes m block last tree lanes (insts_of block lanes))) refl
    where
      by_reuse : (r : Option ℕ) (i : Option Id) → identity m block lanes ≡ i → (c : Option Cause) → first_cause (causes m block last tree lanes (insts_of block lanes)) ≡ c →
          TreeOk (tree ++ node lanes (or_else (option_map Reuse r) (or_else (option_map Ident i) (packed c))) ∷ [])
      by_reuse (Some n) i e c f = one_packed tree lanes (Reuse n) t k tt tt refl
      by_reuse None (Some v) e c f = one_packed tree lanes (Ident v) t k (identity_known lanes v e) tt refl
      by_reuse None None e (Some c) f = one_packed tree lanes (Pack c) t k tt tt refl
      by_reuse None None e None f = one_widened tree lanes t k f

  -- ---- slots

  AllKnown : List Opd → Type 0
  AllKnown os = Every (Known globals base) os

  pub lanes_insts : (os : List Opd) → Every (λ (i : Inst). Every (Known globals base) i.opds) (insts_of block os)
  lanes_insts [] = tt
  lanes_insts (Lit l ∷ os) = lanes_insts os
  lanes_insts (Sym g ∷ os) = lanes_insts os
  lanes_insts (Val v ∷ os) = by_inst (find v block) refl (lanes_insts os)
    where
      by_inst : (o : Option Inst) → find v block ≡ o → Every (λ (i : Inst). Every (Known globals base) i.opds) (insts_of block os) → Every (λ (i : Inst). Every (Known globals base) i.opds) (with_lane o (insts_of block os))
      by_inst None e rest = rest
      by_inst (Some i) e rest = (operands v i e, rest)

  slot_known : (k : ℕ) (is : List Inst) → Every (λ (i : Inst). Every (Known globals base) i.opds) is → Every (Known globals base) (slot k is)
  slot_known k [] h = tt
  slot_known k (i ∷ is) h = by_opd (slice_get i.opds k) refl (slot_known k is h.1)
    where
      got : (os : List Opd) (j : ℕ) (o : Opd) → Every (Known globals base) os → slice_get os j ≡ Some o → Known globals base o
      got [] j o a e = absurd cc
      got (p ∷ os) zero o a e = subst (Known globals base) (some_is e) a.0
        where
          some_is : Some p ≡ Some o → p ≡ o
          some_is e = cc
      got (p ∷ os) (suc j) o a e = got os j o a.1 e

      by_opd : (o : Option Opd) → slice_get i.opds k ≡ o → Every (Known globals base) (slot k is) → Every (Known globals base) (with_opd o (slot k is))
      by_opd None e rest = rest
      by_opd (Some o) e rest = (got i.opds k o h.0 e, rest)

  pub slots_known : (k n : ℕ) (is : List Inst) → Every (λ (i : Inst). Every (Known globals base) i.opds) is → Every (Every (Known globals base)) (slots_from k n is)
  slots_known k zero is h = tt
  slots_known k (suc n) is h = (slot_known k is h, slots_known (suc k) n is h)

  -- ---- visits

  abbrev pub KeepsOk : Visit → Type 0
  KeepsOk f = (tree : List Node) (lanes : List Opd) → TreeOk tree → Every (Known globals base) lanes → TreeOk (f tree lanes)

  pub all_ok : (f : Visit) → KeepsOk f → (slots : List (List Opd)) (tree : List Node) (numbers : List ℕ) → Every (Every (Known globals base)) slots → TreeOk tree → TreeOk (visit_all f slots tree numbers).0
  all_ok f keeps [] tree numbers h t = t
  all_ok f keeps (lanes ∷ more) tree numbers h t = all_ok f keeps more (f tree lanes) (numbers ++ length tree ∷ []) h.1 (keeps tree lanes t h.0)

  pub slots_bundles : (n : ℕ) (slots : List ℕ) (ns : List Node) → bundles_of block (with_slots n slots ns) ≡ bundles_of block ns
  slots_bundles n slots [] = refl
  slots_bundles zero slots (x ∷ xs) = refl
  slots_bundles (suc n) slots (x ∷ xs) = ap (λ bs. cond (is_widened x.how) (ids_of (insts_of block x.lanes) ∷ bs) bs) (slots_bundles n slots xs)

  slots_nodes : (n : ℕ) (slots : List ℕ) (ns : List Node) → Every NodeOk ns → Every NodeOk (with_slots n slots ns)
  slots_nodes n slots [] h = tt
  slots_nodes zero slots (x ∷ xs) h = (record { lanes = h.0.lanes; ident = h.0.ident; widens = h.0.widens }, h.1)
  slots_nodes (suc n) slots (x ∷ xs) h = (h.0, slots_nodes n slots xs h.1)

  pub slots_ok : (n : ℕ) (slots : List ℕ) (tree : List Node) → TreeOk tree → TreeOk (with_slots n slots tree)
  slots_ok n slots tree t = record {
    nodes = slots_nodes n slots tree t.nodes;
    once = subst (λ bs. AreOnce (joined bs)) (sym (slots_bundles n slots tree)) t.once;
    ordered = subst (λ bs. (bs ≡ []) ⊎ (is_none (order m block last bs) ≡ false)) (sym (slots_bundles n slots tree)) t.ordered;
  }

  pub visited_ok : (f : Visit) → KeepsOk f → (slots : List (List Opd)) → Every (Every (Known globals base)) slots → (tree : List Node) (lanes : List Opd) (how : How) →
      TreeOk (tree ++ node lanes how ∷ []) → TreeOk (visited f slots tree lanes how)
  visited_ok f keeps slots h tree lanes Widen t =
      slots_ok (length tree) (visit_all f slots (tree ++ node lanes Widen ∷ []) []).1 (visit_all f slots (tree ++ node lanes Widen ∷ []) []).0
      (all_ok f keeps slots (tree ++ node lanes Widen ∷ []) [] h t)
  visited_ok f keeps slots h tree lanes (Reuse n) t = t
  visited_ok f keeps slots h tree lanes (Ident v) t = t
  visited_ok f keeps slots h tree lanes (Pack c) t = t

  pub visit_ok : (n : ℕ) → KeepsOk (visit n m block last)
  visit_ok zero tree lanes t k = t
  visit_ok (suc n) tree lanes t k =
      visited_ok (visit n m block last) (visit_ok n) (slots_from 0 (slot_count (insts_of block lanes)) (insts_of block lanes))
      (slots_known 0 (slot_count (insts_of block lanes)) (insts_of block lanes) (lanes_insts lanes)) tree lanes (legal m block last tree lanes) (legal_ok tree lanes t k)

  pub empty_ok : TreeOk []
  empty_ok = record { nodes = tt; once = tt; ordered = inl refl }

  pub tree_ok : (stores : List Id) → Every (Known globals base) (values_of stores) → TreeOk (tree_in m block last stores)
  tree_ok stores k = visit_ok (suc (length block)) [] (values_of stores) empty_ok k

  -- ---- first lanes

  first_some : (x : Id) (at : ℕ) (n : Node) (ns : List Node) → ((b : ℕ × List ℕ) × (bundle_of x (suc at) ns ≡ Some b)) → (b : ℕ × List ℕ) × (bundle_of x at (n ∷ ns) ≡ Some b)
  first_some x at n ns h = by_test (is_widened n.how && is_first_lane x n.lanes)
    where
      by_test : (t : Bool) → (b : ℕ × List ℕ) × (cond t (Some (at, n.slots)) (bundle_of x (suc at) ns) ≡ Some b)
      by_test true = ((at, n.slots), refl)
      by_test false = h

  abbrev pub FirstSome : ℕ → List Node → List Id → Type 0
  FirstSome at ns [] = ⊤
  FirstSome at ns (x ∷ xs) = (b : ℕ × List ℕ) × (bundle_of x at ns ≡ Some b)

  first_later : (at : ℕ) (n : Node) (ns : List Node) (xs : List Id) → FirstSome (suc at) ns xs → FirstSome at (n ∷ ns) xs
  first_later at n ns [] h = tt
  first_later at n ns (x ∷ xs) h = first_some x at n ns h

  first_here : (at : ℕ) (n : Node) (ns : List Node) → n.how ≡ Widen → Every LaneOk n.lanes → FirstSome at (n ∷ ns) (ids_of (insts_of block n.lanes))
  first_here at n ns e w = by_lanes n.lanes refl w
    where
      by_lanes : (os : List Opd) → n.lanes ≡ os → Every LaneOk os → FirstSome at (n ∷ ns) (ids_of (insts_of block os))
      by_lanes [] f k = tt
      by_lanes (o ∷ os) f k = subst (λ l. FirstSome at (n ∷ ns) (ids_of (with_lane l (insts_of block os)))) (sym (lane_inst o k.0)) ((at, n.slots), is)
        where
          lane : is_first_lane k.0.inst.id n.lanes ≡ true
          lane =
              ap (is_first_lane k.0.inst.id) f ∙ ap (is_value k.0.inst.id) k.0.value
              ∙ ap (same_id k.0.id) (same_is k.0.inst.id k.0.id (find_id k.0.id block k.0.inst k.0.stands)) ∙ same_itself k.0.id

          is : bundle_of k.0.inst.id at (n ∷ ns) ≡ Some (at, n.slots)
          is =
              ap (λ h. cond (is_widened h && is_first_lane k.0.inst.id n.lanes) (Some (at, n.slots)) (bundle_of k.0.inst.id (suc at) ns)) e
              ∙ ap (λ b. cond b (Some (at, n.slots)) (bundle_of k.0.inst.id (suc at) ns)) lane

  pub firsts : (at : ℕ) (ns : List Node) → Every NodeOk ns → Every (FirstSome at ns) (bundles_of block ns)
  firsts at [] k = tt
  firsts at (n ∷ ns) k = by_how n.how refl k.0.widens (every_map (FirstSome (suc at) ns) (FirstSome at (n ∷ ns)) (first_later at n ns) (bundles_of block ns) (firsts (suc at) ns k.1))
    where
      by_how : (how : How) → n.how ≡ how → LanesOk how n.lanes → Every (FirstSome at (n ∷ ns)) (bundles_of block ns) →
          Every (FirstSome at (n ∷ ns)) (cond (is_widened how) (ids_of (insts_of block n.lanes) ∷ bundles_of block ns) (bundles_of block ns))
      by_how Widen e w rest = (first_here at n ns e w, rest)
      by_how (Reuse k) e w rest = rest
      by_how (Ident v) e w rest = rest
      by_how (Pack c) e w rest = rest

  -- what begins a node is a lane
  first_lane : (x : Id) (lanes : List Opd) → Every LaneOk lanes → is_first_lane x lanes ≡ true → is_id_in (ids_of (insts_of block lanes)) x ≡ true
  first_lane x [] k e = absurd cc
  first_lane x (o ∷ os) k e =
      ap (λ l. is_id_in (ids_of (with_lane l (insts_of block os))) x) (lane_inst o k.0) ∙ ap (λ b. b || is_id_in (ids_of (insts_of block os)) x) same
    where
      value_is : same_id k.0.id x ≡ true
      value_is = sym (ap (is_value x) k.0.value) ∙ e

      same : same_id x k.0.inst.id ≡ true
      same = ap (same_id x) (same_is k.0.inst.id k.0.id (find_id k.0.id block k.0.inst k.0.stands)) ∙ swapped x k.0.id ∙ value_is

  pub alone : (x : Id) (at : ℕ) (ns : List Node) → Every NodeOk ns → is_id_in (joined (bundles_of block ns)) x ≡ false → bundle_of x at ns ≡ None
  alone x at [] k h = refl
  alone x at (n ∷ ns) k h = by_how n.how refl k.0.widens h (alone x (suc at) ns k.1)
    where
      by_how : (how : How) → n.how ≡ how → LanesOk how n.lanes → is_id_in (joined (cond (is_widened how) (ids_of (insts_of block n.lanes) ∷ bundles_of block ns) (bundles_of block ns))) x ≡ false →
          (is_id_in (joined (bundles_of block ns)) x ≡ false → bundle_of x (suc at) ns ≡ None) → bundle_of x at (n ∷ ns) ≡ None
      by_how (Reuse j) e w r more = ap (λ q. cond (is_widened q && is_first_lane x n.lanes) (Some (at, n.slots)) (bundle_of x (suc at) ns)) e ∙ more r
      by_how (Ident v) e w r more = ap (λ q. cond (is_widened q && is_first_lane x n.lanes) (Some (at, n.slots)) (bundle_of x (suc at) ns)) e ∙ more r
      by_how (Pack c) e w r more = ap (λ q. cond (is_widened q && is_first_lane x n.lanes) (Some (at, n.slots)) (bundle_of x (suc at) ns)) e ∙ more r
      by_how Widen e w r more =
          ap (λ q. cond (is_widened q && is_first_lane x n.lanes) (Some (at, n.slots)) (bundle_of x (suc at) ns)) e
          ∙ ap (λ b. cond b (Some (at, n.slots)) (bundle_of x (suc at) ns)) (never (is_first_lane x n.lanes) refl)
          ∙ more (or_right (is_id_in (ids_of (insts_of block n.lanes)) x) (is_id_in (joined (bundles_of block ns)) x) apart)
        where
          apart : (is_id_in (ids_of (insts_of block n.lanes)) x || is_id_in (joined (bundles_of block ns)) x) ≡ false
          apart = sym (any_append (ids_of (insts_of block n.lanes)) (joined (bundles_of block ns)) x) ∙ r

          never : (b : Bool) → is_first_lane x n.lanes ≡ b → b ≡ false
          never true t = absurd (true_false (sym (first_lane x n.lanes w t) ∙ or_left (is_id_in (ids_of (insts_of block n.lanes)) x) (is_id_in (joined (bundles_of block ns)) x) apart))
          never false t = refl

  -- ---- all lanes

  -- an id that is a lane of a widened node
  pub record IsLane (x : Id) : Type 0 where
    pub inst : Inst
    pub stands : find x block ≡ Some inst
    pub may : Removable inst
    pub near : is_among (looked_at block last) inst ≡ true

  lane_of : (x : Id) (lanes : List Opd) → Every LaneOk lanes → is_id_in (ids_of (insts_of block lanes)) x ≡ true → IsLane x
  lane_of x [] k h = absurd cc
  lane_of x (o ∷ os) k h = by_first (same_id x k.0.inst.id) refl (subst (λ l. is_id_in (ids_of (with_lane l (insts_of block os))) x ≡ true) (lane_inst o k.0) h) (lane_of x os k.1)
    where
      by_first : (b : Bool) → same_id x k.0.inst.id ≡ b → (b || is_id_in (ids_of (insts_of block os)) x) ≡ true → (is_id_in (ids_of (insts_of block os)) x ≡ true → IsLane x) → IsLane x
      by_first true t r more = record {
        inst = k.0.inst;
        stands = ap (λ v. find v block) (same_is x k.0.inst.id t ∙ same_is k.0.inst.id k.0.id (find_id k.0.id block k.0.inst k.0.stands)) ∙ k.0.stands;
        may = k.0.may;
        near = k.0.near;
      }
      by_first false t r more = more r

  pub lanes_are : (x : Id) (ns : List Node) → Every NodeOk ns → is_id_in (joined (bundles_of block ns)) x ≡ true → IsLane x
  lanes_are x [] k h = absurd cc
  lanes_are x (n ∷ ns) k h = by_how n.how k.0.widens h (lanes_are x ns k.1)
    where
      by_how : (how : How) → LanesOk how n.lanes → is_id_in (joined (cond (is_widened how) (ids_of (insts_of block n.lanes) ∷ bundles_of block ns) (bundles_of block ns))) x ≡ true →
          (is_id_in (joined (bundles_of block ns)) x ≡ true → IsLane x) → IsLane x
      by_how (Reuse j) w r more = more r
      by_how (Ident v) w r more = more r
      by_how (Pack c) w r more = more r
      by_how Widen w r more = by_both (is_id_in (ids_of (insts_of block n.lanes)) x) refl (sym (any_append (ids_of (insts_of block n.lanes)) (joined (bundles_of block ns)) x) ∙ r)
        where
          by_both : (b : Bool) → is_id_in (ids_of (insts_of block n.lanes)) x ≡ b → (b || is_id_in (joined (bundles_of block ns)) x) ≡ true → IsLane x
          by_both true t s = lane_of x n.lanes w t
          by_both false t s = more s

  pub nodes_known : (ns : List Node) → Every NodeOk ns → Every (NodeKnown globals base) ns
  nodes_known ns h = every_map NodeOk (NodeKnown globals base) (λ n k. (k.lanes, k.ident)) ns h
