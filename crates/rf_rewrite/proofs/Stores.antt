-- The stores of a region are lanes of its tree, where its root is widened.
use Rattle.std.proofs.Common.{◌≡◌, refl, sym, ap, ◌∙◌, subst, ℕ, ◌+◌, ◌≤◌, Bool, true, false, ◌||◌, Some, List, [], ◌∷◌, cond, arith, length}
use Rattle.ir_types.specs.declared.id.Id.{Id}
use Rattle.ir_types.specs.declared.opd.Opd.{Opd}
use Rattle.ir_types.specs.declared.opd.Opd.TheVariants.{Val}
use Rattle.ir_types.specs.declared.inst.Inst.{Inst}
use Rattle.ir_types.specs.declared.module.Module.{Module}
use Rattle.ir_types.specs.Available.{same_id}
use Rattle.ir_types.specs.Formed.{IsFormed, ids_of as module_ids}
use Rattle.ir_types.proofs.Formed.{Every}
use Rattle.ir_types.proofs.Among.{same_is, same_itself}
use Rattle.vx_view.specs.Answers.{find}
use Rattle.sb_uses.specs.Totals.{id_times}
use Rattle.vx_serial.specs.declared.node.How.TheVariants.{Widen}
use Rattle.vx_serial.specs.declared.node.Node.{Node}
use Rattle.vx_serial.specs.Window.{joined}
use Rattle.vx_serial.specs.Bundles.{ids_of}
use Rattle.vx_serial.specs.Legal.{is_widened, insts_of, bundles_of}
use Rattle.vx_serial.specs.Tree.{values_of, last_in, tree_in}
use Rattle.vx_serial.specs.Rewriting.{is_id_in}
use Rattle.rf_rewrite.specs.Rewritten.{is_root_widened}
use Rattle.rf_rewrite.proofs.Contexts.{Context, plug, times, around, ids_plug}
use Rattle.rf_rewrite.proofs.Window.{Known, find_id}
use Rattle.rf_rewrite.proofs.Gone.{Removable}
use Rattle.rf_rewrite.proofs.Trees.{any_append, LaneOk, LanesOk, NodeOk, TreeOk, tree_ok, IsLane, lanes_are}
use Rattle.rf_rewrite.proofs.Blocks.{times_few, operands_known}
use Rattle.rf_rewrite.proofs.Roots.{Root, tree_root}

module _ (c : Context) (block : List Inst) (s : Id) (stores : List Id) where
  abbrev whole : Module
  whole = plug c block

  abbrev base : Id → ℕ
  base y = id_times y (module_ids whole)

  abbrev last : Id
  last = last_in (s ∷ stores) s block

  abbrev tree : List Node
  tree = tree_in whole block last (s ∷ stores)

  abbrev bundles : List (List Id)
  bundles = bundles_of block tree

  abbrev lanes : List Id
  lanes = joined bundles

  module _ (formed : IsFormed whole) (each : Every (λ y. 1 ≤ times y block) (s ∷ stores)) (root : is_root_widened tree ≡ true) where
    pub few : (y : Id) → around c y + times y block ≤ 1
    few = times_few c block formed

    pub few_in : (y : Id) → times y block ≤ 1
    few_in y = let le = few y in omega (arith, le)

    pub in_base : (y : Id) → 1 ≤ times y block → 1 ≤ base y
    in_base y some = let ids = ids_plug c block y in omega (arith, ids, some)

    stores_known : (xs : List Id) → Every (λ y. 1 ≤ times y block) xs → Every (Known (length c.globals) base) (values_of xs)
    stores_known [] h = tt
    stores_known (y ∷ xs) h = (in_base y h.0, stores_known xs h.1)

    pub ok : TreeOk (length c.globals) base whole block last (λ y. refl) (operands_known c block formed) tree
    ok = tree_ok (length c.globals) base whole block last (λ y. refl) (operands_known c block formed) (s ∷ stores) (stores_known (s ∷ stores) each)

    pub lane_is : (y : Id) → is_id_in lanes y ≡ true → IsLane (length c.globals) base whole block last (λ y. refl) (operands_known c block formed) y
    lane_is y h = lanes_are (length c.globals) base whole block last (λ y. refl) (operands_known c block formed) y tree ok.nodes h

    -- the stores are lanes
    root_is : Root (values_of (s ∷ stores)) Widen tree
    root_is = tree_root whole block last (s ∷ stores) root

    abbrev Ok : Node → Type 0
    Ok = NodeOk (length c.globals) base whole block last (λ y. refl) (operands_known c block formed)

    abbrev pub Lane : Opd → Type 0
    Lane = LaneOk (length c.globals) base whole block last (λ y. refl) (operands_known c block formed)

    pub root_lanes : Every Lane (values_of (s ∷ stores))
    root_lanes =
        subst (Every Lane) root_is.lanes
        (subst (λ h. LanesOk (length c.globals) base whole block last (λ y. refl) (operands_known c block formed) h root_is.first.lanes) root_is.had
        (subst (Every Ok) root_is.is ok.nodes).0.widens)

    value_is : (y z : Id) → Val y ≡ Val z → y ≡ z
    value_is y z e = cc

    -- a store is found, and may be removed
    pub store_of : (xs : List Id) → Every Lane (values_of xs) → (y : Id) → is_id_in xs y ≡ true → (i : Inst) × (find y block ≡ Some i) × Removable i
    store_of [] k y h = absurd cc
    store_of (z ∷ xs) k y h = by_test (same_id y z) refl h (store_of xs k.1 y)
      where
        by_test : (b : Bool) → same_id y z ≡ b → (b || is_id_in xs y) ≡ true → (is_id_in xs y ≡ true → (i : Inst) × (find y block ≡ Some i) × Removable i) → (i : Inst) × (find y block ≡ Some i) × Removable i
        by_test true e r more = (k.0.inst, ap (λ v. find v block) (same_is y z e ∙ value_is z k.0.id k.0.value) ∙ k.0.stands, k.0.may)
        by_test false e r more = more r

    pub store_in : (xs : List Id) → Every Lane (values_of xs) → (y : Id) → is_id_in xs y ≡ true → is_id_in (ids_of (insts_of block (values_of xs))) y ≡ true
    store_in [] k y h = absurd cc
    store_in (z ∷ xs) k y h = subst (λ o. is_id_in (ids_of (Rattle.vx_serial.specs.Legal.with_lane o (insts_of block (values_of xs)))) y ≡ true) (sym at) (by_test (same_id y z) refl h (store_in xs k.1 y))
      where
        same : z ≡ k.0.id
        same = value_is z k.0.id k.0.value

        at : find z block ≡ Some k.0.inst
        at = ap (λ v. find v block) same ∙ k.0.stands

        inst_is : k.0.inst.id ≡ z
        inst_is = same_is k.0.inst.id z (find_id z block k.0.inst at)

        later : (a b : Bool) → b ≡ true → (a || b) ≡ true
        later true b e = refl
        later false b e = e

        by_test : (b : Bool) → same_id y z ≡ b → (b || is_id_in xs y) ≡ true → (is_id_in xs y ≡ true → is_id_in (ids_of (insts_of block (values_of xs))) y ≡ true) →
            (same_id y k.0.inst.id || is_id_in (ids_of (insts_of block (values_of xs))) y) ≡ true
        by_test true e r more = ap (λ v. same_id y v || is_id_in (ids_of (insts_of block (values_of xs))) y) inst_is ∙ ap (λ b. b || is_id_in (ids_of (insts_of block (values_of xs))) y) e
        by_test false e r more = later (same_id y k.0.inst.id) (is_id_in (ids_of (insts_of block (values_of xs))) y) (more r)

    bundles_root : bundles ≡ ids_of (insts_of block (values_of (s ∷ stores))) ∷ bundles_of block root_is.more
    bundles_root =
        ap (bundles_of block) root_is.is
        ∙ ap (λ h. cond (is_widened h) (ids_of (insts_of block root_is.first.lanes) ∷ bundles_of block root_is.more) (bundles_of block root_is.more)) root_is.had
        ∙ ap (λ os. ids_of (insts_of block os) ∷ bundles_of block root_is.more) root_is.lanes

    pub store_lane : (y : Id) → is_id_in (s ∷ stores) y ≡ true → is_id_in lanes y ≡ true
    store_lane y h =
        ap (λ bs. is_id_in (joined bs) y) bundles_root
        ∙ any_append (ids_of (insts_of block (values_of (s ∷ stores)))) (joined (bundles_of block root_is.more)) y
        ∙ ap (λ b. b || is_id_in (joined (bundles_of block root_is.more)) y) (store_in (s ∷ stores) root_lanes y h)

    pub first_in : is_id_in (s ∷ stores) s ≡ true
    first_in = ap (λ b. b || is_id_in stores s) (same_itself s)
