-- The instruction that a well typed statement is, in a function whose values, blocks and edges are those of its lines, is formed.
use Rattle.std.proofs.Common.{◌≡◌, ℕ, ◌<◌, Bool, true, ◌&&◌, List, [], ◌∷◌, length, map, Option, refl, sym, ◌∙◌, ap, subst, arith}
use Rattle.std.proofs.lemmas.Bool.Decides.{nat_tests}
use Rattle.std.specs.List.{All, list_all}
use Rattle.std.proofs.lemmas.List.Elements.{All-nil, All-cons, All-append}
use Rattle.ir_types.specs.declared.ty.Ty.{Ty}
use Rattle.ir_types.specs.declared.op.Op.{Op}
use Rattle.ir_types.specs.declared.op.Op.TheVariants as ops
use Rattle.ir_types.specs.declared.inst.Inst.{Inst}
use Rattle.ir_types.specs.declared.func.Func.{Func}
use Rattle.ir_types.specs.declared.module.Module.{Module}
use Rattle.ir_types.specs.Available.{op_targets, graph_of}
use Rattle.ir_types.specs.Walks.{targets_at}
use Rattle.ir_types.specs.Typed.{IsTyped}
use Rattle.ir_types.specs.Formed.{opd_ty, IsOpd, is_alloca, IsTarget, IsIncoming, IsCalling, IsFormedInst}
use Rattle.ir_draft.specs.declared.stmt.Stmt.{Stmt}
use Rattle.ir_draft.specs.declared.draft.Numbered.{Numbered}
use Rattle.ir_line.specs.Sound.{HasPlaces, IsCallOp, written_types}
use Rattle.ir_line.proofs.WholeLines.{ArePlaced}
use Rattle.ir_line.proofs.Bodies.{stage_after, begun}
use Rattle.ir_types_check.specs.declared.outline.At.{At}
use Rattle.ir_types_check.specs.declared.locals.Meaning.{Meaning}
use Rattle.ir_types_check.specs.declared.tops.Top.{Top}
use Rattle.ir_types_check.specs.declared.links.Linked.{Linked}
use Rattle.ir_types_check.specs.declared.links.Cases.{Cases}
use Rattle.ir_types_check.specs.declared.building.Built.{Built}
use Rattle.ir_types_check.specs.Answers.{well_typed}
use Rattle.ir_types_check.specs.Scope.{Scope}
use Rattle.ir_types_check.specs.Outline.{block_here}
use Rattle.ir_types_check.specs.Links.{op_of}
use Rattle.ir_types_check.specs.Typed.{arg_fits, number_at, targets, is_target, case_targets, sources_at, count, same_blocks, agree, op_fits, stmt_fits}
use Rattle.ir_types_check.proofs.Binding.{bind_ok, both, typed_line}
use Rattle.ir_types_check.proofs.BodyBlocks.{IsInst, IsStep}
use Rattle.ir_types_check.proofs.BodyLinks.{Means, IsKnown, AreLinked, links_are, AreTargets, targets_are}
use Rattle.ir_types_check.proofs.BodyTypes.{IsThere, opds_typed, FitIfSwitch, op_typed}
use Rattle.ir_types_check.proofs.BodyCases.{cases_fit}
use Rattle.ir_types_check.proofs.BodyEdges.{hits}
use Rattle.ir_types_check.proofs.BodyPhis.{incoming_counts, bring_equal}

-- what is known of the whole function
pub record IsWholeFunc (m : Module) (func : Func) (tops : Scope Top) (locals : Scope Meaning) (edges : List (List ℕ)) (base : ℕ) : Type 0 where
  pub there : IsThere m func tops locals base
  -- a name of a block means one, and no other name means it
  pub below : (name : List ℕ) (k : ℕ) → Means locals name k → k < length func.blocks
  pub once : (a b : List ℕ) (k : ℕ) → Means locals a k → Means locals b k → a ≡ b
  -- the sources are those of the graph
  pub edged : (c to : ℕ) → to < length func.blocks → count c (sources_at edges to) ≡ hits to (targets_at (graph_of func) c)

all_pass : {X : Type 0} (t : X → Bool) (xs : List X) → list_all t xs ≡ true → All (λ x. t x ≡ true) xs
all_pass t [] e = All-nil (λ x. t x ≡ true)
all_pass t (x ∷ xs) e = let p : (t x ≡ true) × (list_all t xs ≡ true) = both (t x) (list_all t xs) e in All-cons (λ x. t x ≡ true) x xs p.0 (all_pass t xs p.1)

targets_fit : (tops : Scope Top) (locals : Scope Meaning) (ret : Ty) (edges : List (List ℕ)) (here : ℕ) (s : Stmt) (op : Op) → op_fits tops locals ret edges here s op ≡ true →
    All (λ t. is_target t ≡ true) (targets locals s.labels op)
targets_fit tops locals ret edges here s (ops.Br to) e = all_pass is_target (targets locals s.labels (ops.Br to)) e
targets_fit tops locals ret edges here s (ops.CondBr first second) e = all_pass is_target (targets locals s.labels (ops.CondBr first second)) e
targets_fit tops locals ret edges here s (ops.Switch other cases to) e = all_pass is_target (targets locals s.labels (ops.Switch other cases to)) e
targets_fit tops locals ret edges here s _ e = All-nil (λ t. is_target t ≡ true)

above : (t : ℕ) → is_target t ≡ true → 0 < t
above t e = grind (arith, nat_tests)

alloca_same : (blocks : List ℕ) (cases : Cases) (op : Op) → is_alloca (op_of blocks cases op) ≡ is_alloca op
alloca_same blocks cases (ops.Phi places) = refl
alloca_same blocks cases (ops.Br to) = refl
alloca_same blocks cases (ops.CondBr first second) = refl
alloca_same blocks cases (ops.Switch other values to) = refl
alloca_same blocks cases _ = refl

no_calling : (m : Module) (blocks : List ℕ) (cases : Cases) (op : Op) (t : Ty) (tys : List (Option Ty)) → (IsCallOp op → ⊥) → IsCalling m (op_of blocks cases op) t tys
no_calling m blocks cases (ops.Call site) t tys uncalled = absurd (uncalled tt)
no_calling m blocks cases (ops.Phi places) t tys uncalled = tt
no_calling m blocks cases (ops.Br to) t tys uncalled = tt
no_calling m blocks cases (ops.CondBr first second) t tys uncalled = tt
no_calling m blocks cases (ops.Switch other values to) t tys uncalled = tt
no_calling m blocks cases _ t tys uncalled = tt

module _ (m : Module) (func : Func) (tops : Scope Top) (locals : Scope Meaning) (edges : List (List ℕ)) (base : ℕ) (w : IsWholeFunc m func tops locals edges base) where
  incoming_fits : (n here : ℕ) (s : Stmt) (l : Linked) (cases : Cases) (op : Op) → here < length func.blocks → AreLinked tops locals base n s.args s.labels l → HasPlaces op (length s.labels) →
      ArePlaced op s.labels s.args → op_fits tops locals func.ret edges here s op ≡ true → IsIncoming func here (op_of l.blocks cases op) l.opds
  incoming_fits n here s l cases (ops.Phi places) less links has placed e =
      let a : (is_target here && same_blocks (map (number_at locals s.labels) places) (sources_at edges here) ≡ true) × (agree [] s.labels s.args ≡ true) =
      both (is_target here && same_blocks (map (number_at locals s.labels) places) (sources_at edges here)) (agree [] s.labels s.args) e in
      let b : (is_target here ≡ true) × (same_blocks (map (number_at locals s.labels) places) (sources_at edges here) ≡ true) =
      both (is_target here) (same_blocks (map (number_at locals s.labels) places) (sources_at edges here)) a.0 in (
        λ c. incoming_counts locals s.labels l.blocks places (sources_at edges here) links.blocks has b.1 c ∙ w.edged c here less,
        λ i j k. bring_equal tops locals base n s.labels s.args l.blocks l.opds places placed links.blocks links.opds w.once a.1 i j k,
      )
  incoming_fits n here s l cases (ops.Br to) less links has placed e = tt
  incoming_fits n here s l cases (ops.CondBr first second) less links has placed e = tt
  incoming_fits n here s l cases (ops.Switch other values to) less links has placed e = tt
  incoming_fits n here s l cases _ less links has placed e = tt

  target_is : (t : ℕ) → is_target t ≡ true → IsKnown locals t → IsTarget func t
  target_is t e k = (above t e, w.below k.0 t k.1)

  all_targets : (ts : List ℕ) → All (λ t. is_target t ≡ true) ts → All (IsKnown locals) ts → All (IsTarget func) ts
  all_targets ts e k = λ i d less. target_is _ (e i d less) (k i d less)

  -- a statement, and its instruction, which stands in a block of the function
  pub formed_inst : (at : At) (b : Built) (k : ℕ) (s : Stmt) (rest : List Numbered) (inst : Inst) → IsStep tops locals func.ret edges base at b k s rest inst → length b.blocks < length func.blocks →
      (position : ℕ) → IsFormedInst m func (length b.blocks) position inst
  formed_inst at b k s rest inst step less position =
      bind_ok (well_typed k (stmt_fits tops locals func.ret edges (block_here at) s)) _ step.unit step.typed (λ v was now.
      let fits : (list_all (arg_fits locals) s.args ≡ true) × (op_fits tops locals func.ret edges (block_here at) s s.op ≡ true) =
      both (list_all (arg_fits locals) s.args) (op_fits tops locals func.ret edges (block_here at) s s.op) (typed_line k (stmt_fits tops locals func.ret edges (block_here at) s) v was) in
      let p : IsInst tops locals base (length b.lines) k s rest inst = step.parts in
      let links : AreLinked tops locals base k s.args s.labels p.links = links_are tops locals base k s p.links step.stands.uncalled step.stands.whole.placed p.linked_is in
      let own : AreTargets locals s.labels p.links.blocks p.cases s.op rest = targets_are locals s.labels p.links.blocks p.cases s.op rest links.blocks step.stands.sound.places p.cases_is in
      let c : FitIfSwitch s.op s.args p.cases × All (λ t. is_target t ≡ true) (case_targets locals s.op rest) =
      cases_fit locals (stage_after s.op) (begun step.st step.n) s s.op rest p.cases step.unit step.later p.cases_is now in
      let opds : (map (opd_ty m func) p.links.opds ≡ written_types s.args) × All IsOpd p.links.opds =
      opds_typed m func tops locals base k w.there s.args p.links.opds links.opds fits.0 step.stands.sound.literals step.stands.whole.pointed in
      let tys : map (opd_ty m func) inst.opds ≡ written_types s.args = ap (map (opd_ty m func)) p.opds ∙ opds.0 in
      let typed : IsTyped func.ret (op_of p.links.blocks p.cases s.op) s.ty (written_types s.args) =
      op_typed tops locals func.ret edges (block_here at) s p.links.blocks p.cases s.op step.stands.uncalled step.stands.sound.typed fits.1 c.0 in
      let targeted : All (λ t. is_target t ≡ true) (op_targets (op_of p.links.blocks p.cases s.op)) =
      subst (All (λ t. is_target t ≡ true)) (sym own.same)
      (All-append (λ t. is_target t ≡ true) (targets locals s.labels s.op) (case_targets locals s.op rest) (targets_fit tops locals func.ret edges (block_here at) s s.op fits.1) c.1) in
      let incoming : IsIncoming func (block_here at) (op_of p.links.blocks p.cases s.op) p.links.opds =
      incoming_fits k (block_here at) s p.links p.cases s.op (subst (λ x. x < length func.blocks) (sym step.here) less) links step.stands.sound.places step.stands.whole.placed fits.1 in
      let here : IsIncoming func (length b.blocks) (op_of p.links.blocks p.cases s.op) p.links.opds = subst (λ x. IsIncoming func x (op_of p.links.blocks p.cases s.op) p.links.opds) step.here incoming in
      record {
        operands = subst (All IsOpd) (sym p.opds) opds.1;
        typed =
            subst (λ o. IsTyped func.ret o inst.ty (map (opd_ty m func) inst.opds)) (sym p.op)
            (subst (λ t. IsTyped func.ret (op_of p.links.blocks p.cases s.op) t (map (opd_ty m func) inst.opds)) (sym p.ty)
            (subst (λ ts. IsTyped func.ret (op_of p.links.blocks p.cases s.op) s.ty ts) (sym tys) typed));
        targets = subst (λ o. All (IsTarget func) (op_targets o)) (sym p.op) (all_targets (op_targets (op_of p.links.blocks p.cases s.op)) targeted own.known);
        incoming = subst (λ o. IsIncoming func (length b.blocks) o inst.opds) (sym p.op) (subst (λ os. IsIncoming func (length b.blocks) (op_of p.links.blocks p.cases s.op) os) (sym p.opds) here);
        calling = subst (λ o. IsCalling m o inst.ty (map (opd_ty m func) inst.opds)) (sym p.op) (no_calling m p.links.blocks p.cases s.op inst.ty (map (opd_ty m func) inst.opds) step.stands.uncalled);
        allocas = λ e.
            let first : begun step.st step.n ≡ 1 = step.stands.first (sym (alloca_same p.links.blocks p.cases s.op) ∙ ap is_alloca (sym p.op) ∙ e) in
            omega (arith, first, step.begins);
      })
