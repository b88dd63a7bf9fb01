-- The module with a pair joined refines the module.
use Rattle.std.proofs.Common.{◌≡◌, refl, sym, ◌∙◌, subst, ℕ, zero, suc, Bool, true, false, ◌&&◌, Option, None, Some, List, [], ◌∷◌, inl, inr, cond, length, is_none, slice_get}
use Rattle.std.specs.List.{AllZip, list_all}
use Rattle.ir_types.specs.declared.id.Id.{Id}
use Rattle.ir_types.specs.declared.ty.Ty.{Ty}
use Rattle.ir_types.specs.declared.inst.Inst.{Inst}
use Rattle.ir_types.specs.declared.func.Param.{Param}
use Rattle.ir_types.specs.declared.func.Block.{Block}
use Rattle.ir_types.specs.declared.func.Func.{Func}
use Rattle.ir_types.specs.declared.module.Item.{Item}
use Rattle.ir_types.specs.declared.module.Item.TheVariants.{Kept, Opaque, Func as FuncItem}
use Rattle.ir_types.specs.declared.module.Module.{Module}
use Rattle.ir_model.specs.declared.value.Value.{Value}
use Rattle.ir_model.specs.declared.outcome.Outcome.{Outcome}
use Rattle.ir_model.specs.declared.outcome.Outcome.TheVariants.{Undefined}
use Rattle.ir_model.specs.Values.{Env}
use Rattle.ir_model.specs.Memory.{Memory}
use Rattle.ir_model.specs.Step.{State}
use Rattle.ir_model.specs.Run.{Ended, Stops, Returns, Goes, start_env, types_of, noalias_holds, functions_of, run_of}
use Rattle.ir_model.specs.Fits.{Fits}
use Rattle.ir_model.specs.Refines.{OutcomeRefines, SameParam, SameHeader, SameItem, ModuleRefines}
use Rattle.ir_model.proofs.Same.{memory_same, outcome_same, zip_same}
use Rattle.ir_model.proofs.NoCalls.{run_plain}
use Rattle.ir_model.proofs.Chain.{param_same, header_same, item_same}
use Rattle.ir_model.specs.CallFree.{run_insts, enter, end_on, run_blocks, run_func, run_found, plain_run_of}
use Rattle.vx_serial.specs.Pair.{is_straight, is_void, is_empty, is_first_param, is_one_block, is_first_func, leads_at_start, paired, or_same, pair_in_blocks, pair_in_func, pair_in_items, pair_of}
use Rattle.rf_pack.proofs.Known.{Known, start_offsets, known_at_start}
use Rattle.rf_pack.proofs.Statements.{both_true, true_of}
use Rattle.rf_pack.proofs.Straight.{IsFinal, straight_final, straight_untyped, enter_run, straight_no_phi}
use Rattle.rf_pack.proofs.Runs.{EndsBetter, paired_better, paired_no_phi}

-- a block that ends the run, and one that ends it better
end_refines : (new old : Ended) (more more_old : ℕ → State → Outcome) → EndsBetter new old → IsFinal old → OutcomeRefines (end_on new more) (end_on old more_old)
end_refines new old more more_old (inl stops) final = subst (λ e. OutcomeRefines (end_on new more) (end_on e more_old)) (sym stops) tt
end_refines new old more more_old (inr same) final = subst (λ e. OutcomeRefines (end_on e more) (end_on old more_old)) (sym same) (by_end old final)
  where
    by_end : (e : Ended) → IsFinal e → OutcomeRefines (end_on e more) (end_on e more_old)
    by_end Stops final = tt
    by_end (Returns v m) final = outcome_same (end_on (Returns v m) more)
    by_end (Goes to s) final = elim final [ ]

-- straight code with its first pair joined, where there is one, from the start of its block
block_better : (t u : Id → Ty) (start : Env) (params : List Param) (insts : List Inst) (from : Option ℕ) (m : Memory) →
    is_straight insts ≡ true → Known start (leads_at_start params) start → (o : Option (List Inst)) → paired (leads_at_start params) insts ≡ o →
    EndsBetter (enter u from start (or_same insts o) (record { env = start; memory = m })) (enter t from start insts (record { env = start; memory = m }))
block_better t u start params insts from m h k None e =
    inr (enter_run u from start insts _ (straight_no_phi insts h)
    ∙ straight_untyped u t insts (record { env = start; memory = m }) h
    ∙ sym (enter_run t from start insts _ (straight_no_phi insts h)))
block_better t u start params insts from m h k (Some new) e =
    by_runs (enter u from start new (record { env = start; memory = m })) (enter t from start insts (record { env = start; memory = m }))
    (enter_run u from start new _ (paired_no_phi insts (leads_at_start params) new h e))
    (enter_run t from start insts _ (straight_no_phi insts h) ∙ straight_untyped t u insts (record { env = start; memory = m }) h)
    (paired_better u start insts (leads_at_start params) new start m h e k)
  where
    by_runs : (a b : Ended) → a ≡ run_insts u new (record { env = start; memory = m }) → b ≡ run_insts u insts (record { env = start; memory = m }) →
        EndsBetter (run_insts u new (record { env = start; memory = m })) (run_insts u insts (record { env = start; memory = m })) → EndsBetter a b
    by_runs a b ea eb (inl stops) = inl (eb ∙ stops)
    by_runs a b ea eb (inr same) = inr (ea ∙ same ∙ sym eb)

blocks_refine : (t u : Id → Ty) (start : Env) (params : List Param) (blocks : List Block) (m : Memory) (bound : ℕ) →
    is_one_block blocks ≡ true → Known start (leads_at_start params) start →
    OutcomeRefines
    (run_blocks u (pair_in_blocks params blocks) bound None 0 (record { env = start; memory = m }))
    (run_blocks t blocks bound None 0 (record { env = start; memory = m }))
blocks_refine t u start params [] m bound h k = absurd (true_of h)
blocks_refine t u start params (b ∷ c ∷ bs) m bound h k = absurd (true_of h)
blocks_refine t u start params (b ∷ []) m zero h k = memory_same m
blocks_refine t u start params (b ∷ []) m (suc bound) h k =
    end_refines _ (enter t None start b.insts (record { env = start; memory = m })) _ _
    (block_better t u start params b.insts None m straight k (paired (leads_at_start params) b.insts) refl)
    (subst IsFinal (sym (enter_run t None start b.insts _ (straight_no_phi b.insts straight))) (straight_final t b.insts _ straight))
  where
    straight : is_straight b.insts ≡ true
    straight = (both_true (is_none b.name) (is_straight b.insts) h).1

func_refines : (m : Module) (f : Func) (args : List Value) (memory : Memory) (bound : ℕ) → Fits m f args memory → (b : Bool) → is_first_func f ≡ b →
    OutcomeRefines (run_func (length m.globals) (cond b (pair_in_func f) f) args memory bound) (run_func (length m.globals) f args memory bound)
func_refines m f args memory bound fits false first = outcome_same (run_func (length m.globals) f args memory bound)
func_refines m f args memory bound fits true first = by_noalias (noalias_holds (length m.globals) [] f.params args)
  where
    one : is_one_block f.blocks ≡ true
    one = (both_true (is_empty f.before && is_void f.ret && list_all is_first_param f.params && is_empty f.after) (is_one_block f.blocks) first).1

    by_noalias : (b : Bool) → OutcomeRefines
        (cond b (run_blocks (types_of (pair_in_func f)) (pair_in_blocks f.params f.blocks) bound None 0 (record { env = start_env f.params args; memory = memory })) Undefined)
        (cond b (run_blocks (types_of f) f.blocks bound None 0 (record { env = start_env f.params args; memory = memory })) Undefined)
    by_noalias false = tt
    by_noalias true =
        blocks_refine (types_of f) (types_of (pair_in_func f)) (start_env f.params args) f.params f.blocks memory bound one
        (known_at_start (start_env f.params args) f.params (start_offsets (length memory) f.params args fits.typed))

items_same : (items : List Item) → AllZip SameItem (pair_in_items items) items
items_same [] = tt
items_same (Kept text ∷ items) = zip_same SameItem item_same (Kept text ∷ items)
items_same (Opaque text ∷ items) = zip_same SameItem item_same (Opaque text ∷ items)
items_same (FuncItem f ∷ i ∷ items) = zip_same SameItem item_same (FuncItem f ∷ i ∷ items)
items_same (FuncItem f ∷ []) = (by_test (is_first_func f), tt)
  where
    by_test : (b : Bool) → SameHeader (cond b (pair_in_func f) f) f
    by_test true = record { before = refl; ret = refl; name = refl; params = zip_same SameParam param_same f.params; after = refl }
    by_test false = header_same f

runs_refine : (m : Module) (items : List Item) (func : ℕ) (f : Func) → slice_get (functions_of items) func ≡ Some f →
    (args : List Value) (memory : Memory) → Fits m f args memory → (bound : ℕ) →
    OutcomeRefines
    (run_found (length m.globals) (slice_get (functions_of (pair_in_items items)) func) args memory bound)
    (run_found (length m.globals) (slice_get (functions_of items) func) args memory bound)
runs_refine m [] func f found args memory fits bound = outcome_same (run_found (length m.globals) (slice_get (functions_of []) func) args memory bound)
runs_refine m (Kept text ∷ items) func f found args memory fits bound = outcome_same (run_found (length m.globals) (slice_get (functions_of (Kept text ∷ items)) func) args memory bound)
runs_refine m (Opaque text ∷ items) func f found args memory fits bound = outcome_same (run_found (length m.globals) (slice_get (functions_of (Opaque text ∷ items)) func) args memory bound)
runs_refine m (FuncItem g ∷ i ∷ items) func f found args memory fits bound = outcome_same (run_found (length m.globals) (slice_get (functions_of (FuncItem g ∷ i ∷ items)) func) args memory bound)
runs_refine m (FuncItem g ∷ []) (suc func) f found args memory fits bound = tt
runs_refine m (FuncItem g ∷ []) zero f found args memory fits bound =
    func_refines m g args memory bound (subst (λ (h : Func). Fits m h args memory) (sym (same found)) fits) (is_first_func g) refl
  where
    same : Some g ≡ Some f → g ≡ f
    same e = cc

pub pair_refines-proof : (m : Module) → ModuleRefines (pair_of m) m
pair_refines-proof m = record {
  items = items_same m.items;
  runs = λ func f found args memory fits bound.
      subst (λ o. OutcomeRefines o (run_of m func args memory bound)) (sym (run_plain (pair_of m) func args memory bound))
      (subst (λ o. OutcomeRefines (plain_run_of (pair_of m) func args memory bound) o) (sym (run_plain m func args memory bound))
      (runs_refine m m.items func f found args memory fits bound));
}
