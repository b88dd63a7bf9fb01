-- Where a block leads on, the walk is longer by one, and all that stands at the block's end is of its shape.
use Rattle.std.proofs.Common.{◌≡◌, refl, sym, ap, ◌∙◌, subst, ℕ, zero, suc, ◌+◌, ◌<◌, ◌⊎◌, inl, inr, Bool, true, false, cond, None, Some, List, [], ◌∷◌, ◌++◌, length, map, nat_eq, slice_get, arith}
use Rattle.std.specs.List.{Contains}
use Rattle.std.proofs.lemmas.List.Elements.{All-contains}
use Rattle.ir_types.specs.declared.id.Id.{Id}
use Rattle.ir_types.specs.declared.ty.Ty.{Ty}
use Rattle.ir_types.specs.declared.ty.Ty.TheVariants.{Void}
use Rattle.ir_types.specs.declared.op.Op.{Op}
use Rattle.ir_types.specs.declared.op.Op.TheVariants.{Ret, Br, CondBr, Switch}
use Rattle.ir_types.specs.declared.inst.Inst.{Inst}
use Rattle.ir_types.specs.declared.func.Block.{Block}
use Rattle.ir_types.specs.declared.func.Func.{Func}
use Rattle.ir_types.specs.declared.module.Module.{Module}
use Rattle.ir_types.specs.Typed.{is_value}
use Rattle.ir_types.specs.Walks.{HasEdge, IsWalk, EndsAt}
use Rattle.ir_types.specs.Available.{op_targets, graph_of, insts_at, stands_on}
use Rattle.ir_types.specs.Formed.{value_ty, opd_ty, IsTarget}
use Rattle.ir_types.proofs.Among.{same_is}
use Rattle.ir_model.specs.declared.value.Value.{Value}
use Rattle.ir_model.specs.declared.value.Value.TheVariants.{Lane as LaneValue}
use Rattle.ir_model.specs.Values.{Lane, same_id, value_of}
use Rattle.ir_model.specs.Step.{State, Went, Lost, Halts, On, then_go, Reached, step}
use Rattle.ir_model.specs.Run.{Exit, To, exit_with, is_terminator, chosen, leave, run_insts, types_of}
use Rattle.ir_model.specs.Shapes.{HasShape, IsShaped}
use Rattle.ir_model.proofs.Walked.{insts_found, targets_found, targets_last, length_graph, walk_more, ends_more, at_contained}
use Rattle.ir_model.proofs.Shaped.{gives_nothing}
use Rattle.rf_order.specs.Rows.{steps}
use Rattle.rf_order.specs.Ready.{Known, IsReady}
use Rattle.rf_order.specs.Blocks.{IsCut, CameFrom, ExitsLeadOn}
use Rattle.rf_order.proofs.Refined.{insts_append}
use Rattle.rf_order.proofs.Blocks.{entry, all_run, entered_ready, ends_none}
use Rattle.rf_order.proofs.Exits.{all_next, ready_all, goes_state, last_here, formed_last, last_type, long, stood}
use Rattle.vx_serial.proofs.Decided.{true_false}

-- ---- targets

further : (other to : ℕ) (tos : List ℕ) (y : ℕ) → (k : ℕ) × (slice_get (other ∷ tos) k ≡ Some y) → (k : ℕ) × (slice_get (other ∷ to ∷ tos) k ≡ Some y)
further other to tos y (zero, e) = (0, e)
further other to tos y (suc k, e) = (suc (suc k), e)

chosen_at : (n other : ℕ) (cases : List Lane) (tos : List ℕ) → (k : ℕ) × (slice_get (other ∷ tos) k ≡ Some (chosen n other cases tos))
chosen_at n other [] tos = (0, refl)
chosen_at n other (c ∷ cases) [] = by_case c where
  by_case : (c : Lane) → (k : ℕ) × (slice_get (other ∷ []) k ≡ Some (chosen n other (c ∷ cases) []))
  by_case None = (0, refl)
  by_case (Some c) = (0, refl)
chosen_at n other (None ∷ cases) (to ∷ tos) = further other to tos (chosen n other cases tos) (chosen_at n other cases tos)
chosen_at n other (Some c ∷ cases) (to ∷ tos) = by_test (nat_eq n c) (chosen_at n other cases tos) where
  by_test : (t : Bool) → (k : ℕ) × (slice_get (other ∷ tos) k ≡ Some (chosen n other cases tos)) → (k : ℕ) × (slice_get (other ∷ to ∷ tos) k ≡ Some (cond t to (chosen n other cases tos)))
  by_test true r = (1, refl)
  by_test false r = further other to tos (chosen n other cases tos) r

abbrev target_of : Went Exit → ℕ → ℕ
target_of (On (To to r)) d = to
target_of w d = d

goes_target : (op : Op) (vs : List Value) (s : State) (left to : ℕ) (q : Reached) → exit_with left (leave op vs s) ≡ On (To to q) → Contains (op_targets op) to
goes_target (Br a) vs s left to q e = subst (Contains (a ∷ [])) (ap (λ w. target_of w 0) e) (at_contained (a ∷ []) 0 a refl)
goes_target (CondBr a c) (LaneValue (Some n) ∷ []) s left to q e = subst (Contains (a ∷ c ∷ [])) (ap (λ w. target_of w 0) e) (by_test (nat_eq n 0)) where
  by_test : (t : Bool) → Contains (a ∷ c ∷ []) (cond t c a)
  by_test true = at_contained (a ∷ c ∷ []) 1 c refl
  by_test false = at_contained (a ∷ c ∷ []) 0 a refl
goes_target (Switch other cases tos) (LaneValue (Some n) ∷ []) s left to q e =
    let k = chosen_at n other cases tos in
    subst (Contains (other ∷ tos)) (ap (λ w. target_of w 0) e) (at_contained (other ∷ tos) k.0 (chosen n other cases tos) k.1)
goes_target Ret [] s left to q e = absurd cc
goes_target Ret (v ∷ []) s left to q e = absurd cc
goes_target op vs s left to q e = absurd cc

module _ (m : Module) (f : Func) (walk : List ℕ) (at : ℕ) (b : Block) (phis insts : List Inst) (last : Inst) (cut : IsCut m f walk at b phis [] insts last []) where
  abbrev Start : Known
  Start = entry m f walk at b phis [] insts last [] cut

  edge : (to : ℕ) → Contains (op_targets last.op) to → HasEdge (graph_of f) at to
  edge to h =
      let goes : IsTarget f to = All-contains (IsTarget f) (op_targets last.op) to (formed_last m f walk at b phis insts last cut).targets h in
      let less : to < length f.blocks = goes.1 in (
        subst (λ ts. Contains ts to) (sym (targets_found f at b cut.there ∙ targets_last b (length phis + length insts) last (last_here m f walk at b phis insts last cut) size)) h,
        subst (λ n. to < n) (sym (length_graph f)) less,
      )
    where
      size : length b.insts ≡ length phis + length insts + 1
      size =
          let l = long m f walk at b phis insts last cut in
          let e : length (insts_at f at) ≡ length b.insts = ap length (insts_found f at b cut.there) in omega arith

  shaped_end : (s : State) → is_terminator last.op ≡ true → IsReady m f b.insts (all_next Start insts) s → IsShaped m f walk (length (insts_at f at)) s
  shaped_end s end ready = record { values = values; globals = ready.globals } where
    values : (x : Id) (t : Ty) → value_ty f x ≡ Some t → is_value t ≡ true → stands_on f x (length (insts_at f at)) walk ≡ true → HasShape (length s.memory) t (s.env x)
    values x t e v h = by_case (stood m f walk at b phis insts last cut x h) where
      by_case : (same_id last.id x ≡ true) ⊎ ((all_next Start insts).values x ≡ true) → HasShape (length s.memory) t (s.env x)
      by_case (inr k) = ready.values x t e v k
      by_case (inl same) =
          let nothing : Some t ≡ Some Void = sym e ∙ ap (value_ty f) (sym (same_is last.id x same)) ∙ last_type m f walk at b phis insts last cut
          ∙ ap Some (gives_nothing f last.op last.ty (map (opd_ty m f) last.opds) (formed_last m f walk at b phis insts last cut).typed end) in
          let void : t ≡ Void = cc in
          absurd (true_false (sym v ∙ ap is_value void))

pub exits_lead : ExitsLeadOn
exits_lead m f walk at b phis insts last cut calls keep r q to en e =
    by_steps (steps (types_of f) calls insts r) refl (sym (insts_append (types_of f) calls insts (last ∷ []) r (ends_none m f walk at b phis [] insts last [] cut)) ∙ e)
  where
    by_end : (p : Reached) → steps (types_of f) calls insts r ≡ On p → (t : Bool) → is_terminator last.op ≡ t →
        cond t (exit_with p.left (leave last.op (map (value_of p.state.env) last.opds) p.state)) (then_go (step (types_of f) calls last p) (run_insts (types_of f) calls [])) ≡ On (To to q) →
        IsWalk (graph_of f) (walk ++ to ∷ []) × EndsAt (walk ++ to ∷ []) to × CameFrom m f (walk ++ to ∷ []) to (Some at) q.state
    by_end p d true t e =
        let has : HasEdge (graph_of f) at to = edge m f walk at b phis insts last cut to (goes_target last.op (map (value_of p.state.env) last.opds) p.state p.left to q e) in
        let ready = ready_all m f walk at b phis insts last cut calls keep insts (entry m f walk at b phis [] insts last [] cut) r p
        (all_run m f walk at b phis [] insts last [] cut insts [] (entry m f walk at b phis [] insts last [] cut) refl (λ z. refl) cut.no_phis (ends_none m f walk at b phis [] insts last [] cut))
        (entered_ready m f walk at b phis [] insts last [] cut r.state en) d in (
          walk_more (graph_of f) walk at to cut.walks cut.ends has,
          ends_more walk to,
          (
            walk,
            cut.walks,
            cut.ends,
            has,
            subst (IsShaped m f walk (length (insts_at f at))) (sym (goes_state last.op (map (value_of p.state.env) last.opds) p.state p.left to q e)) (shaped_end m f walk at b phis insts last cut p.state t ready),
          ),
        )
    by_end p d false t e = none (step (types_of f) calls last p) e where
      none : (w : Went Reached) → then_go w (run_insts (types_of f) calls []) ≡ On (To to q) → IsWalk (graph_of f) (walk ++ to ∷ []) × EndsAt (walk ++ to ∷ []) to × CameFrom m f (walk ++ to ∷ []) to (Some at) q.state
      none Lost e = absurd cc
      none (Halts n) e = absurd cc
      none (On s) e = absurd cc

    by_steps : (w : Went Reached) → steps (types_of f) calls insts r ≡ w → then_go w (run_insts (types_of f) calls (last ∷ [])) ≡ On (To to q) →
        IsWalk (graph_of f) (walk ++ to ∷ []) × EndsAt (walk ++ to ∷ []) to × CameFrom m f (walk ++ to ∷ []) to (Some at) q.state
    by_steps Lost d e = absurd cc
    by_steps (Halts n) d e = absurd cc
    by_steps (On p) d e = by_end p d (is_terminator last.op) refl e
