-- A block that goes on to another leaves a state in which that one is entered.
use Rattle.std.proofs.Common.{◌≡◌, refl, sym, ap, ◌∙◌, subst, ℕ, ◌+◌, ◌≤◌, ◌⊎◌, inl, inr, Bool, true, false, not, ◌&&◌, ◌||◌, cond, None, Some, List, [], ◌∷◌, ◌++◌, length, length-append, map, slice_get, arith}
use Rattle.ir_types.specs.declared.id.Id.{Id}
use Rattle.ir_types.specs.declared.ty.Ty.{Ty}
use Rattle.ir_types.specs.declared.ty.Ty.TheVariants.{Void}
use Rattle.ir_types.specs.declared.opd.Opd.{Opd}
use Rattle.ir_types.specs.declared.opd.Opd.TheVariants.{Val, Lit, Sym}
use Rattle.ir_types.specs.declared.op.Op.{Op}
use Rattle.ir_types.specs.declared.op.Op.TheVariants.{Alloca, Ret, Br, CondBr, Switch}
use Rattle.ir_types.specs.declared.inst.Inst.{Inst}
use Rattle.ir_types.specs.declared.func.Block.{Block}
use Rattle.ir_types.specs.declared.func.Func.{Func}
use Rattle.ir_types.specs.declared.module.Module.{Module}
use Rattle.ir_types.specs.Typed.{is_value}
use Rattle.ir_types.specs.Available.{defines, insts_at, stands_on}
use Rattle.ir_types.specs.Formed.{given_ty, value_ty, opd_ty, is_alloca, IsFormedInst}
use Rattle.ir_types.proofs.Among.{same_is}
use Rattle.ir_model.specs.declared.value.Value.{Value}
use Rattle.ir_model.specs.declared.value.Value.TheVariants.{Lane as LaneValue}
use Rattle.ir_model.specs.Values.{same_id, value_of}
use Rattle.ir_model.specs.Step.{State, Went, Lost, Halts, On, then_go, Reached, Calls, step}
use Rattle.ir_model.specs.Run.{Exit, To, exit_with, is_terminator, leave, run_insts, types_of}
use Rattle.ir_model.specs.Shapes.{HasShape, CallsKeepShapes}
use Rattle.ir_model.proofs.Ids.{value_type}
use Rattle.ir_model.proofs.Walked.{stands_enter, insts_found}
use Rattle.ir_model.proofs.Shaped.{gives_nothing}
use Rattle.vx_view.specs.Answers.{found}
use Rattle.vx_view.specs.Conflicts.{Allocated, Unknown, value_kind, kind_of}
use Rattle.rf_order.specs.Rows.{steps}
use Rattle.rf_order.specs.Ready.{Known, next, MayRunAll, has_kind, is_known, IsReady}
use Rattle.rf_order.specs.Blocks.{IsEntered, IsCut, ExitsAreEntered}
use Rattle.rf_order.proofs.Shapes.{never_kinds, step_ready}
use Rattle.rf_order.proofs.Refined.{insts_append}
use Rattle.rf_order.proofs.Blocks.{after_defines, defines_append, get_middle, of_items, item, once_all, once, func, entry, Earlier, back, on_body, all_run, entered_ready, ends_none}
use Rattle.vx_serial.proofs.Decided.{or_case, or_first, or_second, true_false}

-- ---- after instructions

abbrev pub all_next : Known → List Inst → Known
all_next k [] = k
all_next k (i ∷ is) = all_next (next k i) is

next_values : (is : List Inst) (k : Known) (x : Id) → (defines x is || k.values x) ≡ true → (all_next k is).values x ≡ true
next_values [] k x h = h
next_values (i ∷ is) k x h = next_values is (next k i) x (moved (same_id i.id x) (defines x is) (k.values x) h) where
  moved : (a b c : Bool) → ((a || b) || c) ≡ true → (b || (a || c)) ≡ true
  moved true b c h = or_second b true refl
  moved false b c h = h

pub ready_all : (m : Module) (f : Func) (walk : List ℕ) (at : ℕ) (b : Block) (phis insts : List Inst) (last : Inst) (cut : IsCut m f walk at b phis [] insts last []) (calls : Calls) → CallsKeepShapes m calls →
    (is : List Inst) (k : Known) (r p : Reached) → MayRunAll m f b.insts k is → IsReady m f b.insts k r.state → steps (types_of f) calls is r ≡ On p → IsReady m f b.insts (all_next k is) p.state
ready_all m f walk at b phis insts last cut calls keep [] k r p v g e = let same : r ≡ p = cc in subst (λ (p : Reached). IsReady m f b.insts k p.state) same g
ready_all m f walk at b phis insts last cut calls keep (i ∷ is) k r p v g e =
    by_step (step (types_of f) calls i r) refl e (λ q d e. ready_all m f walk at b phis insts last cut calls keep is (next k i) q p v.1 (step_ready m f cut.formed b.insts calls keep k i r q v.0 g d) e)
  where
    by_step : (w : Went Reached) → step (types_of f) calls i r ≡ w → then_go w (steps (types_of f) calls is) ≡ On p →
        ((q : Reached) → step (types_of f) calls i r ≡ On q → steps (types_of f) calls is q ≡ On p → IsReady m f b.insts (all_next (next k i) is) p.state) → IsReady m f b.insts (all_next (next k i) is) p.state
    by_step Lost d e more = absurd cc
    by_step (Halts n) d e more = absurd cc
    by_step (On q) d e more = more q d e

-- ---- a terminator leaves the state

pub goes_state : (op : Op) (vs : List Value) (s : State) (left to : ℕ) (q : Reached) → exit_with left (leave op vs s) ≡ On (To to q) → q.state ≡ s
goes_state (Br a) vs s left to q e = ap (state_of s) (sym e) where
  state_of : State → Went Exit → State
  state_of d (On (To to r)) = r.state
  state_of d _ = d
goes_state (CondBr a c) (LaneValue (Some n) ∷ []) s left to q e = ap (state_of s) (sym e) where
  state_of : State → Went Exit → State
  state_of d (On (To to r)) = r.state
  state_of d _ = d
goes_state (Switch other cases tos) (LaneValue (Some n) ∷ []) s left to q e = ap (state_of s) (sym e) where
  state_of : State → Went Exit → State
  state_of d (On (To to r)) = r.state
  state_of d _ = d
goes_state Ret [] s left to q e = absurd cc
goes_state Ret (v ∷ []) s left to q e = absurd cc
goes_state op vs s left to q e = absurd cc

no_alloca : (op : Op) → is_terminator op ≡ true → is_alloca op ≡ false
no_alloca (Alloca elem align) h = absurd (true_false (sym h))
no_alloca op h = refl

module _ (m : Module) (f : Func) (walk : List ℕ) (at : ℕ) (b : Block) (phis insts : List Inst) (last : Inst) (cut : IsCut m f walk at b phis [] insts last []) where
  abbrev Start : Known
  Start = entry m f walk at b phis [] insts last [] cut

  pub last_here : slice_get b.insts (length phis + length insts) ≡ Some last
  last_here = on_body m f walk at b phis [] insts last [] cut (length insts) last (get_middle insts [] last)

  pub formed_last : IsFormedInst m f at (length phis + length insts) last
  formed_last = ((func m f walk at b phis [] insts last [] cut).blocks at b cut.there).insts (length phis + length insts) last last_here

  pub last_type : value_ty f last.id ≡ Some (given_ty last.op last.ty)
  last_type = value_type f at b (length phis + length insts) last cut.there last_here (once m f walk at b phis [] insts last [] cut)

  last_kind : is_terminator last.op ≡ true → kind_of m (Val last.id) ≡ Unknown
  last_kind t =
      let it = item m f walk at b phis [] insts last [] cut in
      let s = of_items m.items it.0 f at b (length phis + length insts) last 0 it.1 cut.there last_here (once_all m f walk at b phis [] insts last [] cut) in
      ap (λ p. value_kind p (found m last.id)) s.0 ∙ ap (value_kind None) s.1.1 ∙ ap (λ (i : Inst). cond (is_alloca i.op) Allocated Unknown) s.1.2 ∙ ap (λ c. cond c Allocated Unknown) (no_alloca last.op t)

  pub long : length (insts_at f at) ≡ length phis + (length insts + 1)
  long =
      ap length (insts_found f at b cut.there ∙ cut.parts)
      ∙ (let l : length (phis ++ (insts ++ last ∷ [])) ≡ length phis + length (insts ++ last ∷ []) = length-append phis (insts ++ last ∷ []) in
      let u : length (insts ++ last ∷ []) ≡ length insts + 1 = length-append insts (last ∷ []) in omega arith)

  -- what stands at the block's end is known, or is what the terminator gives
  pub stood : (x : Id) → stands_on f x (length (insts_at f at)) walk ≡ true → (same_id last.id x ≡ true) ⊎ ((all_next Start insts).values x ≡ true)
  stood x h = by_body (defines x (insts ++ last ∷ [])) refl where
    in_body : (defines x insts ≡ true) ⊎ ((same_id last.id x || false) ≡ true) → (same_id last.id x ≡ true) ⊎ ((all_next Start insts).values x ≡ true)
    in_body (inl d) = inr (next_values insts Start x (or_first (defines x insts) (Start.values x) d))
    in_body (inr d) = inl (only (same_id last.id x) d) where
      only : (a : Bool) → a || false ≡ true → a ≡ true
      only true h = refl
      only false h = absurd cc

    room : length phis + (length insts + 1) ≤ length b.insts
    room = let l = long in let e : length (insts_at f at) ≡ length b.insts = ap length (insts_found f at b cut.there) in omega arith

    outside : defines x (insts ++ last ∷ []) ≡ false → (stands_on f x (length phis) walk ≡ true) ⊎ Earlier m f walk at b phis [] insts last [] cut x (length phis) (length phis + (length insts + 1)) →
        (same_id last.id x ≡ true) ⊎ ((all_next Start insts).values x ≡ true)
    outside d (inl s) = inr (next_values insts Start x (or_second (defines x insts) (Start.values x) (ap (λ t. not t && stands_on f x (length phis) walk) d ∙ s)))
    outside d (inr e) = absurd (true_false (sym (after_defines phis (insts ++ last ∷ []) e.place e.inst x (ap (λ is. slice_get is e.place) (sym cut.parts) ∙ e.here) e.from e.is) ∙ d))

    by_body : (t : Bool) → defines x (insts ++ last ∷ []) ≡ t → (same_id last.id x ≡ true) ⊎ ((all_next Start insts).values x ≡ true)
    by_body true d = in_body (or_case (defines x insts) (same_id last.id x || false) (sym (defines_append x insts (last ∷ [])) ∙ d))
    by_body false d =
        outside d (back m f walk at b phis [] insts last [] cut x walk cut.ends (length phis) (length insts + 1) room (ap (λ n. stands_on f x n walk) (sym long) ∙ h))

  module _ (calls : Calls) (keep : CallsKeepShapes m calls) (to : ℕ) (s : State) (end : is_terminator last.op ≡ true) (ready : IsReady m f b.insts (all_next Start insts) s) where
    abbrev Stands : Id → Bool
    Stands x = stands_on f x 0 (walk ++ to ∷ [])

    at_end : (x : Id) → stands_on f x 0 (walk ++ to ∷ []) ≡ true → (same_id last.id x ≡ true) ⊎ ((all_next Start insts).values x ≡ true)
    at_end x h = stood x (stands_enter f x walk at to cut.ends h)

    values : (x : Id) (t : Ty) → value_ty f x ≡ Some t → is_value t ≡ true → stands_on f x 0 (walk ++ to ∷ []) ≡ true → HasShape (length s.memory) t (s.env x)
    values x t e v h = by_case (at_end x h) where
      by_case : (same_id last.id x ≡ true) ⊎ ((all_next Start insts).values x ≡ true) → HasShape (length s.memory) t (s.env x)
      by_case (inr k) = ready.values x t e v k
      by_case (inl same) =
          let nothing : Some t ≡ Some Void = sym e ∙ ap (value_ty f) (sym (same_is last.id x same)) ∙ last_type ∙ ap Some (gives_nothing f last.op last.ty (map (opd_ty m f) last.opds) formed_last.typed end) in
          let void : t ≡ Void = cc in
          absurd (true_false (sym v ∙ ap is_value void))

    -- a root of a known kind is no terminator's
    root_known : (a : Opd) → is_known (length m.globals) (λ x. stands_on f x 0 (walk ++ to ∷ [])) a ≡ true → has_kind (kind_of m a) ≡ true → is_known (length m.globals) (all_next Start insts).values a ≡ true
    root_known (Val x) h kind = by_case (at_end x h) where
      by_case : (same_id last.id x ≡ true) ⊎ ((all_next Start insts).values x ≡ true) → (all_next Start insts).values x ≡ true
      by_case (inr k) = k
      by_case (inl same) = absurd (true_false (sym kind ∙ ap has_kind (ap (λ x. kind_of m (Val x)) (sym (same_is last.id x same)) ∙ last_kind end)))
    root_known (Lit l) h kind = refl
    root_known (Sym g) h kind = h

    entered_next : IsEntered m f (walk ++ to ∷ []) 0 s
    entered_next = record {
      shaped = record { values = values; globals = ready.globals };
      within = λ a h kind. ready.within a (root_known a h kind) kind;
      roots = λ a c ha hc differ never.
          (let kinds = never_kinds (kind_of m a) (kind_of m c) never in ready.roots a c (root_known a ha kinds.0) (root_known c hc kinds.1) differ never);
    }

pub exits_entered : ExitsAreEntered
exits_entered m f walk at b phis insts last cut calls keep r q to en e =
    by_steps (steps (types_of f) calls insts r) refl (sym (insts_append (types_of f) calls insts (last ∷ []) r (ends_none m f walk at b phis [] insts last [] cut)) ∙ e)
  where
    by_end : (p : Reached) → steps (types_of f) calls insts r ≡ On p → (t : Bool) → is_terminator last.op ≡ t →
        cond t (exit_with p.left (leave last.op (map (value_of p.state.env) last.opds) p.state)) (then_go (step (types_of f) calls last p) (run_insts (types_of f) calls [])) ≡ On (To to q) →
        IsEntered m f (walk ++ to ∷ []) 0 q.state
    by_end p d true t e =
        subst (IsEntered m f (walk ++ to ∷ []) 0) (sym (goes_state last.op (map (value_of p.state.env) last.opds) p.state p.left to q e))
        (entered_next m f walk at b phis insts last cut calls keep to p.state t
        (ready_all m f walk at b phis insts last cut calls keep insts (entry m f walk at b phis [] insts last [] cut) r p
        (all_run m f walk at b phis [] insts last [] cut insts [] (entry m f walk at b phis [] insts last [] cut) refl (λ z. refl) cut.no_phis (ends_none m f walk at b phis [] insts last [] cut))
        (entered_ready m f walk at b phis [] insts last [] cut r.state en) d))
    by_end p d false t e = none (step (types_of f) calls last p) e where
      none : (w : Went Reached) → then_go w (run_insts (types_of f) calls []) ≡ On (To to q) → IsEntered m f (walk ++ to ∷ []) 0 q.state
      none Lost e = absurd cc
      none (Halts n) e = absurd cc
      none (On s) e = absurd cc

    by_steps : (w : Went Reached) → steps (types_of f) calls insts r ≡ w → then_go w (run_insts (types_of f) calls (last ∷ [])) ≡ On (To to q) → IsEntered m f (walk ++ to ∷ []) 0 q.state
    by_steps Lost d e = absurd cc
    by_steps (Halts n) d e = absurd cc
    by_steps (On p) d e = by_end p d (is_terminator last.op) refl e
