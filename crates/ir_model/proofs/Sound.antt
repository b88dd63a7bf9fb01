-- A run of a formed module keeps shapes, and is undefined for a cause alone: along a block, from block to block, from the start.
use Rattle.std.proofs.Common.{◌≡◌, refl, sym, ap, ◌∙◌, subst, ℕ, zero, suc, ◌+◌, ◌-◌, ◌<◌, ◌≤◌, if◌then◌else◌, Bool, true, false, ◌||◌, Option, None, Some, List, [], ◌∷◌, ◌++◌, length, map, drop, cond, slice_get, option_map, ◌⊎◌, inl, inr, arith}
use Rattle.std.specs.List.{AllZip, Contains, list_any}
use Rattle.std.proofs.lemmas.List.Elements.{All-contains}
use Rattle.std.proofs.lemmas.Option.{slice_get-map, slice_get-get_or}
use Rattle.ir_types.specs.declared.id.Id.{Id}
use Rattle.ir_types.specs.declared.ty.Ty.{Ty}
use Rattle.ir_types.specs.declared.ty.Ty.TheVariants.{Void, Int, Ptr, Row}
use Rattle.ir_types.specs.declared.opd.Opd.{Opd}
use Rattle.ir_types.specs.declared.opd.Opd.TheVariants.{Val}
use Rattle.ir_types.specs.declared.op.Op.{Op}
use Rattle.ir_types.specs.declared.op.Op.TheVariants.{Phi}
use Rattle.ir_types.specs.declared.inst.Inst.{Inst}
use Rattle.ir_types.specs.declared.func.Param.{Param}
use Rattle.ir_types.specs.declared.func.Block.{Block}
use Rattle.ir_types.specs.declared.func.Func.{Func}
use Rattle.ir_types.specs.declared.module.Item.{Item}
use Rattle.ir_types.specs.declared.module.Item.TheVariants.{Kept, Opaque, Func as FuncItem}
use Rattle.ir_types.specs.declared.module.Module.{Module}
use Rattle.ir_types.specs.Typed.{is_value, IsTyped}
use Rattle.ir_types.specs.Walks.{targets_at, HasEdge, IsWalk, EndsAt}
use Rattle.ir_types.specs.Available.{op_targets, targets_of, block_targets, graph_of, insts_at, walk_end, before_use, IsAvailableAt, IsAvailableFunc}
use Rattle.ir_types.specs.Formed.{given_ty, or_else, ty_in_params, ty_in_blocks, opd_ty, IsOpd, EndsOnce, PhisFirst, IsTarget, IsIncoming, IsCalling, item_ids, ids_of_items, IsFormedInst, IsFormedFunc, IsFormedItem, IsFormed}
use Rattle.ir_model.specs.declared.value.Value.{Value}
use Rattle.ir_model.specs.declared.value.Value.TheVariants.{Lane as LaneValue, Row as RowValue, Ptr as PtrValue}
use Rattle.ir_model.specs.declared.outcome.Outcome.TheVariants.{Returned, Undefined}
use Rattle.ir_model.specs.Values.{same_id, with_value, value_of, type_of}
use Rattle.ir_model.specs.Memory.{Memory}
use Rattle.ir_model.specs.Step.{State, Went, Lost, Halts, On, then_go, Back, Reached, Calls, act, set_result, reached_with, step}
use Rattle.ir_model.specs.Run.{Exit, Leaves, To, exit_with, is_terminator, is_phi, leave, arm_of, with_phi, reached_if, run_insts, enter, run_block, types_of, start_env, noalias_holds, Runs, Ties, no_calls, on_exit, turn_at, runs, outcome_of, run_found, functions_of}
use Rattle.ir_model.specs.Fits.{ValueFits, Fits}
use Rattle.ir_model.specs.Shapes.{HasShape, ResultHasShape, IsShaped, BackHasShape, CallsKeepShapes, IsReachedAt, StartsAreShaped, OperandsHaveShapes, StepsKeepShapes, ResultsHaveShapes}
use Rattle.ir_model.specs.Causes.{IsCause, CameTo, MeetsInsts, MeetsFrom, MeetsBlock, MeetsNext, MeetsAt, Meets, IsUndefinedFor, UndefinedHasCauses}
use Rattle.ir_types.proofs.Formed.{Every, every_of_all, every_at, IsValued}
use Rattle.ir_types.proofs.Among.{swapped}
use Rattle.ir_model.proofs.Acts.{BackRow, acts}
use Rattle.ir_types.proofs.Among.{Once, once_of_pairs}
use Rattle.ir_model.proofs.Ids.{func_once}
use Rattle.ir_model.proofs.Walked.{stands_enter, stands_start, walk_more, ends_more, drop_first, drop_length, ends_last, ends_rest, targets_found, insts_found, targets_last, length_graph, contained_at, at_contained, counted_at, Arm, arm_found}
use Rattle.ir_model.proofs.Shaped.{shape_more, result_shape, OpdShape, opd_shape, OpdsShape, inst_shape, next_shaped, LeftShape, leaves, gives_nothing}

true_false : true ≡ false → ⊥
true_false e = cc

-- ---- what blocks and functions come to

-- a block's end, on a walk that ends in the block
abbrev pub ExitShape : Module → Func → List ℕ → ℕ → ℕ → Exit → Type 0
ExitShape m f walk at objects (Leaves back) = BackHasShape f objects back
ExitShape m f walk at objects (To to r) =
    HasEdge (graph_of f) at to × IsShaped m f walk (length (insts_at f at)) r.state × (objects ≤ length r.state.memory)

abbrev pub BlockShape : Module → Func → List ℕ → ℕ → ℕ → Type 0 → Went Exit → Type 0
BlockShape m f walk at objects M Lost = M
BlockShape m f walk at objects M (Halts memory) = Unit {0}
BlockShape m f walk at objects M (On e) = ExitShape m f walk at objects e

abbrev pub FuncShape : Func → ℕ → Type 0 → Went Back → Type 0
FuncShape f objects M Lost = M
FuncShape f objects M (Halts memory) = Unit {0}
FuncShape f objects M (On back) = BackHasShape f objects back

-- where a function has come from: the start, or the end of a block with an edge to this one
abbrev pub Came : Module → Func → Option ℕ → ℕ → State → Type 0
Came m f None at edge = at ≡ 0
Came m f (Some from) at edge =
    (before : List ℕ) × IsWalk (graph_of f) before × EndsAt before from × HasEdge (graph_of f) from at × IsShaped m f before (length (insts_at f from)) edge

weaken : (m : Module) (f : Func) (walk : List ℕ) (at objects : ℕ) (M N : Type 0) (w : Went Exit) → (M → N) → BlockShape m f walk at objects M w → BlockShape m f walk at objects N w
weaken m f walk at objects M N Lost h z = h z
weaken m f walk at objects M N (Halts memory) h z = tt
weaken m f walk at objects M N (On e) h z = z

weaken_func : (f : Func) (objects : ℕ) (M N : Type 0) (w : Went Back) → (M → N) → FuncShape f objects M w → FuncShape f objects N w
weaken_func f objects M N Lost h z = h z
weaken_func f objects M N (Halts memory) h z = tt
weaken_func f objects M N (On e) h z = z

-- ---- one block

module _ (m : Module) (f : Func) (params : (g : Func) → Contains m.items (FuncItem g) → Every (λ (p : Param). is_value p.ty ≡ true) g.params)
    (formed : IsFormedFunc m f) (available : IsAvailableFunc f) (once : Once (item_ids (FuncItem f)))
    (calls : Calls) (keep : CallsKeepShapes m calls) where
  -- targets are blocks, and not the first
  target : (at x : ℕ) → Contains (targets_at (graph_of f) at) x → IsTarget f x
  target at x h = by_block (slice_get f.blocks at) refl
    where
      by_last : (b : Block) → slice_get f.blocks at ≡ Some b → (o : Option Inst) → slice_get b.insts (length b.insts - 1) ≡ o → Contains (targets_of o) x → IsTarget f x
      by_last b found None e c = nothing c where
        nothing : Contains [] x → IsTarget f x
        nothing c = absurd (let less = c.1 in omega arith)
      by_last b found (Some i) e c = All-contains (IsTarget f) (op_targets i.op) x ((formed.blocks at b found).insts (length b.insts - 1) i e).targets c

      by_block : (o : Option Block) → slice_get f.blocks at ≡ o → IsTarget f x
      by_block None found = absurd (let less = within h in omega arith)
        where
          none : slice_get (graph_of f) at ≡ None
          none = slice_get-map block_targets f.blocks at ∙ ap (option_map block_targets) found

          no_targets : targets_at (graph_of f) at ≡ []
          no_targets = get_or_none (graph_of f) at none where
            get_or_none : (xs : List (List ℕ)) (k : ℕ) → slice_get xs k ≡ None → targets_at xs k ≡ []
            get_or_none [] k e = refl
            get_or_none (x ∷ xs) zero e = absurd cc
            get_or_none (x ∷ xs) (suc k) e = get_or_none xs k e

          within : Contains (targets_at (graph_of f) at) x → 0 < 0
          within c = let d : Contains [] x = subst (λ ts. Contains ts x) no_targets c in let less = d.1 in omega arith
      by_block (Some b) found = by_last b found (slice_get b.insts (length b.insts - 1)) refl (subst (λ ts. Contains ts x) (targets_found f at b found) h)

  module _ (at : ℕ) (b : Block) (found : slice_get f.blocks at ≡ Some b) (walk : List ℕ) (walks : IsWalk (graph_of f) walk) (ends : EndsAt walk at) (objects : ℕ) where
    abbrev Types : Id → Ty
    Types = types_of f

    abbrev Values : Inst → Reached → List Value
    Values i r = map (value_of r.state.env) i.opds

    abbrev Cause : Inst → Reached → Type 0
    Cause i r = IsCause calls i.op i.ty (Values i r) r.state.memory r.left

    -- a terminator ends the block
    left_block : (k : ℕ) (i : Inst) → slice_get b.insts k ≡ Some i → length b.insts ≡ k + 1 → is_terminator i.op ≡ true → IsFormedInst m f at k i → (r : Reached) →
        objects ≤ length r.state.memory → IsShaped m f walk k r.state → (M : Type 0) (w : Went Exit) →
        LeftShape f calls i.op i.ty (Values i r) r.state r.left w → BlockShape m f walk at objects (Cause i r ⊎ M) w
    left_block k i here long e h r stay z M Lost l = inl l
    left_block k i here long e h r stay z M (Halts memory) l = elim l [ ]
    left_block k i here long e h r stay z M (On (Leaves back)) l = record {
      result = subst (λ (mem : Memory). ResultHasShape (length mem) f.ret back.result) (sym l.1) l.0;
      objects_stay = subst (λ (mem : Memory). objects ≤ length mem) (sym l.1) stay;
    }
    left_block k i here long e h r stay z M (On (To to q)) l = (
      (subst (λ ts. Contains ts to) (sym (targets_found f at b found ∙ targets_last b k i here long)) l.0, subst (λ n. to < n) (sym (length_graph f)) in_range),
      subst (λ s. IsShaped m f walk (length (insts_at f at)) s) (sym l.1) (subst (λ n. IsShaped m f walk n r.state) (sym (ap length (insts_found f at b found) ∙ long)) next),
      subst (λ (s : State). objects ≤ length s.memory) (sym l.1) stay,
    )
      where
        goes : IsTarget f to
        goes = All-contains (IsTarget f) (op_targets i.op) to h.targets l.0

        in_range : to < length f.blocks
        in_range = goes.1

        next : IsShaped m f walk (k + 1) r.state
        next =
            next_shaped m f params available once at b found walk ends k i here r.state z None r.state.memory
            (subst (λ u. ResultHasShape (length r.state.memory) u None) (sym (gives_nothing f i.op i.ty (map (opd_ty m f) i.opds) h.typed e)) tt) (omega arith)

    -- a step goes on
    step_block : (k : ℕ) (i : Inst) (js : List Inst) → slice_get b.insts k ≡ Some i → (r : Reached) → objects ≤ length r.state.memory → IsShaped m f walk k r.state →
        (w : Went Back) → BackRow (Cause i r) (given_ty i.op i.ty) (length r.state.memory) w →
        ((q : Reached) → objects ≤ length q.state.memory → IsShaped m f walk (k + 1) q.state → BlockShape m f walk at objects (MeetsInsts Types calls js q) (run_insts Types calls js q)) →
        BlockShape m f walk at objects (Cause i r ⊎ CameTo (MeetsInsts Types calls js) (then_go w (reached_with r.state.env i.id)))
        (then_go (then_go w (reached_with r.state.env i.id)) (run_insts Types calls js))
    step_block k i js here r stay z Lost c more = inl c
    step_block k i js here r stay z (Halts memory) c more = tt
    step_block k i js here r stay z (On back) c more =
        weaken m f walk at objects (MeetsInsts Types calls js q) (Cause i r ⊎ MeetsInsts Types calls js q) (run_insts Types calls js q) (λ x. inr x)
        (more q (let s = c.stay in omega arith) (next_shaped m f params available once at b found walk ends k i here r.state z back.result back.memory c.result c.stay))
      where
        q : Reached
        q = record { state = record { env = set_result r.state.env i.id back.result; memory = back.memory }; left = back.left }

    pub insts_shape : (is : List Inst) (k : ℕ) → drop k b.insts ≡ is → EndsOnce is → PhisFirst false is → (r : Reached) → objects ≤ length r.state.memory → IsShaped m f walk k r.state →
        BlockShape m f walk at objects (MeetsInsts Types calls is r) (run_insts Types calls is r)
    insts_shape [] k e once_ends phis r stay z = elim once_ends [ ]
    insts_shape (i ∷ js) k e once_ends phis r stay z =
        by_end (is_terminator i.op) refl
        (λ ends_not q s y. insts_shape js (k + 1) got.1 (ends_rest i js once_ends ends_not) rest q s y)
      where
        got : (slice_get b.insts k ≡ Some i) × (drop (k + 1) b.insts ≡ js)
        got = drop_first b.insts k i js e

        h : IsFormedInst m f at k i
        h = (formed.blocks at b found).insts k i got.0

        by_phi : (p : Bool) → is_phi i.op ≡ p → p ≡ false
        by_phi false e = refl
        by_phi true e = absurd (true_false (sym (phis.0 e)))

        plain : is_phi i.op ≡ false
        plain = by_phi (is_phi i.op) refl

        rest : PhisFirst false js
        rest = phis.1

        shapes : OpdsShape m f r.state i.opds
        shapes = inst_shape m f params available once at b found walk walks ends k i got.0 h plain r.state z

        by_end : (t : Bool) → is_terminator i.op ≡ t →
            (is_terminator i.op ≡ false → (q : Reached) → objects ≤ length q.state.memory → IsShaped m f walk (k + 1) q.state → BlockShape m f walk at objects (MeetsInsts Types calls js q) (run_insts Types calls js q)) →
            BlockShape m f walk at objects (MeetsInsts Types calls (i ∷ js) r)
            (cond t (exit_with r.left (leave i.op (Values i r) r.state)) (then_go (step Types calls i r) (run_insts Types calls js)))
        by_end true last more =
            left_block k i got.0 (drop_length b.insts k i js (ends_last i js once_ends last) e) last h r stay z (CameTo (MeetsInsts Types calls js) (step Types calls i r))
            (exit_with r.left (leave i.op (Values i r) r.state))
            (leaves f calls r.state r.left i.op i.ty (map (type_of Types) i.opds) (Values i r) (subst (IsTyped f.ret i.op i.ty) shapes.types h.typed) last shapes.shapes)
        by_end false last more =
            step_block k i js got.0 r stay z (act calls i.op i.ty (map (type_of Types) i.opds) (Values i r) r.state.memory r.left)
            (acts m calls keep f.ret r.state.memory r.left z.globals i.op i.ty (map (type_of Types) i.opds) (Values i r)
            (subst (IsTyped f.ret i.op i.ty) shapes.types h.typed) (subst (IsCalling m i.op i.ty) shapes.types h.calling) last plain shapes.shapes)
            (more last)

    -- ---- phis

    -- what a phi brings
    record Brought (from : Option ℕ) (edge : State) (op : Op) (t : Ty) (opds : List Opd) : Type 0 where
      arm : Opd
      is : arm_of from op opds ≡ Some arm
      shape : HasShape (length edge.memory) t (value_of edge.env arm)

    -- at the start no block is entered from another, and so it has no phi
    no_phi_at_start : (blocks : List ℕ) (opds : List Opd) → at ≡ 0 → 0 < length blocks → IsIncoming f at (Phi blocks) opds → ⊥
    no_phi_at_start [] opds start some h = absurd (omega arith)
    no_phi_at_start (c ∷ blocks) opds start some h =
        let k = counted_at at c (targets_at (graph_of f) c) (c ∷ blocks) (sym (h.0 c)) 0 refl in
        let t = target c at (at_contained (targets_at (graph_of f) c) k.0 at k.1) in
        let less = t.0 in omega arith

    brought : (from : Option ℕ) (edge : State) → Came m f from at edge → (k : ℕ) (op : Op) (t : Ty) (opds : List Opd) → is_phi op ≡ true →
        IsTyped f.ret op t (map (opd_ty m f) opds) → IsIncoming f at op opds → Every IsOpd opds →
        ((slot : ℕ) (x : Id) (end : ℕ) → slice_get opds slot ≡ Some (Val x) → walk_end op slot at ≡ Some end → IsAvailableAt f x (before_use op (insts_at f end) k) end) →
        Brought from edge op t opds
    brought None edge came k (Phi blocks) t opds phi h incoming lits stands = elim (no_phi_at_start blocks opds came (let some = h.2 in let long = h.1 in omega arith) incoming) [ ]
    brought (Some from) edge came k (Phi blocks) t opds phi h incoming lits stands = record {
      arm = arm.opd;
      is = arm.found;
      shape = subst (λ u. HasShape (length edge.memory) u (value_of edge.env arm.opd)) same one.shape;
    }
      where
        place : (j : ℕ) × (slice_get blocks j ≡ Some from)
        place =
            let c = contained_at (targets_at (graph_of f) from) at came.3.0 in
            counted_at from at blocks (targets_at (graph_of f) from) (incoming.0 from) c.0 c.1

        arm : Arm from blocks opds
        arm = arm_found from blocks opds place.0 place.1 (h.1 ∙ long opds) where
          long : (os : List Opd) → length (map (opd_ty m f) os) ≡ length os
          long [] = refl
          long (o ∷ os) = ap suc (long os)

        type : opd_ty m f arm.opd ≡ Some t
        type = every_at (λ u. u ≡ Some t) (map (opd_ty m f) opds) arm.slot (opd_ty m f arm.opd) (every_of_all (λ u. u ≡ Some t) (map (opd_ty m f) opds) h.3)
            (slice_get-map (opd_ty m f) opds arm.slot ∙ ap (option_map (opd_ty m f)) arm.here)

        one : OpdShape m f edge arm.opd
        one = opd_shape m f came.0 (length (insts_at f from)) edge came.4 arm.opd (every_at IsOpd opds arm.slot arm.opd lits arm.here)
            (λ x e. stands arm.slot x from (arm.here ∙ ap Some e) arm.block came.0 came.1 came.2) (subst IsValued (sym type) h.0)

        same : type_of Types arm.opd ≡ t
        same = some (sym one.type ∙ type) where
          some : Some (type_of Types arm.opd) ≡ Some t → type_of Types arm.opd ≡ t
          some e = cc
    brought from edge came k op t opds phi h incoming lits stands = absurd (true_false (sym phi))

    phi_gives : (op : Op) (t : Ty) → is_phi op ≡ true → given_ty op t ≡ t
    phi_gives (Phi blocks) t h = refl
    phi_gives op t h = absurd (true_false (sym h))

    pub enter_shape : (from : Option ℕ) (edge : State) → Came m f from at edge → (is : List Inst) (k : ℕ) → drop k b.insts ≡ is → EndsOnce is → PhisFirst true is →
        (r : Reached) → objects ≤ length r.state.memory → length edge.memory ≤ length r.state.memory → IsShaped m f walk k r.state →
        BlockShape m f walk at objects (MeetsFrom Types calls from edge.env is r) (enter Types calls from edge.env is r)
    enter_shape from edge came [] k e once_ends phis r stay as_many z = elim once_ends [ ]
    enter_shape from edge came (i ∷ js) k e once_ends phis r stay as_many z =
        by_phi (is_phi i.op) refl (λ is_one plain q s a y. enter_shape from edge came js (k + 1) got.1 (ends_rest i js once_ends plain) is_one q s a y)
      where
        got : (slice_get b.insts k ≡ Some i) × (drop (k + 1) b.insts ≡ js)
        got = drop_first b.insts k i js e

        h : IsFormedInst m f at k i
        h = (formed.blocks at b found).insts k i got.0

        -- a phi is no terminator
        goes_on : (op : Op) → is_phi op ≡ true → is_terminator op ≡ false
        goes_on (Phi blocks) p = refl
        goes_on op p = absurd (true_false (sym p))

        Goal : Went Reached → Type 0
        Goal w = BlockShape m f walk at objects (MeetsInsts Types calls (i ∷ js) r ⊎ CameTo (MeetsFrom Types calls from edge.env js) w) (then_go w (enter Types calls from edge.env js))

        by_phi : (p : Bool) → is_phi i.op ≡ p →
            (PhisFirst true js → is_terminator i.op ≡ false → (q : Reached) → objects ≤ length q.state.memory → length edge.memory ≤ length q.state.memory → IsShaped m f walk (k + 1) q.state →
            BlockShape m f walk at objects (MeetsFrom Types calls from edge.env js q) (enter Types calls from edge.env js q)) →
            BlockShape m f walk at objects (MeetsFrom Types calls from edge.env (i ∷ js) r)
            (cond p (then_go (reached_if r.left (with_phi edge.env i.id r.state (arm_of from i.op i.opds))) (enter Types calls from edge.env js)) (run_insts Types calls (i ∷ js) r))
        by_phi false p more =
            weaken m f walk at objects (MeetsInsts Types calls (i ∷ js) r) (MeetsFrom Types calls from edge.env (i ∷ js) r) (run_insts Types calls (i ∷ js) r) (λ x. inl x)
            (insts_shape (i ∷ js) k e once_ends ((λ q. absurd (true_false (sym q ∙ p))), subst (λ c. PhisFirst c js) p phis.1) r stay z)
        by_phi true p more =
            subst (λ a. Goal (reached_if r.left (with_phi edge.env i.id r.state a))) (sym come.is)
            (weaken m f walk at objects (MeetsFrom Types calls from edge.env js q) (MeetsInsts Types calls (i ∷ js) r ⊎ MeetsFrom Types calls from edge.env js q) (enter Types calls from edge.env js q) (λ x. inr x)
            (more (subst (λ c. PhisFirst c js) p phis.1) (goes_on i.op p) q stay as_many
            (next_shaped m f params available once at b found walk ends k i got.0 r.state z (Some (value_of edge.env come.arm)) r.state.memory
            (subst (λ u. ResultHasShape (length r.state.memory) u (Some (value_of edge.env come.arm))) (sym (phi_gives i.op i.ty p))
            (result_shape (length r.state.memory) i.ty (value_of edge.env come.arm) (shape_more (length edge.memory) (length r.state.memory) i.ty (value_of edge.env come.arm) as_many come.shape))) (omega arith))))
          where
            come : Brought from edge i.op i.ty i.opds
            come = brought from edge came k i.op i.ty i.opds p h.typed h.incoming (every_of_all IsOpd i.opds h.operands)
                (λ slot x end here e. available at b found k i got.0 slot (Val x) here end e)

            q : Reached
            q = record { state = record { env = with_value r.state.env i.id (value_of edge.env come.arm); memory = r.state.memory }; left = r.left }

  -- ---- from block to block

  -- a block that is there
  block_there : (bs : List Block) (at : ℕ) → at < length bs → (b : Block) × (slice_get bs at ≡ Some b)
  block_there [] at h = absurd (omega arith)
  block_there (b ∷ bs) zero h = (b, refl)
  block_there (b ∷ bs) (suc at) h = block_there bs at (omega arith)

  abbrev Next : Runs → (ℕ → Reached → Type 0) → ℕ → ℕ → Type 0
  Next go next at objects =
      (to : ℕ) (q : Reached) (walk : List ℕ) → to < length f.blocks → IsWalk (graph_of f) walk → EndsAt walk to → Came m f (Some at) to q.state → IsShaped m f walk 0 q.state →
      objects ≤ length q.state.memory → FuncShape f objects (next to q) (go f (Some at) to q)

  then_next : (go : Runs) (next : ℕ → Reached → Type 0) (at objects : ℕ) (walk : List ℕ) (M : Type 0) → IsWalk (graph_of f) walk → EndsAt walk at → Next go next at objects →
      (w : Went Exit) → BlockShape m f walk at objects M w → FuncShape f objects (M ⊎ CameTo (MeetsNext next) w) (then_go w (on_exit (go f (Some at))))
  then_next go next at objects walk M walks ends more Lost z = inl z
  then_next go next at objects walk M walks ends more (Halts memory) z = tt
  then_next go next at objects walk M walks ends more (On (Leaves back)) z = z
  then_next go next at objects walk M walks ends more (On (To to q)) z =
      weaken_func f objects (next to q) (M ⊎ next to q) (go f (Some at) to q) (λ x. inr x)
      (more to q (walk ++ to ∷ []) (subst (λ n. to < n) (length_graph f) z.0.1) (walk_more (graph_of f) walk at to walks ends z.0) (ends_more walk to)
      (walk, walks, ends, z.0, z.1)
      (record { values = λ x t e v st. z.1.values x t e v (stands_enter f x walk at to ends st); globals = z.1.globals }) z.2)

  pub turn_shape : (go : Runs) (next : ℕ → Reached → Type 0) (from : Option ℕ) (at : ℕ) (s : State) (n objects : ℕ) (walk : List ℕ) → at < length f.blocks →
      IsWalk (graph_of f) walk → EndsAt walk at → Came m f from at s → IsShaped m f walk 0 s → objects ≤ length s.memory → Next go next at objects →
      FuncShape f objects (MeetsAt calls next f from at s n) (turn_at calls go f from at s n)
  turn_shape go next from at s zero objects walk there walks ends came z stay more = tt
  turn_shape go next from at s (suc n) objects walk there walks ends came z stay more =
      let b = block_there f.blocks at there in
      let h = formed.blocks at b.0 b.1 in
      let r : Reached = record { state = s; left = n } in
      subst (λ o. FuncShape f objects (MeetsBlock (types_of f) calls from (record { state = s; left = n }) o ⊎ CameTo (MeetsNext next) (run_block (types_of f) calls from (record { state = s; left = n }) o))
      (then_go (run_block (types_of f) calls from (record { state = s; left = n }) o) (on_exit (go f (Some at))))) (sym b.1)
      (then_next go next at objects walk (MeetsFrom (types_of f) calls from s.env b.0.insts (record { state = s; left = n })) walks ends more
      (enter (types_of f) calls from s.env b.0.insts (record { state = s; left = n }))
      (enter_shape at b.0 b.1 walk walks ends objects from s came b.0.insts 0 refl h.ends h.phis (record { state = s; left = n }) stay (omega arith) z))

-- ---- a function from a block on

pub runs_shape : (m : Module) (f : Func) → ((g : Func) → Contains m.items (FuncItem g) → Every (λ (p : Param). is_value p.ty ≡ true) g.params) →
    IsFormedFunc m f → IsAvailableFunc f → Once (item_ids (FuncItem f)) → (tie : Ties) → ((fuel : ℕ) → CallsKeepShapes m (tie (runs tie fuel))) →
    (fuel : ℕ) (from : Option ℕ) (at : ℕ) (r : Reached) (objects : ℕ) (walk : List ℕ) → at < length f.blocks → IsWalk (graph_of f) walk → EndsAt walk at → Came m f from at r.state →
    IsShaped m f walk 0 r.state → objects ≤ length r.state.memory → FuncShape f objects (Meets tie fuel f from at r) (runs tie fuel f from at r)
runs_shape m f params formed available once tie keep zero from at r objects walk there walks ends came z stay = tt
runs_shape m f params formed available once tie keep (suc fuel) from at r objects walk there walks ends came z stay =
    turn_shape m f params formed available once (tie (runs tie fuel)) (keep fuel) (runs tie fuel) (λ to q. Meets tie fuel f (Some at) to q) from at r.state r.left objects walk there walks ends came z stay
    (λ to q path there walks ends came z stay. runs_shape m f params formed available once tie keep fuel (Some at) to q objects path there walks ends came z stay)

pub no_calls_keep : (m : Module) (go : Runs) → CallsKeepShapes m (no_calls go)
no_calls_keep m go g here vs memory left back z globals e = absurd (lost_on e) where
  lost_on : Lost ≡ On back → ⊥
  lost_on e = cc

-- ---- the start

fits_shape : (objects : ℕ) (t : Ty) (v : Value) → ValueFits objects t v → HasShape objects t v
fits_shape objects (Int w) (LaneValue a) h = tt
fits_shape objects (Row n w) (RowValue a) h = h.0
fits_shape objects Ptr (PtrValue p) h = h
fits_shape objects Void v h = elim h [ ]
fits_shape objects (Int w) (RowValue a) h = elim h [ ]
fits_shape objects (Int w) (PtrValue p) h = elim h [ ]
fits_shape objects (Row n w) (LaneValue a) h = elim h [ ]
fits_shape objects (Row n w) (PtrValue p) h = elim h [ ]
fits_shape objects Ptr (LaneValue a) h = elim h [ ]
fits_shape objects Ptr (RowValue a) h = elim h [ ]

start_value : (objects : ℕ) (ps : List Param) (vs : List Value) → AllZip (λ (p : Param) v. ValueFits objects p.ty v) ps vs → (x : Id) (o : Option Ty) (t : Ty) →
    list_any (λ (p : Param). same_id p.id x) ps ≡ true → or_else (ty_in_params x ps) o ≡ Some t → HasShape objects t (start_env ps vs x)
start_value objects [] vs z x o t h e = absurd (true_false (sym h))
start_value objects (p ∷ ps) [] z x o t h e = elim z [ ]
start_value objects (p ∷ ps) (v ∷ vs) z x o t h e =
    by_test (same_id x p.id) (ap (λ b. b || list_any (λ (q : Param). same_id q.id x) ps) (swapped x p.id) ∙ h)
    (ap (λ b. or_else (if b then Some p.ty else ty_in_params x ps) o) (swapped x p.id) ∙ e) (λ h e. start_value objects ps vs z.1 x o t h e)
  where
    by_test : (b : Bool) → (b || list_any (λ (q : Param). same_id q.id x) ps) ≡ true → or_else (if b then Some p.ty else ty_in_params x ps) o ≡ Some t →
        (list_any (λ (q : Param). same_id q.id x) ps ≡ true → or_else (ty_in_params x ps) o ≡ Some t → HasShape objects t (start_env ps vs x)) →
        HasShape objects t (cond b v (start_env ps vs x))
    by_test true h e more = let same : p.ty ≡ t = cc in subst (λ u. HasShape objects u v) same (fits_shape objects p.ty v z.0)
    by_test false h e more = more h e

pub start_shape : StartsAreShaped
start_shape m f args memory fits = record {
  values = λ x t e v st. start_value (length memory) f.params args fits.typed x (ty_in_blocks x f.blocks) t (stands_start f x st) e;
  globals = fits.globals;
}

-- ---- the law

-- a function that is found is one of the items
pub found_item : (items : List Item) (func : ℕ) (f : Func) → slice_get (functions_of items) func ≡ Some f → (k : ℕ) × (slice_get items k ≡ Some (FuncItem f))
found_item [] func f e = absurd cc
found_item (Kept text ∷ items) func f e = let r = found_item items func f e in (suc r.0, r.1)
found_item (Opaque text ∷ items) func f e = let r = found_item items func f e in (suc r.0, r.1)
found_item (FuncItem g ∷ items) zero f e = let same : g ≡ f = cc in (0, ap (λ h. Some (FuncItem h)) same)
found_item (FuncItem g ∷ items) (suc func) f e = let r = found_item items func f e in (suc r.0, r.1)

pub params_formed : (m : Module) → IsFormed m → (g : Func) → Contains m.items (FuncItem g) → Every (λ (p : Param). is_value p.ty ≡ true) g.params
params_formed m h g here = every_of_all (λ (p : Param). is_value p.ty ≡ true) g.params (All-contains (IsFormedItem m) m.items (FuncItem g) h.items here).params

outcome_cause : (f : Func) (objects : ℕ) (M : Type 0) (w : Went Back) → FuncShape f objects M w → outcome_of w ≡ Undefined → M
outcome_cause f objects M Lost z e = z
outcome_cause f objects M (Halts memory) z e = absurd cc
outcome_cause f objects M (On back) z e = absurd cc

-- the run from the start
start_run : (m : Module) → IsFormed m → (func : ℕ) (f : Func) → slice_get (functions_of m.items) func ≡ Some f → (args : List Value) (memory : Memory) → Fits m f args memory → (bound : ℕ) →
    FuncShape f (length memory) (Meets no_calls bound f None 0 (record { state = record { env = start_env f.params args; memory = memory }; left = bound }))
    (runs no_calls bound f None 0 (record { state = record { env = start_env f.params args; memory = memory }; left = bound }))
start_run m h func f found args memory fits bound =
    runs_shape m f (params_formed m h) formed (h.available item.0 (FuncItem f) item.1) (func_once m.items item.0 f item.1 (once_of_pairs (ids_of_items m.items) h.once))
    no_calls (λ fuel. no_calls_keep m (runs no_calls fuel)) bound None 0 (record { state = record { env = start_env f.params args; memory = memory }; left = bound }) (length memory) (0 ∷ []) formed.some
    (refl, subst (λ n. 0 < n) (sym (length_graph f)) formed.some, tt) refl refl (start_shape m f args memory fits) (omega arith)
  where
    item : (k : ℕ) × (slice_get m.items k ≡ Some (FuncItem f))
    item = found_item m.items func f found

    formed : IsFormedFunc m f
    formed = every_at (IsFormedItem m) m.items item.0 (FuncItem f) (every_of_all (IsFormedItem m) m.items h.items) item.1

pub undefined_for : UndefinedHasCauses
undefined_for m h func f found args memory fits bound e =
    by_start (noalias_holds (length m.globals) [] f.params args) refl (sym (ap (λ o. run_found (length m.globals) o args memory bound) found) ∙ e)
  where
    start : Reached
    start = record { state = record { env = start_env f.params args; memory = memory }; left = bound }

    by_start : (b : Bool) → noalias_holds (length m.globals) [] f.params args ≡ b → outcome_of (cond b (runs no_calls bound f None 0 start) Lost) ≡ Undefined → IsUndefinedFor m f args memory bound
    by_start false alone e = inl alone
    by_start true alone e =
        inr (outcome_cause f (length memory) (Meets no_calls bound f None 0 start) (runs no_calls bound f None 0 start) (start_run m h func f found args memory fits bound) e)

-- ---- what holds along a run

-- a place of a list where an item of it stands
pub contained_item : (items : List Item) (f : Func) → Contains items (FuncItem f) → (k : ℕ) × (slice_get items k ≡ Some (FuncItem f))
contained_item items f h = (h.0, slice_get-get_or items h.0 (FuncItem f) h.1 ∙ ap Some h.2)

reached_shapes : (m : Module) (f : Func) (walk : List ℕ) (at position : ℕ) (i : Inst) (s : State) → IsReachedAt m f walk at position i s → OpdsShape m f s i.opds
reached_shapes m f walk at position i s h =
    let item = contained_item m.items f h.func in
    let formed = All-contains (IsFormedItem m) m.items (FuncItem f) h.formed.items h.func in
    inst_shape m f (params_formed m h.formed) (h.formed.available item.0 (FuncItem f) item.1)
    (func_once m.items item.0 f item.1 (once_of_pairs (ids_of_items m.items) h.formed.once)) at h.block h.there walk h.walks h.ends position i h.here
    ((formed.blocks at h.block h.there).insts position i h.here) h.no_phi s h.shaped

pub operands_have_shapes : OperandsHaveShapes
operands_have_shapes m f walk at position i s h = (reached_shapes m f walk at position i s h).shapes

pub steps_keep_shapes : StepsKeepShapes
steps_keep_shapes m f walk at position i r q h last calls keep e =
    by_act (act calls i.op i.ty (map (type_of (types_of f)) i.opds) (map (value_of r.state.env) i.opds) r.state.memory r.left)
    (acts m calls keep f.ret r.state.memory r.left h.shaped.globals i.op i.ty (map (type_of (types_of f)) i.opds) (map (value_of r.state.env) i.opds)
    (subst (IsTyped f.ret i.op i.ty) shapes.types inst.typed) (subst (IsCalling m i.op i.ty) shapes.types inst.calling) last h.no_phi shapes.shapes) e
  where
    item : (k : ℕ) × (slice_get m.items k ≡ Some (FuncItem f))
    item = contained_item m.items f h.func

    inst : IsFormedInst m f at position i
    inst = ((All-contains (IsFormedItem m) m.items (FuncItem f) h.formed.items h.func).blocks at h.block h.there).insts position i h.here

    shapes : OpdsShape m f r.state i.opds
    shapes = reached_shapes m f walk at position i r.state h

    by_act : (w : Went Back) → BackRow (IsCause calls i.op i.ty (map (value_of r.state.env) i.opds) r.state.memory r.left) (given_ty i.op i.ty) (length r.state.memory) w →
        then_go w (reached_with r.state.env i.id) ≡ On q → IsShaped m f walk (position + 1) q.state
    by_act Lost row e = absurd cc
    by_act (Halts memory) row e = absurd cc
    by_act (On back) row e =
        let same : record { state = record { env = set_result r.state.env i.id back.result; memory = back.memory }; left = back.left } ≡ q = cc in
        subst (λ (p : Reached). IsShaped m f walk (position + 1) p.state) same
        (next_shaped m f (params_formed m h.formed) (h.formed.available item.0 (FuncItem f) item.1)
        (func_once m.items item.0 f item.1 (once_of_pairs (ids_of_items m.items) h.formed.once)) at h.block h.there walk h.ends position i h.here r.state h.shaped
        back.result back.memory row.result row.stay)

outcome_result : (f : Func) (objects : ℕ) (M : Type 0) (result : Option Value) (after : Memory) (w : Went Back) → FuncShape f objects M w → outcome_of w ≡ Returned result after →
    ResultHasShape (length after) f.ret result × (objects ≤ length after)
outcome_result f objects M result after Lost z e = absurd cc
outcome_result f objects M result after (Halts memory) z e = absurd cc
outcome_result f objects M result after (On back) z e =
    let v : back.result ≡ result = cc in
    let n : back.memory ≡ after = cc in (
      subst (λ (o : Option Value). ResultHasShape (length after) f.ret o) v (subst (λ (mem : Memory). ResultHasShape (length mem) f.ret back.result) n z.result),
      subst (λ (mem : Memory). objects ≤ length mem) n z.objects_stay,
    )

pub results_have_shapes : ResultsHaveShapes
results_have_shapes m h func f found args memory after fits bound result e =
    by_start (noalias_holds (length m.globals) [] f.params args) (sym (ap (λ o. run_found (length m.globals) o args memory bound) found) ∙ e)
  where
    start : Reached
    start = record { state = record { env = start_env f.params args; memory = memory }; left = bound }

    by_start : (b : Bool) → outcome_of (cond b (runs no_calls bound f None 0 start) Lost) ≡ Returned result after → ResultHasShape (length after) f.ret result × (length memory ≤ length after)
    by_start false e = absurd cc
    by_start true e = outcome_result f (length memory) (Meets no_calls bound f None 0 start) result after (runs no_calls bound f None 0 start) (start_run m h func f found args memory fits bound) e
