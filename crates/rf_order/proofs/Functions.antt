-- From block to block: a function with one block in the order of its window.
use Rattle.std.proofs.Common.{◌≡◌, refl, sym, ap, ◌∙◌, subst, ℕ, zero, suc, ◌<◌, inl, inr, Bool, true, false, ◌&&◌, cond, Option, None, Some, List, [], ◌∷◌, ◌++◌, length, nat_eq, slice_get, slice_set, arith}
use Rattle.std.specs.List.{list_any, Contains}
use Rattle.std.proofs.Math.Path.{fun_ext}
use Rattle.std.proofs.lemmas.Bool.Decides.{nat_tests}
use Rattle.std.proofs.lemmas.Option.{slice_get_within, get_or_from_slice_get}
use Rattle.ir_types.specs.declared.id.Id.{Id}
use Rattle.ir_types.specs.declared.ty.Ty.{Ty}
use Rattle.ir_types.specs.declared.op.Op.{Op}
use Rattle.ir_types.specs.declared.op.Op.TheVariants.{Phi}
use Rattle.ir_types.specs.declared.inst.Inst.{Inst}
use Rattle.ir_types.specs.declared.func.Block.{Block}
use Rattle.ir_types.specs.declared.func.Func.{Func}
use Rattle.ir_types.specs.declared.module.Item.TheVariants.{Func as FuncItem}
use Rattle.ir_types.specs.declared.module.Module.{Module}
use Rattle.ir_types.specs.Walks.{IsWalk, EndsAt}
use Rattle.ir_types.specs.Available.{graph_of}
use Rattle.ir_types.specs.Formed.{EndsOnce, PhisFirst, IsFormedFunc, IsFormedItem, IsFormed}
use Rattle.ir_types.proofs.Among.{same_is, swapped}
use Rattle.ir_types.proofs.Formed.{every_at, every_of_all}
use Rattle.ir_model.specs.Values.{same_id}
use Rattle.ir_model.specs.Step.{Went, Lost, Halts, On, then_go, Back, Reached, Calls}
use Rattle.ir_model.specs.Run.{is_terminator, is_phi, Exit, Leaves, To, enter, run_block, run_insts, typed_params, typed_insts, typed_blocks, types_of, start_env, noalias_holds, Runs, Ties, no_calls, on_exit, turn_at, runs, run_func, outcome_of, run_found}
use Rattle.ir_model.specs.Refines.{OutcomeRefines}
use Rattle.ir_model.proofs.Same.{outcome_same}
use Rattle.ir_model.specs.Shapes.{CallsKeepShapes}
use Rattle.ir_model.proofs.Walked.{ends_rest, length_graph}
use Rattle.ir_model.proofs.Sound.{found_item, no_calls_keep}
use Rattle.vx_view.specs.Conflicts.{depends}
use Rattle.vx_serial.specs.Window.{order_in, joined}
use Rattle.rf_order.specs.Rows.{Instead, Reordered}
use Rattle.rf_order.specs.Swaps.{CallsKeepObjects}
use Rattle.vx_serial.specs.Bundles.{AreOnce, ids_of, AreBundles}
use Rattle.rf_order.specs.Blocks.{ArePhis, NoPhis, IsEntered, IsCut, run_phis, with_groups, CameFrom}
use Rattle.rf_order.specs.Functions.{with_block, TiesKeep, FunctionsRefine, OutcomesRefine}
use Rattle.rf_order.proofs.Orders.{instead_chain, instead_then}
use Rattle.rf_order.proofs.Windows.{orders_reordered}
use Rattle.rf_order.proofs.Blocks.{window_once}
use Rattle.rf_order.proofs.Phis.{enter_phis, enter_front, whole_blocks}
use Rattle.rf_order.proofs.Entered.{phis_entered}
use Rattle.rf_order.proofs.Exits.{exits_entered}
use Rattle.rf_order.proofs.Leading.{exits_lead}
use Rattle.rf_order.proofs.Starts.{starts_entered}
use Rattle.vx_serial.proofs.Decided.{neither, or_left, or_right, true_false}

-- ---- types

any_out : (z y : Id) (front rest : List Inst) (i : Inst) → i.id ≡ y → list_any (same_id z) (ids_of (front ++ i ∷ rest)) ≡ false → (same_id z y ≡ false) × (list_any (same_id z) (ids_of (front ++ rest)) ≡ false)
any_out z y [] rest i e h = (ap (same_id z) (sym e) ∙ or_left (same_id z i.id) (list_any (same_id z) (ids_of rest)) h, or_right (same_id z i.id) (list_any (same_id z) (ids_of rest)) h)
any_out z y (j ∷ front) rest i e h =
    let r = any_out z y front rest i e (or_right (same_id z j.id) (list_any (same_id z) (ids_of (front ++ i ∷ rest))) h) in
    (r.0, neither (same_id z j.id) (list_any (same_id z) (ids_of (front ++ rest))) (or_left (same_id z j.id) (list_any (same_id z) (ids_of (front ++ i ∷ rest))) h) r.1)

once_out : (front rest : List Inst) (y : Inst) → AreOnce (ids_of (front ++ y ∷ rest)) → (list_any (same_id y.id) (ids_of front) ≡ false) × AreOnce (ids_of (front ++ rest))
once_out [] rest y h = (refl, h.1)
once_out (z ∷ front) rest y h =
    let a = any_out z.id y.id front rest y refl h.0 in
    let r = once_out front rest y h.1 in
    (neither (same_id y.id z.id) (list_any (same_id y.id) (ids_of front)) (swapped y.id z.id ∙ a.0) r.0, (a.1, r.1))

types_front : (front rest : List Inst) (y : Inst) (t : Id → Ty) (x : Id) → list_any (same_id y.id) (ids_of front) ≡ false → typed_insts (front ++ y ∷ rest) t x ≡ cond (same_id x y.id) y.ty (typed_insts (front ++ rest) t x)
types_front [] rest y t x h = refl
types_front (z ∷ front) rest y t x h =
    ap (cond (same_id x z.id) z.ty) (types_front front rest y t x (or_right (same_id y.id z.id) (list_any (same_id y.id) (ids_of front)) h))
    ∙ by_test (same_id x z.id) (same_id x y.id) refl refl
  where
    by_test : (a c : Bool) → same_id x z.id ≡ a → same_id x y.id ≡ c → cond a z.ty (cond c y.ty (typed_insts (front ++ rest) t x)) ≡ cond c y.ty (cond a z.ty (typed_insts (front ++ rest) t x))
    by_test true true ea ec =
        absurd (true_false (sym (ap (λ v. same_id v z.id) (sym (same_is x y.id ec)) ∙ ea) ∙ or_left (same_id y.id z.id) (list_any (same_id y.id) (ids_of front)) h))
    by_test true false ea ec = refl
    by_test false true ea ec = refl
    by_test false false ea ec = refl

types_reorder : (d : Inst → Inst → Bool) (new old : List Inst) (t : Id → Ty) (x : Id) → Reordered d old new → AreOnce (ids_of old) → typed_insts new t x ≡ typed_insts old t x
types_reorder d [] old t x r h = ap (λ l. typed_insts l t x) (sym r)
types_reorder d (y ∷ new) old t x (front, rest, is, none, more) h =
    let o = once_out front rest y (subst (λ l. AreOnce (ids_of l)) is h) in
    ap (cond (same_id x y.id) y.ty) (types_reorder d new (front ++ rest) t x more o.1) ∙ sym (types_front front rest y t x o.0) ∙ ap (λ l. typed_insts l t x) (sym is)

types_append : (xs ys : List Inst) (t : Id → Ty) (x : Id) → typed_insts (xs ++ ys) t x ≡ typed_insts xs (typed_insts ys t) x
types_append [] ys t x = refl
types_append (i ∷ xs) ys t x = ap (cond (same_id x i.id) i.ty) (types_append xs ys t x)

types_blocks : (bs : List Block) (at : ℕ) (b c : Block) → slice_get bs at ≡ Some b → ((t : Id → Ty) (x : Id) → typed_insts c.insts t x ≡ typed_insts b.insts t x) → (x : Id) → typed_blocks (slice_set bs at c) x ≡ typed_blocks bs x
types_blocks [] at b c e h x = refl
types_blocks (z ∷ bs) zero b c e h x = let same : z ≡ b = cc in h (typed_blocks bs) x ∙ ap (λ (z : Block). typed_insts z.insts (typed_blocks bs) x) (sym same)
types_blocks (z ∷ bs) (suc at) b c e h x = ap (λ t. typed_insts z.insts t x) (fun_ext (λ y. types_blocks bs at b c e h y))

-- ---- a formed block is phis, others and its end

record Split (l : List Inst) : Type 0 where
  phis : List Inst
  insts : List Inst
  last : Inst
  is : l ≡ phis ++ (insts ++ last ∷ [])
  are : ArePhis phis
  none : NoPhis (insts ++ last ∷ [])

phi_goes : (op : Op) → is_phi op ≡ true → is_terminator op ≡ false
phi_goes (Phi blocks) p = refl
phi_goes op p = absurd (true_false (sym p))

record Plain (l : List Inst) : Type 0 where
  insts : List Inst
  last : Inst
  is : l ≡ insts ++ last ∷ []

plain_split : (i : Inst) (l : List Inst) → Plain (i ∷ l)
plain_split i [] = record { insts = []; last = i; is = refl }
plain_split i (j ∷ l) = let r = plain_split j l in record { insts = i ∷ r.insts; last = r.last; is = ap (λ l. i ∷ l) r.is }

not_phi : (b : Bool) → (b ≡ true → false ≡ true) → b ≡ false
not_phi false h = refl
not_phi true h = absurd (true_false (sym (h refl)))

no_phis : (l : List Inst) → PhisFirst false l → NoPhis l
no_phis [] h = tt
no_phis (i ∷ l) h = (not_phi (is_phi i.op) h.0, no_phis l h.1)

split : (l : List Inst) → PhisFirst true l → EndsOnce l → Split l
split [] h e = elim e [ ]
split (i ∷ l) h e = by_phi (is_phi i.op) refl h.1 (λ h e. split l h e) where
  by_phi : (p : Bool) → is_phi i.op ≡ p → PhisFirst (true && p) l → (PhisFirst true l → EndsOnce l → Split l) → Split (i ∷ l)
  by_phi true p h more =
      let r = more h (ends_rest i l e (phi_goes i.op p)) in
      record { phis = i ∷ r.phis; insts = r.insts; last = r.last; is = ap (λ l. i ∷ l) r.is; are = (p, r.are); none = r.none }
  by_phi false p h more =
      let r = plain_split i l in
      record { phis = []; insts = r.insts; last = r.last; is = r.is; are = tt; none = subst NoPhis r.is (p, no_phis l h) }

no_phis_front : (xs ys : List Inst) → NoPhis (xs ++ ys) → NoPhis xs
no_phis_front [] ys h = tt
no_phis_front (x ∷ xs) ys h = (h.0, no_phis_front xs ys h.1)

append_nil : (xs : List Inst) → xs ++ [] ≡ xs
append_nil [] = refl
append_nil (x ∷ xs) = ap (λ r. x ∷ r) (append_nil xs)

filled : (xs : List Inst) (y : Inst) → xs ++ y ∷ [] ≡ [] → ⊥
filled [] y e = cc
filled (x ∷ xs) y e = cc

-- ---- runs

get_set : (bs : List Block) (at a : ℕ) (c : Block) → nat_eq a at ≡ false → slice_get (slice_set bs at c) a ≡ slice_get bs a
get_set [] at a c h = refl
get_set (z ∷ bs) zero zero c h = absurd cc
get_set (z ∷ bs) zero (suc a) c h = refl
get_set (z ∷ bs) (suc at) zero c h = refl
get_set (z ∷ bs) (suc at) (suc a) c h = get_set bs at a c (grind (arith, nat_tests))

get_same : (bs : List Block) (at : ℕ) (b c : Block) → slice_get bs at ≡ Some b → slice_get (slice_set bs at c) at ≡ Some c
get_same [] at b c e = absurd cc
get_same (z ∷ bs) zero b c e = refl
get_same (z ∷ bs) (suc at) b c e = get_same bs at b c e

block_there : (bs : List Block) (a : ℕ) → a < length bs → (b : Block) × (slice_get bs a ≡ Some b)
block_there [] a h = absurd (omega arith)
block_there (b ∷ bs) zero h = (b, refl)
block_there (b ∷ bs) (suc a) h = block_there bs a (omega arith)

module _ (m : Module) (formed : IsFormed m) (f : Func) (here : Contains m.items (FuncItem f)) (func : IsFormedFunc m f) (at : ℕ) (b : Block) (phis before insts : List Inst) (last : Inst) (after : List Inst)
    (there : slice_get f.blocks at ≡ Some b) (cut : (walk : List ℕ) → IsWalk (graph_of f) walk → EndsAt walk at → IsCut m f walk at b phis before insts last after)
    (bundles : List (List Id)) (are : AreBundles insts bundles) (groups : List (List Inst)) (order : order_in m b.insts insts bundles ≡ Some groups) (tie : Ties) (keep : TiesKeep m tie)
    (types_same : types_of (with_block f at (with_groups b phis before groups last after)) ≡ types_of f) where
  abbrev New : Func
  New = with_block f at (with_groups b phis before groups last after)

  -- the same block, or the one in the order of its window
  one_block : (calls : Calls) → CallsKeepShapes m calls → CallsKeepObjects calls → (walk : List ℕ) (from : Option ℕ) (a : ℕ) (r : Reached) → IsWalk (graph_of f) walk → EndsAt walk a → CameFrom m f walk a from r.state → IsEntered m f walk 0 r.state →
      Instead (run_block (types_of f) calls from r (slice_get New.blocks a)) (run_block (types_of f) calls from r (slice_get f.blocks a))
  one_block calls shapes objects walk from a r walks ends came en = by_test (nat_eq a at) refl where
    by_test : (t : Bool) → nat_eq a at ≡ t → Instead (run_block (types_of f) calls from r (slice_get New.blocks a)) (run_block (types_of f) calls from r (slice_get f.blocks a))
    by_test false e = inr (ap (run_block (types_of f) calls from r) (get_set f.blocks at a (with_groups b phis before groups last after) e))
    by_test true e =
        let same : a ≡ at = grind (arith, nat_tests) in
        let c = cut walk walks (subst (EndsAt walk) same ends) in
        subst (λ a. Instead (run_block (types_of f) calls from r (slice_get New.blocks a)) (run_block (types_of f) calls from r (slice_get f.blocks a))) (sym same)
        (subst (λ o. Instead (run_block (types_of f) calls from r o) (run_block (types_of f) calls from r (slice_get f.blocks at))) (sym (get_same f.blocks at b (with_groups b phis before groups last after) there))
        (subst (λ o. Instead (run_block (types_of f) calls from r (Some (with_groups b phis before groups last after))) (run_block (types_of f) calls from r o)) (sym there)
        (whole_blocks m f walk at b phis before insts last after c bundles are groups order calls shapes objects from r
        (λ q d. phis_entered m f walk at b phis before insts last after c from r q (subst (λ a. CameFrom m f walk a from r.state) same came) en d))))

  -- where a block goes on
  goes_on : (calls : Calls) → CallsKeepShapes m calls → (walk : List ℕ) (from : Option ℕ) (a : ℕ) (r q : Reached) (to : ℕ) → a < length f.blocks → IsWalk (graph_of f) walk → EndsAt walk a → CameFrom m f walk a from r.state → IsEntered m f walk 0 r.state →
      run_block (types_of f) calls from r (slice_get f.blocks a) ≡ On (To to q) →
      IsEntered m f (walk ++ to ∷ []) 0 q.state × (IsWalk (graph_of f) (walk ++ to ∷ []) × EndsAt (walk ++ to ∷ []) to × CameFrom m f (walk ++ to ∷ []) to (Some a) q.state)
  goes_on calls shapes walk from a r q to less walks ends came en e =
      by_phis (run_phis from r.state.env s.phis r) refl
      (sym (enter_phis (types_of f) calls from r.state.env s.phis (s.insts ++ s.last ∷ []) r s.are) ∙ ap (λ l. enter (types_of f) calls from r.state.env l r) (sym s.is) ∙ ap (run_block (types_of f) calls from r) (sym c.1) ∙ e)
    where
      c : (c : Block) × (slice_get f.blocks a ≡ Some c)
      c = block_there f.blocks a less

      s : Split c.0.insts
      s = split c.0.insts (func.blocks a c.0 c.1).phis (func.blocks a c.0 c.1).ends

      whole : IsCut m f walk a c.0 s.phis [] s.insts s.last []
      whole = record { formed = formed; func = here; walks = walks; ends = ends; there = c.1; parts = s.is; phis_first = s.are; no_phis = no_phis_front s.insts (s.last ∷ []) s.none }

      by_phis : (w : Went Reached) → run_phis from r.state.env s.phis r ≡ w → then_go w (enter (types_of f) calls from r.state.env (s.insts ++ s.last ∷ [])) ≡ On (To to q) →
          IsEntered m f (walk ++ to ∷ []) 0 q.state × (IsWalk (graph_of f) (walk ++ to ∷ []) × EndsAt (walk ++ to ∷ []) to × CameFrom m f (walk ++ to ∷ []) to (Some a) q.state)
      by_phis Lost d e = absurd cc
      by_phis (Halts n) d e = absurd cc
      by_phis (On p) d e =
          let en2 = phis_entered m f walk a c.0 s.phis [] s.insts s.last [] whole from r p came en d in
          let run : run_insts (types_of f) calls (s.insts ++ s.last ∷ []) p ≡ On (To to q) =
          ap (λ l. run_insts (types_of f) calls l p) (sym (append_nil (s.insts ++ s.last ∷ []))) ∙ sym (enter_front (types_of f) calls from r.state.env (s.insts ++ s.last ∷ []) [] p s.none (filled s.insts s.last))
          ∙ ap (λ l. enter (types_of f) calls from r.state.env l p) (append_nil (s.insts ++ s.last ∷ [])) ∙ e in
          (exits_entered m f walk a c.0 s.phis s.insts s.last whole calls shapes p q to en2 run, exits_lead m f walk a c.0 s.phis s.insts s.last whole calls shapes p q to en2 run)

  all_runs : (fuel : ℕ) (walk : List ℕ) (from : Option ℕ) (a : ℕ) (r : Reached) → a < length f.blocks → IsWalk (graph_of f) walk → EndsAt walk a → CameFrom m f walk a from r.state → IsEntered m f walk 0 r.state →
      Instead (runs tie fuel New from a r) (runs tie fuel f from a r)
  all_runs zero walk from a r less walks ends came en = inr refl
  all_runs (suc fuel) walk from a r less walks ends came en =
      by_left r.left (λ to q w walks ends came en less. all_runs fuel w (Some a) to q less walks ends came en) where
        by_left : (n : ℕ) → ((to : ℕ) (q : Reached) (w : List ℕ) → IsWalk (graph_of f) w → EndsAt w to → CameFrom m f w to (Some a) q.state → IsEntered m f w 0 q.state → to < length f.blocks → Instead (runs tie fuel New (Some a) to q) (runs tie fuel f (Some a) to q)) →
            Instead (turn_at (tie (runs tie fuel)) (runs tie fuel) New from a r.state n) (turn_at (tie (runs tie fuel)) (runs tie fuel) f from a r.state n)
        by_left zero more = inr refl
        by_left (suc n) more =
            subst (λ t. Instead (then_go (run_block t calls from p (slice_get New.blocks a)) (on_exit (runs tie fuel New (Some a)))) old) (sym types_same)
            (instead_chain (then_go (run_block (types_of f) calls from p (slice_get New.blocks a)) (on_exit (runs tie fuel New (Some a)))) (then_go (run_block (types_of f) calls from p (slice_get f.blocks a)) (on_exit (runs tie fuel New (Some a)))) old
            (instead_then (run_block (types_of f) calls from p (slice_get New.blocks a)) (run_block (types_of f) calls from p (slice_get f.blocks a)) (on_exit (runs tie fuel New (Some a)))
            (one_block calls (keep fuel).0 (keep fuel).1 walk from a p walks ends came en))
            (by_exit (run_block (types_of f) calls from p (slice_get f.blocks a)) refl))
          where
            calls : Calls
            calls = tie (runs tie fuel)

            p : Reached
            p = record { state = r.state; left = n }

            old : Went Back
            old = then_go (run_block (types_of f) calls from p (slice_get f.blocks a)) (on_exit (runs tie fuel f (Some a)))

            by_exit : (w : Went Exit) → run_block (types_of f) calls from p (slice_get f.blocks a) ≡ w → Instead (then_go w (on_exit (runs tie fuel New (Some a)))) (then_go w (on_exit (runs tie fuel f (Some a))))
            by_exit Lost d = inl refl
            by_exit (Halts k) d = inr refl
            by_exit (On (Leaves back)) d = inr refl
            by_exit (On (To to q)) d =
                let g = goes_on calls (keep fuel).0 walk from a p q to less walks ends came en d in
                more to q (walk ++ to ∷ []) g.1.0 g.1.1 g.1.2 g.0 (subst (λ n. to < n) (length_graph f) g.1.2.3.1)

-- the window's order leaves the types
types_cut : (m : Module) (f : Func) (walk : List ℕ) (at : ℕ) (b : Block) (phis before insts : List Inst) (last : Inst) (after : List Inst) → IsCut m f walk at b phis before insts last after →
    (groups : List (List Inst)) → Reordered (depends m b.insts) insts (joined groups) → (t : Id → Ty) (x : Id) → typed_insts (with_groups b phis before groups last after).insts t x ≡ typed_insts b.insts t x
types_cut m f walk at b phis before insts last after cut groups re t x =
    types_append phis ((before ++ joined groups) ++ last ∷ after) t x
    ∙ ap (λ u. typed_insts phis u x) (fun_ext same)
    ∙ sym (types_append phis ((before ++ insts) ++ last ∷ after) t x)
    ∙ ap (λ l. typed_insts l t x) (sym cut.parts)
  where
    same : (z : Id) → typed_insts ((before ++ joined groups) ++ last ∷ after) t z ≡ typed_insts ((before ++ insts) ++ last ∷ after) t z
    same z =
        types_append (before ++ joined groups) (last ∷ after) t z
        ∙ types_append before (joined groups) (typed_insts (last ∷ after) t) z
        ∙ ap (λ u. typed_insts before u z) (fun_ext (λ y. types_reorder (depends m b.insts) (joined groups) insts (typed_insts (last ∷ after) t) y re (window_once m f walk at b phis before insts last after cut)))
        ∙ sym (types_append before insts (typed_insts (last ∷ after) t) z)
        ∙ sym (types_append (before ++ insts) (last ∷ after) t z)

pub functions_refined : FunctionsRefine
functions_refined m formed func f found at b phis before insts last after reached there cut bundles are groups order tie keep args memory fits bound =
    by_start (noalias_holds (length m.globals) [] f.params args) refl
  where
    item : (k : ℕ) × (slice_get m.items k ≡ Some (FuncItem f))
    item = found_item m.items func f found

    formed_func : IsFormedFunc m f
    formed_func = every_at (IsFormedItem m) m.items item.0 (FuncItem f) (every_of_all (IsFormedItem m) m.items formed.items) item.1

    here : Contains m.items (FuncItem f)
    here = (item.0, slice_get_within m.items item.0 (FuncItem f) item.1, get_or_from_slice_get m.items item.0 (FuncItem f) (FuncItem f) item.1)

    one : IsCut m f reached.0 at b phis before insts last after
    one = cut reached.0 reached.1 reached.2

    re : Reordered (depends m b.insts) insts (joined groups)
    re = orders_reordered m b.insts insts bundles (window_once m f reached.0 at b phis before insts last after one) are groups order

    types_same : types_of (with_block f at (with_groups b phis before groups last after)) ≡ types_of f
    types_same = ap (typed_params f.params)
        (fun_ext (λ x. types_blocks f.blocks at b (with_groups b phis before groups last after) there (types_cut m f reached.0 at b phis before insts last after one groups re) x))

    start : Reached
    start = record { state = record { env = start_env f.params args; memory = memory }; left = bound }

    by_start : (t : Bool) → noalias_holds (length m.globals) [] f.params args ≡ t →
        Instead (cond t (runs tie bound (with_block f at (with_groups b phis before groups last after)) None 0 start) Lost) (cond t (runs tie bound f None 0 start) Lost)
    by_start false e = inr refl
    by_start true e =
        all_runs m formed f here formed_func at b phis before insts last after there cut bundles are groups order tie keep types_same bound (0 ∷ []) None 0 start formed_func.some
        (refl, subst (λ n. 0 < n) (sym (length_graph f)) formed_func.some, tt) refl refl (starts_entered m formed func f found args memory fits e)

no_calls_objects : (go : Runs) → CallsKeepObjects (no_calls go)
no_calls_objects go callee vs n left back e = absurd (lost_on e) where
  lost_on : Lost ≡ On back → ⊥
  lost_on e = cc

outcomes_of : (new old : Went Back) → Instead new old → OutcomeRefines (outcome_of new) (outcome_of old)
outcomes_of new old (inl e) = subst (λ w. OutcomeRefines (outcome_of new) (outcome_of w)) (sym e) tt
outcomes_of new old (inr e) = subst (λ w. OutcomeRefines (outcome_of w) (outcome_of old)) (sym e) (outcome_same (outcome_of old))

pub outcomes_refined : OutcomesRefine
outcomes_refined m formed func f found at b phis before insts last after reached there cut bundles are groups order args memory fits bound =
    subst (λ o. OutcomeRefines (run_found (length m.globals) (Some (with_block f at (with_groups b phis before groups last after))) args memory bound) (run_found (length m.globals) o args memory bound)) (sym found)
    (outcomes_of (run_func no_calls (length m.globals) (with_block f at (with_groups b phis before groups last after)) args memory bound) (run_func no_calls (length m.globals) f args memory bound)
    (functions_refined m formed func f found at b phis before insts last after reached there cut bundles are groups order no_calls
    (λ fuel. (no_calls_keep m (runs no_calls fuel), no_calls_objects (runs no_calls fuel))) args memory fits bound))
