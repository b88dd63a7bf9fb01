-- Operands of what may run have their types' shapes, and a step keeps a state ready.
use Rattle.std.proofs.Common.{◌≡◌, refl, sym, ap, ◌∙◌, subst, ℕ, pos, ◌+◌, ◌<◌, ◌⊎◌, inl, inr, Bool, true, false, ◌&&◌, ◌||◌, cond, Option, None, Some, List, [], ◌∷◌, length, length-append, map, nat_lt, if◌then◌else◌, option_map, arith}
use Rattle.std.specs.List.{AllZip}
use Rattle.std.proofs.Math.Facts.{sfits_lit}
use Rattle.std.proofs.lemmas.Bool.Decides.{nat_tests}
use Rattle.ir_types.specs.declared.id.Id.{Id}
use Rattle.ir_types.specs.declared.ty.Ty.{Ty}
use Rattle.ir_types.specs.declared.ty.Ty.TheVariants.{Void, Int, Ptr, Row}
use Rattle.ir_types.specs.declared.opd.Opd.{Opd}
use Rattle.ir_types.specs.declared.opd.Opd.TheVariants.{Val, Lit, Sym}
use Rattle.ir_types.specs.declared.op.Op.{Op}
use Rattle.ir_types.specs.declared.op.Op.TheVariants.{Bin, Gep, Alloca}
use Rattle.ir_types.specs.declared.inst.Inst.{Inst}
use Rattle.ir_types.specs.declared.func.Func.{Func}
use Rattle.ir_types.specs.declared.module.Module.{Module}
use Rattle.ir_types.specs.Typed.{is_value, lane_count, IsTyped}
use Rattle.ir_types.specs.Formed.{given_ty, value_ty, opd_ty, IsOpd, is_alloca, IsCalling, IsFormed}
use Rattle.ir_types.proofs.Formed.{Every, every_of_all, IsValued, typed_valued}
use Rattle.ir_types.proofs.Among.{same_is, same_itself, swapped}
use Rattle.ir_model.specs.declared.value.Value.{Value}
use Rattle.ir_model.specs.declared.value.Value.TheVariants.{Lane as LaneValue, Row as RowValue, Ptr as PtrValue}
use Rattle.ir_model.specs.Values.{Lane, Pointer, Env, pointer_of, same_id, literal_value, value_of, type_of}
use Rattle.ir_model.specs.Memory.{Memory}
use Rattle.ir_model.specs.Operations.{bin_value}
use Rattle.ir_model.specs.Addresses.{walked, address_value, kept_inside, is_inside, inbounds_value}
use Rattle.ir_model.specs.Accesses.{Effect, fresh_object, alloca_effect}
use Rattle.ir_model.specs.Sizes.{elem_size}
use Rattle.ir_model.specs.Step.{State, Went, Lost, Halts, On, then_go, Back, Reached, Calls, back_with, callee_of, called_or, act, effect_of, set_result, reached_with}
use Rattle.ir_model.specs.Run.{is_phi, types_of}
use Rattle.ir_model.specs.Shapes.{HasShape, ResultHasShape, CallsKeepShapes}
use Rattle.ir_model.specs.Causes.{IsCause}
use Rattle.ir_model.proofs.Acts.{BackRow, KeptBack, acts}
use Rattle.ir_model.proofs.Ids.{types_agree}
use Rattle.ir_model.proofs.Shaped.{shape_more}
use Rattle.ir_model.proofs.Sound.{params_formed}
use Rattle.vx_view.specs.Answers.{find}
use Rattle.vx_view.specs.Conflicts.{Kind, Allocated, Global, Alone, Argument, Unknown, kind_of, never_meet, same_root}
use Rattle.rf_order.specs.Swaps.{IsNamed, AreNamed}
use Rattle.rf_order.specs.Steps.{uses}
use Rattle.rf_order.specs.Ready.{Known, next, IsIn, IsStatement, MayRun, formula, has_formula, IsComputed, has_kind, NamesOne, NameOthers, is_known, RootsApart, IsReady, StepsKeepReady}
use Rattle.rf_order.proofs.Effects.{read_is}
use Rattle.rf_order.proofs.Swaps.{values_other}
use Rattle.vx_serial.proofs.Decided.{or_first, or_second, true_false}

-- ---- operands

-- a global that has a type is one
pub global_there : (g : ℕ) (b : Bool) → b ≡ b → IsValued (if b then Some Ptr else None) → b ≡ true
global_there g true e v = refl
global_there g false e v = elim v [ ]

abbrev Somes : List Ty → List (Option Ty)
Somes ts = map (λ (t : Ty). Some t) ts

literal_shape : (objects : ℕ) (t : Ty) (lanes : List Lane) → is_value t ≡ true → length lanes ≡ lane_count t → HasShape objects t (literal_value t lanes)
literal_shape objects (Int w) (lane ∷ []) h e = tt
literal_shape objects (Int w) [] h e = absurd cc
literal_shape objects (Int w) (a ∷ b ∷ lanes) h e = absurd cc
literal_shape objects (Row n w) lanes h e = e
literal_shape objects Ptr lanes h e = tt
literal_shape objects Void lanes h e = absurd cc

pub record OpdShape (m : Module) (f : Func) (s : State) (o : Opd) : Type 0 where
  pub type : opd_ty m f o ≡ Some (type_of (types_of f) o)
  pub valued : is_value (type_of (types_of f) o) ≡ true
  pub shape : HasShape (length s.memory) (type_of (types_of f) o) (value_of s.env o)

pub record OpdsShape (m : Module) (f : Func) (s : State) (os : List Opd) : Type 0 where
  pub types : map (opd_ty m f) os ≡ Somes (map (type_of (types_of f)) os)
  pub shapes : AllZip (HasShape (length s.memory)) (map (type_of (types_of f)) os) (map (value_of s.env) os)

module _ (m : Module) (f : Func) (block : List Inst) (k : Known) (s : State) (ready : IsReady m f block k s) where
  pub opd_shape : (o : Opd) → IsOpd o → is_known (length m.globals) k.values o ≡ true → IsValued (opd_ty m f o) → OpdShape m f s o
  opd_shape (Val x) h there v = by_type (value_ty f x) refl v
    where
      by_type : (u : Option Ty) → value_ty f x ≡ u → IsValued u → OpdShape m f s (Val x)
      by_type None e v = elim v [ ]
      by_type (Some t) e v = record {
        type = e ∙ ap Some (sym (types_agree f x t e v));
        valued = ap is_value (types_agree f x t e v) ∙ v;
        shape = subst (λ u. HasShape (length s.memory) u (s.env x)) (sym (types_agree f x t e v)) (ready.values x t e v there);
      }
  opd_shape (Lit l) h there v = record { type = refl; valued = h.0; shape = literal_shape (length s.memory) l.ty l.lanes h.0 h.1 }
  opd_shape (Sym g) h there v = by_test (nat_lt g (length m.globals)) refl v
    where
      by_test : (b : Bool) → nat_lt g (length m.globals) ≡ b → IsValued (if b then Some Ptr else None) → OpdShape m f s (Sym g)
      by_test false e v = elim v [ ]
      by_test true e v = record {
        type = ap (λ b. if b then Some Ptr else None) e;
        valued = refl;
        shape = (let less : g < length m.globals = grind (arith, nat_tests) in let more = ready.globals in omega arith, sfits_lit tt);
      }

  pub opds_shape : (os : List Opd) → Every IsOpd os → ((x : Id) → uses x os ≡ true → k.values x ≡ true) → Every IsValued (map (opd_ty m f) os) → OpdsShape m f s os
  opds_shape [] h there v = record { types = refl; shapes = tt }
  opds_shape (o ∷ os) h there v =
      let first = opd_shape o h.0 (known_first o there v.0) v.0 in
      let rest = opds_shape os h.1 (λ x e. there x (later o x e)) v.1 in
      record {
        types = ap (λ u. u ∷ map (opd_ty m f) os) first.type ∙ ap (λ us. Some (type_of (types_of f) o) ∷ us) rest.types;
        shapes = (first.shape, rest.shapes);
      }
    where
      known_first : (o : Opd) → ((x : Id) → uses x (o ∷ os) ≡ true → k.values x ≡ true) → IsValued (opd_ty m f o) → is_known (length m.globals) k.values o ≡ true
      known_first (Val x) h v = h x (or_first (same_id x x) (uses x os) (same_itself x))
      known_first (Lit l) h v = refl
      known_first (Sym g) h v = global_there g (nat_lt g (length m.globals)) refl v

      later : (o : Opd) (x : Id) → uses x os ≡ true → uses x (o ∷ os) ≡ true
      later (Val y) x e = or_second (same_id y x) (uses x os) e
      later (Lit l) x e = e
      later (Sym g) x e = e

  pub run_shapes : IsFormed m → (i : Inst) → MayRun m f block k i → OpdsShape m f s i.opds
  run_shapes formed i may =
      opds_shape i.opds (every_of_all IsOpd i.opds may.statement.operands) may.there
      (typed_valued m (params_formed m formed) f.ret i.op i.ty (map (opd_ty m f) i.opds) may.statement.typed may.statement.calling)

-- shapes name objects that are there
pub named_of : (objects : ℕ) (ts : List Ty) (vs : List Value) → AllZip (HasShape objects) ts vs → AreNamed objects vs
named_of objects [] [] z = tt
named_of objects (t ∷ ts) (v ∷ vs) z = (one t v z.0, named_of objects ts vs z.1) where
  one : (t : Ty) (v : Value) → HasShape objects t v → IsNamed objects v
  one Ptr (PtrValue (Some p)) h = h.0
  one Ptr (PtrValue None) h = tt
  one t (LaneValue a) h = tt
  one t (RowValue a) h = tt
  one Void (PtrValue p) h = elim h [ ]
  one (Int w) (PtrValue p) h = elim h [ ]
  one (Row n w) (PtrValue p) h = elim h [ ]
named_of objects [] (v ∷ vs) z = elim z [ ]
named_of objects (t ∷ ts) [] z = elim z [ ]

-- ---- a step

result_found : (objects : ℕ) (t : Ty) (env : Env) (id x : Id) (o : Option Value) → is_value t ≡ true → ResultHasShape objects t o → same_id x id ≡ true → HasShape objects t (set_result env id o x)
result_found objects Void env id x o h z e = absurd cc
result_found objects (Int w) env id x (Some v) h z e = subst (λ b. HasShape objects (Int w) (cond b v (env x))) (sym e) z
result_found objects (Row n w) env id x (Some v) h z e = subst (λ b. HasShape objects (Row n w) (cond b v (env x))) (sym e) z
result_found objects Ptr env id x (Some v) h z e = subst (λ b. HasShape objects Ptr (cond b v (env x))) (sym e) z
result_found objects (Int w) env id x None h z e = elim z [ ]
result_found objects (Row n w) env id x None h z e = elim z [ ]
result_found objects Ptr env id x None h z e = elim z [ ]

result_other : (env : Env) (id x : Id) (o : Option Value) → same_id x id ≡ false → set_result env id o x ≡ env x
result_other env id x None e = refl
result_other env id x (Some v) e = ap (λ b. cond b v (env x)) e

result_own : (env : Env) (id : Id) (v : Value) → set_result env id (Some v) id ≡ v
result_own env id v = ap (λ b. cond b v (env id)) (same_itself id)

-- what a formula's operation comes to is what it gives, or an address is poison
formula_is : (op : Op) (t : Ty) (types : List Ty) (vs : List Value) (m : Memory) (a : Effect) → has_formula op ≡ true → effect_of op t types vs m ≡ Some a →
    (v : Value) × (a.result ≡ Some v) × ((v ≡ PtrValue None) ⊎ (formula op t types vs ≡ Some v))
formula_is (Gep elem false) t types vs m a h e = let r = read_is (address_value elem t types vs) m a e in (r.value, ap (λ (x : Effect). x.result) r.effect, inr r.is)
formula_is (Bin op flags) t types vs m a h e = let r = read_is (bin_value op flags t vs) m a e in (r.value, ap (λ (x : Effect). x.result) r.effect, inr r.is)
formula_is (Gep elem true) t types vs m a h e =
    let r = read_is (inbounds_value elem t types vs m) m a e in (r.value, ap (λ (x : Effect). x.result) r.effect, inside t vs r.value r.is)
  where
    by_test : (q : Pointer) (v : Value) (b : Bool) → PtrValue (cond b q None) ≡ v → (v ≡ PtrValue None) ⊎ (PtrValue q ≡ v)
    by_test q v true e = inr e
    by_test q v false e = inl (sym e)

    by_walk : (p : Value) (is : List Value) (v : Value) (w : Option Pointer) → option_map (λ q. PtrValue (kept_inside m (pointer_of p) q)) w ≡ Some v → (v ≡ PtrValue None) ⊎ (option_map PtrValue w ≡ Some v)
    by_walk p is v None e = absurd cc
    by_walk p is v (Some q) e = lifted (by_test q v (is_inside m (pointer_of p) && is_inside m q) (some (PtrValue (kept_inside m (pointer_of p) q)) v e)) where
      some : (a b : Value) → Some a ≡ Some b → a ≡ b
      some a b e = cc

      lifted : (v ≡ PtrValue None) ⊎ (PtrValue q ≡ v) → (v ≡ PtrValue None) ⊎ (option_map PtrValue (Some q) ≡ Some v)
      lifted (inl e) = inl e
      lifted (inr e) = inr (ap Some e)

    inside : (t : Ty) (vs : List Value) (v : Value) → inbounds_value elem t types vs m ≡ Some v → (v ≡ PtrValue None) ⊎ (address_value elem t types vs ≡ Some v)
    inside Ptr (p ∷ is) v e = by_walk p is v (walked elem types (p ∷ is)) e
    inside Ptr [] v e = absurd cc
    inside Void vs v e = absurd cc
    inside (Int w) vs v e = absurd cc
    inside (Row n w) vs v e = absurd cc
formula_is op t types vs m a h e = absurd (true_false (sym h))

no_call : (op : Op) → has_formula op ≡ true → callee_of op ≡ None
no_call (Gep elem inbounds) h = refl
no_call (Bin op flags) h = refl
no_call op h = absurd (true_false (sym h))

alloca_no_call : (op : Op) → is_alloca op ≡ true → callee_of op ≡ None
alloca_no_call (Alloca elem align) h = refl
alloca_no_call op h = absurd (true_false (sym h))

-- an alloca gives the pointer to a new object
record Allocates (m : Memory) (a : Effect) : Type 0 where
  result : a.result ≡ Some (PtrValue (Some (length m, pos 0)))
  longer : length a.memory ≡ length m + 1

alloca_gives : (op : Op) (t : Ty) (types : List Ty) (vs : List Value) (m : Memory) (a : Effect) → is_alloca op ≡ true → effect_of op t types vs m ≡ Some a → Allocates m a
alloca_gives (Alloca elem align) Ptr types [] m a h e = record {
  result = ap (λ (x : Effect). x.result) (some e);
  longer = ap (λ (x : Effect). length x.memory) (some e) ∙ length-append m (fresh_object (elem_size elem) ∷ []);
}
  where
    some : Some (alloca_effect elem m) ≡ Some a → a ≡ alloca_effect elem m
    some e = cc
alloca_gives (Alloca elem align) Ptr types (v ∷ vs) m a h e = absurd cc
alloca_gives (Alloca elem align) Void types vs m a h e = absurd cc
alloca_gives (Alloca elem align) (Int w) types vs m a h e = absurd cc
alloca_gives (Alloca elem align) (Row n w) types vs m a h e = absurd cc
alloca_gives op t types vs m a h e = absurd (true_false (sym h))

pub never_kinds : (a b : Kind) → never_meet a b ≡ true → (has_kind a ≡ true) × (has_kind b ≡ true)
never_kinds Allocated Allocated h = (refl, refl)
never_kinds Allocated Global h = (refl, refl)
never_kinds Allocated Alone h = (refl, refl)
never_kinds Allocated Argument h = (refl, refl)
never_kinds Allocated Unknown h = absurd (true_false (sym h))
never_kinds Global Allocated h = (refl, refl)
never_kinds Global Global h = (refl, refl)
never_kinds Global Alone h = (refl, refl)
never_kinds Global Argument h = (refl, refl)
never_kinds Global Unknown h = absurd (true_false (sym h))
never_kinds Alone Allocated h = (refl, refl)
never_kinds Alone Global h = (refl, refl)
never_kinds Alone Alone h = (refl, refl)
never_kinds Alone Argument h = (refl, refl)
never_kinds Alone Unknown h = absurd (true_false (sym h))
never_kinds Argument Allocated h = (refl, refl)
never_kinds Argument Global h = (refl, refl)
never_kinds Argument Alone h = (refl, refl)
never_kinds Argument Argument h = (refl, refl)
never_kinds Argument Unknown h = absurd (true_false (sym h))
never_kinds Unknown b h = absurd (true_false (sym h))

module _ (m : Module) (f : Func) (formed : IsFormed m) (block : List Inst) (calls : Calls) (keep : CallsKeepShapes m calls) (k : Known) (i : Inst) (r : Reached)
    (may : MayRun m f block k i) (ready : IsReady m f block k r.state) where
  abbrev Vs : List Value
  Vs = map (value_of r.state.env) i.opds

  abbrev Ts : List Ty
  Ts = map (type_of (types_of f)) i.opds

  pub shapes : OpdsShape m f r.state i.opds
  shapes = run_shapes m f block k r.state ready formed i may

  pub row : BackRow (IsCause calls i.op i.ty (map (value_of r.state.env) i.opds) r.state.memory r.left) (given_ty i.op i.ty) (length r.state.memory)
      (act calls i.op i.ty (map (type_of (types_of f)) i.opds) (map (value_of r.state.env) i.opds) r.state.memory r.left)
  row =
      acts m calls keep f.ret r.state.memory r.left ready.globals i.op i.ty Ts Vs
      (subst (IsTyped f.ret i.op i.ty) shapes.types may.statement.typed) (subst (IsCalling m i.op i.ty) shapes.types may.statement.calling) may.statement.no_end may.statement.no_phi shapes.shapes

  -- an effect that a step came to
  effect_came : (back : Back) → callee_of i.op ≡ None → act calls i.op i.ty Ts Vs r.state.memory r.left ≡ On back →
      effect_of i.op i.ty Ts Vs r.state.memory ≡ Some (record { result = back.result; memory = back.memory })
  effect_came back plain e = by_effect (effect_of i.op i.ty Ts Vs r.state.memory) (sym (ap (called_or calls Vs r.state.memory r.left (effect_of i.op i.ty Ts Vs r.state.memory)) plain) ∙ e) where
    by_effect : (x : Option Effect) → back_with r.left x ≡ On back → x ≡ Some (record { result = back.result; memory = back.memory })
    by_effect None e = absurd cc
    by_effect (Some a) e = let is : record { result = a.result; memory = a.memory; left = r.left } ≡ back = cc in
        ap (λ (v : Option Value). Some (record { result = v; memory = a.memory })) (ap (λ (b : Back). b.result) is)
        ∙ ap (λ (n : Memory). Some (record { result = back.result; memory = n })) (ap (λ (b : Back). b.memory) is)

  module _ (back : Back) (came : act calls i.op i.ty (map (type_of (types_of f)) i.opds) (map (value_of r.state.env) i.opds) r.state.memory r.left ≡ On back) where
    kept : KeptBack (given_ty i.op i.ty) (length r.state.memory) back
    kept = subst (BackRow (IsCause calls i.op i.ty Vs r.state.memory r.left) (given_ty i.op i.ty) (length r.state.memory)) came row

    abbrev New : Env
    New = set_result r.state.env i.id back.result

    same_value : (x : Id) → k.values x ≡ true → New x ≡ r.state.env x
    same_value x h = result_other r.state.env i.id x back.result (apart (same_id x i.id) refl) where
      apart : (b : Bool) → same_id x i.id ≡ b → b ≡ false
      apart false e = refl
      apart true e = absurd (true_false (sym h ∙ ap k.values (same_is x i.id e) ∙ may.fresh))

    values : (x : Id) (t : Ty) → value_ty f x ≡ Some t → is_value t ≡ true → (same_id i.id x || k.values x) ≡ true → HasShape (length back.memory) t (New x)
    values x t e v h = by_id (same_id i.id x) refl h where
      by_id : (b : Bool) → same_id i.id x ≡ b → (b || k.values x) ≡ true → HasShape (length back.memory) t (New x)
      by_id true same h =
          let type : given_ty i.op i.ty ≡ t = some (sym may.statement.gives ∙ ap (value_ty f) (same_is i.id x same) ∙ e) in
          result_found (length back.memory) t r.state.env i.id x back.result v (subst (λ u. ResultHasShape (length back.memory) u back.result) type kept.result) (swapped x i.id ∙ same)
        where
          some : Some (given_ty i.op i.ty) ≡ Some t → given_ty i.op i.ty ≡ t
          some e = cc
      by_id false same h =
          subst (HasShape (length back.memory) t) (sym (same_value x h)) (shape_more (length r.state.memory) (length back.memory) t (r.state.env x) kept.stay (ready.values x t e v h))

    same_values : (os : List Opd) → ((x : Id) → uses x os ≡ true → k.values x ≡ true) → map (value_of New) os ≡ map (value_of r.state.env) os
    same_values os h = values_other r.state.env i.id back.result os (unused (uses i.id os) refl) where
      unused : (b : Bool) → uses i.id os ≡ b → b ≡ false
      unused false e = refl
      unused true e = absurd (true_false (sym (h i.id e) ∙ may.fresh))

    own_computed : IsComputed (types_of f) New i
    own_computed h =
        let c = formula_is i.op i.ty Ts Vs r.state.memory (record { result = back.result; memory = back.memory }) h (effect_came back (no_call i.op h) came) in
        let value : New i.id ≡ c.0 = ap (λ o. set_result r.state.env i.id o i.id) c.1 ∙ result_own r.state.env i.id c.0 in
        by_case c.0 value c.2
      where
        by_case : (v : Value) → New i.id ≡ v → (v ≡ PtrValue None) ⊎ (formula i.op i.ty Ts Vs ≡ Some v) →
            (New i.id ≡ PtrValue None) ⊎ (formula i.op i.ty Ts (map (value_of New) i.opds) ≡ Some (New i.id))
        by_case v is (inl e) = inl (is ∙ e)
        by_case v is (inr e) = inr (ap (formula i.op i.ty Ts) (same_values i.opds may.there) ∙ e ∙ ap Some (sym is))

    computed : (j : Inst) → (i ≡ j) ⊎ IsIn j k.done → IsComputed (types_of f) New j
    computed j (inl e) = subst (IsComputed (types_of f) New) e own_computed
    computed j (inr d) = λ h. by_case (ready.computed j d h) where
      ran : IsStatement m f block j × ((x : Id) → uses x j.opds ≡ true → k.values x ≡ true)
      ran = ready.ran j d

      -- what has run is not what runs now
      apart : (b : Bool) → same_id j.id i.id ≡ b → b ≡ false
      apart false e = refl
      apart true e = absurd (true_false (sym (known_done j d) ∙ ap k.values (same_is j.id i.id e) ∙ may.fresh)) where
        known_done : (j : Inst) → IsIn j k.done → k.values j.id ≡ true
        known_done j d = ready.own j d

      value : New j.id ≡ r.state.env j.id
      value = result_other r.state.env i.id j.id back.result (apart (same_id j.id i.id) refl)

      by_case : (r.state.env j.id ≡ PtrValue None) ⊎ (formula j.op j.ty (map (type_of (types_of f)) j.opds) (map (value_of r.state.env) j.opds) ≡ Some (r.state.env j.id)) →
          (New j.id ≡ PtrValue None) ⊎ (formula j.op j.ty (map (type_of (types_of f)) j.opds) (map (value_of New) j.opds) ≡ Some (New j.id))
      by_case (inl e) = inl (value ∙ e)
      by_case (inr e) = inr (ap (formula j.op j.ty (map (type_of (types_of f)) j.opds)) (same_values j.opds ran.1) ∙ e ∙ ap Some (sym value))

    -- ---- roots

    -- a root that was known before
    abbrev before : Opd → Type 0
    before o = (is_known (length m.globals) k.values o ≡ true) × (value_of New o ≡ value_of r.state.env o)

    root_case : (o : Opd) → is_known (length m.globals) (λ x. same_id i.id x || k.values x) o ≡ true → (o ≡ Val i.id) ⊎ before o
    root_case (Val x) h = by_id (same_id i.id x) refl h where
      by_id : (b : Bool) → same_id i.id x ≡ b → (b || k.values x) ≡ true → (Val x ≡ Val i.id) ⊎ before (Val x)
      by_id true e h = inl (ap Val (sym (same_is i.id x e)))
      by_id false e h = inr (h, same_value x h)
    root_case (Lit l) h = inr (refl, refl)
    root_case (Sym g) h = inr (h, refl)

    -- an alloca's value
    allocated : is_alloca i.op ≡ true → (pointer_of (New i.id) ≡ Some (length r.state.memory, pos 0)) × (length back.memory ≡ length r.state.memory + 1)
    allocated e =
        let a = alloca_gives i.op i.ty Ts Vs r.state.memory (record { result = back.result; memory = back.memory }) e (effect_came back (alloca_no_call i.op e) came) in
        (ap pointer_of (ap (λ o. set_result r.state.env i.id o i.id) a.result ∙ result_own r.state.env i.id (PtrValue (Some (length r.state.memory, pos 0)))), a.longer)

    own_kind : (t : Bool) → is_alloca i.op ≡ t → kind_of m (Val i.id) ≡ cond t Allocated Unknown
    own_kind t e = may.statement.kind ∙ ap (λ t. cond t Allocated Unknown) e

    abbrev object_of : Pointer → ℕ
    object_of None = 0
    object_of (Some p) = p.0

    -- the new value against one that was known
    new_apart : (b : Opd) → before b → same_root (Val i.id) b ≡ false → never_meet (kind_of m (Val i.id)) (kind_of m b) ≡ true → NameOthers (pointer_of (New i.id)) (pointer_of (value_of New b))
    new_apart b old differ never = by_alloca (is_alloca i.op) refl where
      by_alloca : (t : Bool) → is_alloca i.op ≡ t → NameOthers (pointer_of (New i.id)) (pointer_of (value_of New b))
      by_alloca false e = absurd (true_false (sym never ∙ ap (λ (k : Kind). never_meet k (kind_of m b)) (own_kind false e)))
      by_alloca true e = λ o z y ep eq.
          (let here : o ≡ length r.state.memory = ap object_of (sym ep ∙ (allocated e).0) in
          let less : o < length r.state.memory = subst (NamesOne (length r.state.memory)) (ap pointer_of (sym old.1) ∙ eq) (ready.within b old.0 (never_kinds (kind_of m (Val i.id)) (kind_of m b) never).1) in
          absurd (omega arith))

    turn_kinds : (a b : Kind) → never_meet a b ≡ true → never_meet b a ≡ true
    turn_kinds Allocated Allocated h = refl
    turn_kinds Allocated Global h = refl
    turn_kinds Allocated Alone h = refl
    turn_kinds Allocated Argument h = refl
    turn_kinds Allocated Unknown h = absurd (true_false (sym h))
    turn_kinds Global Allocated h = refl
    turn_kinds Global Global h = refl
    turn_kinds Global Alone h = refl
    turn_kinds Global Argument h = absurd (true_false (sym h))
    turn_kinds Global Unknown h = absurd (true_false (sym h))
    turn_kinds Alone Allocated h = refl
    turn_kinds Alone Global h = refl
    turn_kinds Alone Alone h = refl
    turn_kinds Alone Argument h = refl
    turn_kinds Alone Unknown h = absurd (true_false (sym h))
    turn_kinds Argument Allocated h = refl
    turn_kinds Argument Global h = absurd (true_false (sym h))
    turn_kinds Argument Alone h = refl
    turn_kinds Argument Argument h = absurd (true_false (sym h))
    turn_kinds Argument Unknown h = absurd (true_false (sym h))
    turn_kinds Unknown b h = absurd (true_false (sym h))

    turn_root : (a b : Opd) → same_root a b ≡ same_root b a
    turn_root (Val x) (Val y) = swapped x y
    turn_root (Sym g) (Sym h) = grind (arith, nat_tests)
    turn_root (Lit l) (Lit k) = refl
    turn_root (Val x) (Lit l) = refl
    turn_root (Val x) (Sym g) = refl
    turn_root (Lit l) (Val x) = refl
    turn_root (Lit l) (Sym g) = refl
    turn_root (Sym g) (Val x) = refl
    turn_root (Sym g) (Lit l) = refl

    roots : RootsApart m (λ x. same_id i.id x || k.values x) New
    roots a b ha hb differ never = by_case (root_case a ha) (root_case b hb) where
      by_case : (a ≡ Val i.id) ⊎ before a → (b ≡ Val i.id) ⊎ before b → NameOthers (pointer_of (value_of New a)) (pointer_of (value_of New b))
      by_case (inl e) (inl d) = absurd (true_false (sym (same_itself i.id) ∙ ap (λ o. same_root o (Val i.id)) (sym e) ∙ ap (same_root a) (sym d) ∙ differ))
      by_case (inl e) (inr old) =
          subst (λ o. NameOthers (pointer_of (value_of New o)) (pointer_of (value_of New b))) (sym e)
          (new_apart b old (ap (λ o. same_root o b) (sym e) ∙ differ) (ap (λ o. never_meet (kind_of m o) (kind_of m b)) (sym e) ∙ never))
      by_case (inr old) (inl d) =
          let h : NameOthers (pointer_of (New i.id)) (pointer_of (value_of New a)) =
          new_apart a old (turn_root (Val i.id) a ∙ ap (same_root a) (sym d) ∙ differ) (turn_kinds (kind_of m a) (kind_of m (Val i.id)) (ap (λ o. never_meet (kind_of m a) (kind_of m o)) (sym d) ∙ never)) in
          λ o z y ea eb. h o y z (ap (λ x. pointer_of (value_of New x)) (sym d) ∙ eb) ea
      by_case (inr old) (inr also) = λ o z y ea eb. ready.roots a b old.0 also.0 differ never o z y (ap pointer_of (sym old.1) ∙ ea) (ap pointer_of (sym also.1) ∙ eb)

    within : (b : Opd) → is_known (length m.globals) (λ x. same_id i.id x || k.values x) b ≡ true → has_kind (kind_of m b) ≡ true → NamesOne (length back.memory) (pointer_of (value_of New b))
    within b h kind = by_case (root_case b h) where
      more : (p : Pointer) → NamesOne (length r.state.memory) p → NamesOne (length back.memory) p
      more None n = tt
      more (Some p) n = let s = kept.stay in omega arith

      by_alloca : b ≡ Val i.id → (t : Bool) → is_alloca i.op ≡ t → NamesOne (length back.memory) (pointer_of (value_of New b))
      by_alloca d false e = absurd (true_false (sym kind ∙ ap (λ o. has_kind (kind_of m o)) d ∙ ap has_kind (own_kind false e)))
      by_alloca d true e =
          subst (NamesOne (length back.memory)) (sym (ap (λ o. pointer_of (value_of New o)) d ∙ (allocated e).0)) (let l = (allocated e).1 in omega arith)

      by_case : (b ≡ Val i.id) ⊎ before b → NamesOne (length back.memory) (pointer_of (value_of New b))
      by_case (inl d) = by_alloca d (is_alloca i.op) refl
      by_case (inr old) = subst (NamesOne (length back.memory)) (sym (ap pointer_of old.1)) (more (pointer_of (value_of r.state.env b)) (ready.within b old.0 kind))

    found : (x : Id) (j : Inst) → (same_id i.id x || k.values x) ≡ true → find x block ≡ Some j → (is_phi j.op ≡ true) ⊎ ((i ≡ j) ⊎ IsIn j k.done)
    found x j h e = by_id (same_id i.id x) refl h where
      later : (is_phi j.op ≡ true) ⊎ IsIn j k.done → (is_phi j.op ≡ true) ⊎ ((i ≡ j) ⊎ IsIn j k.done)
      later (inl p) = inl p
      later (inr d) = inr (inr d)

      by_id : (b : Bool) → same_id i.id x ≡ b → (b || k.values x) ≡ true → (is_phi j.op ≡ true) ⊎ ((i ≡ j) ⊎ IsIn j k.done)
      by_id true s h = inr (inl (some (sym may.statement.here ∙ ap (λ x. find x block) (same_is i.id x s) ∙ e))) where
        some : Some i ≡ Some j → i ≡ j
        some e = cc
      by_id false s h = later (ready.found x j h e)

    ran : (j : Inst) → (i ≡ j) ⊎ IsIn j k.done → IsStatement m f block j × ((x : Id) → uses x j.opds ≡ true → (same_id i.id x || k.values x) ≡ true)
    ran j (inl e) = subst (λ j. IsStatement m f block j × ((x : Id) → uses x j.opds ≡ true → (same_id i.id x || k.values x) ≡ true)) e
        (may.statement, λ x u. or_second (same_id i.id x) (k.values x) (may.there x u))
    ran j (inr d) = let r = ready.ran j d in (r.0, λ x u. or_second (same_id i.id x) (k.values x) (r.1 x u))

    own : (j : Inst) → (i ≡ j) ⊎ IsIn j k.done → (same_id i.id j.id || k.values j.id) ≡ true
    own j (inl e) = or_first (same_id i.id j.id) (k.values j.id) (ap (λ (j : Inst). same_id i.id j.id) (sym e) ∙ same_itself i.id)
    own j (inr d) = or_second (same_id i.id j.id) (k.values j.id) (ready.own j d)

    pub ready_next : IsReady m f block (next k i) (record { env = set_result r.state.env i.id back.result; memory = back.memory })
    ready_next = record {
      values = values;
      globals = (let g = ready.globals in let s = kept.stay in omega arith);
      found = found;
      ran = ran;
      own = own;
      computed = computed;
      within = within;
      roots = roots;
    }

pub step_ready : StepsKeepReady
step_ready m f formed block calls keep k i r q may ready e =
    by_act (act calls i.op i.ty (map (type_of (types_of f)) i.opds) (map (value_of r.state.env) i.opds) r.state.memory r.left) refl e
  where
    by_act : (w : Went Back) → act calls i.op i.ty (map (type_of (types_of f)) i.opds) (map (value_of r.state.env) i.opds) r.state.memory r.left ≡ w →
        then_go w (reached_with r.state.env i.id) ≡ On q → IsReady m f block (next k i) q.state
    by_act Lost came e = absurd cc
    by_act (Halts memory) came e = absurd cc
    by_act (On back) came e =
        let same : record { state = record { env = set_result r.state.env i.id back.result; memory = back.memory }; left = back.left } ≡ q = cc in
        subst (λ (p : Reached). IsReady m f block (next k i) p.state) same (ready_next m f formed block calls keep k i r may ready back came)
