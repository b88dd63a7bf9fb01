-- Along a walk of a formed function: operands have their types' shapes, and a step and a terminator keep that.
use Rattle.std.proofs.Common.{◌≡◌, refl, sym, ap, ◌∙◌, subst, ℕ, zero, suc, ◌+◌, ◌<◌, ◌≤◌, Bool, true, false, Option, None, Some, List, [], ◌∷◌, length, map, cond, nat_eq, nat_lt, slice_get, if◌then◌else◌, ◌⊎◌, inl, inr, arith}
use Rattle.std.specs.List.{AllZip, Contains}
use Rattle.std.proofs.Math.Facts.{sfits_lit}
use Rattle.std.proofs.lemmas.Bool.Decides.{nat_tests}
use Rattle.ir_types.specs.declared.id.Id.{Id}
use Rattle.ir_types.specs.declared.ty.Ty.{Ty}
use Rattle.ir_types.specs.declared.ty.Ty.TheVariants.{Void, Int, Ptr, Row}
use Rattle.ir_types.specs.declared.opd.Opd.{Opd}
use Rattle.ir_types.specs.declared.opd.Opd.TheVariants.{Val, Lit, Sym}
use Rattle.ir_types.specs.declared.op.Op.{Op}
use Rattle.ir_types.specs.declared.op.Op.TheVariants.{Phi, Ret, Br, CondBr, Switch, Unreachable}
use Rattle.ir_types.specs.declared.inst.Inst.{Inst}
use Rattle.ir_types.specs.declared.func.Param.{Param}
use Rattle.ir_types.specs.declared.func.Block.{Block}
use Rattle.ir_types.specs.declared.func.Func.{Func}
use Rattle.ir_types.specs.declared.module.Item.TheVariants.{Func as FuncItem}
use Rattle.ir_types.specs.declared.module.Module.{Module}
use Rattle.ir_types.specs.Typed.{is_value, lane_count, IsTyped}
use Rattle.ir_types.specs.Walks.{IsWalk, EndsAt}
use Rattle.ir_types.specs.Available.{op_targets, graph_of, insts_at, stands_on, walk_end, before_use, IsAvailableFunc}
use Rattle.ir_types.specs.Formed.{given_ty, value_ty, opd_ty, IsOpd, item_ids, IsFormedInst}
use Rattle.ir_model.specs.declared.value.Value.{Value}
use Rattle.ir_model.specs.declared.value.Value.TheVariants.{Lane as LaneValue, Row as RowValue, Ptr as PtrValue}
use Rattle.ir_model.specs.Values.{Lane, Env, same_id, literal_value, value_of, type_of}
use Rattle.ir_model.specs.Memory.{Memory}
use Rattle.ir_model.specs.Step.{State, Went, Lost, Halts, On, Calls, set_result}
use Rattle.ir_model.specs.Run.{Exit, Leaves, To, exit_with, is_terminator, is_phi, chosen, leave, types_of}
use Rattle.ir_model.specs.Shapes.{HasShape, ResultHasShape, IsShaped}
use Rattle.ir_model.specs.Causes.{IsCause}
use Rattle.ir_types.proofs.Formed.{Every, every_of_all, IsValued, typed_valued}
use Rattle.ir_types.proofs.Among.{same_is, swapped}
use Rattle.ir_model.proofs.Rows.{lane_arg, no_arg}
use Rattle.ir_model.proofs.Acts.{same_types}
use Rattle.ir_types.proofs.Among.{Once}
use Rattle.ir_model.proofs.Ids.{value_type, types_agree}
use Rattle.ir_model.proofs.Walked.{stands_next, insts_found, at_contained}

true_false : true ≡ false → ⊥
true_false e = cc

-- ---- shapes

-- objects that come leave the shapes
pub shape_more : (few more : ℕ) (t : Ty) (v : Value) → few ≤ more → HasShape few t v → HasShape more t v
shape_more few more (Int w) (LaneValue a) h z = tt
shape_more few more (Row n w) (RowValue a) h z = z
shape_more few more Ptr (PtrValue None) h z = tt
shape_more few more Ptr (PtrValue (Some p)) h z = let less = z.0 in (omega arith, z.1)
shape_more few more Void v h z = elim z [ ]
shape_more few more (Int w) (RowValue a) h z = elim z [ ]
shape_more few more (Int w) (PtrValue p) h z = elim z [ ]
shape_more few more (Row n w) (LaneValue a) h z = elim z [ ]
shape_more few more (Row n w) (PtrValue p) h z = elim z [ ]
shape_more few more Ptr (LaneValue a) h z = elim z [ ]
shape_more few more Ptr (RowValue a) h z = elim z [ ]

pub result_shape : (objects : ℕ) (t : Ty) (v : Value) → HasShape objects t v → ResultHasShape objects t (Some v)
result_shape objects Void v h = tt
result_shape objects (Int w) v h = h
result_shape objects (Row n w) v h = h
result_shape objects Ptr v h = h

literal_shape : (objects : ℕ) (t : Ty) (lanes : List Lane) → is_value t ≡ true → length lanes ≡ lane_count t → HasShape objects t (literal_value t lanes)
literal_shape objects (Int w) (lane ∷ []) h e = tt
literal_shape objects (Int w) [] h e = absurd cc
literal_shape objects (Int w) (a ∷ b ∷ lanes) h e = absurd cc
literal_shape objects (Row n w) lanes h e = e
literal_shape objects Ptr lanes h e = tt
literal_shape objects Void lanes h e = absurd cc

-- the result that an id was given
result_found : (objects : ℕ) (t : Ty) (env : Env) (id x : Id) (o : Option Value) → is_value t ≡ true → ResultHasShape objects t o → same_id x id ≡ true → HasShape objects t (set_result env id o x)
result_found objects Void env id x o h z e = absurd cc
result_found objects (Int w) env id x (Some v) h z e = subst (λ b. HasShape objects (Int w) (cond b v (env x))) (sym e) z
result_found objects (Row n w) env id x (Some v) h z e = subst (λ b. HasShape objects (Row n w) (cond b v (env x))) (sym e) z
result_found objects Ptr env id x (Some v) h z e = subst (λ b. HasShape objects Ptr (cond b v (env x))) (sym e) z
result_found objects (Int w) env id x None h z e = elim z [ ]
result_found objects (Row n w) env id x None h z e = elim z [ ]
result_found objects Ptr env id x None h z e = elim z [ ]

-- other ids keep their values
result_other : (env : Env) (id x : Id) (o : Option Value) → same_id x id ≡ false → set_result env id o x ≡ env x
result_other env id x None e = refl
result_other env id x (Some v) e = ap (λ b. cond b v (env x)) e

-- ---- what no phi is

pub walk_end_plain : (op : Op) (slot at : ℕ) → is_phi op ≡ false → walk_end op slot at ≡ Some at
walk_end_plain (Phi blocks) slot at h = absurd (true_false h)
walk_end_plain op slot at h = refl

pub before_plain : (op : Op) (last : List Inst) (k : ℕ) → is_phi op ≡ false → before_use op last k ≡ k
before_plain (Phi blocks) last k h = absurd (true_false h)
before_plain op last k h = refl

-- ---- operands

abbrev Somes : List Ty → List (Option Ty)
Somes ts = map (λ (t : Ty). Some t) ts

pub record OpdShape (m : Module) (f : Func) (s : State) (o : Opd) : Type 0 where
  pub type : opd_ty m f o ≡ Some (type_of (types_of f) o)
  pub shape : HasShape (length s.memory) (type_of (types_of f) o) (value_of s.env o)

pub record OpdsShape (m : Module) (f : Func) (s : State) (os : List Opd) : Type 0 where
  pub types : map (opd_ty m f) os ≡ Somes (map (type_of (types_of f)) os)
  pub shapes : AllZip (HasShape (length s.memory)) (map (type_of (types_of f)) os) (map (value_of s.env) os)

module _ (m : Module) (f : Func) where
  pub opd_shape : (walk : List ℕ) (before : ℕ) (s : State) → IsShaped m f walk before s → (o : Opd) → IsOpd o →
      ((x : Id) → o ≡ Val x → stands_on f x before walk ≡ true) → IsValued (opd_ty m f o) → OpdShape m f s o
  opd_shape walk before s z (Val x) h stands v = by_type (value_ty f x) refl v
    where
      by_type : (u : Option Ty) → value_ty f x ≡ u → IsValued u → OpdShape m f s (Val x)
      by_type None e v = elim v [ ]
      by_type (Some t) e v = record {
        type = e ∙ ap Some (sym (types_agree f x t e v));
        shape = subst (λ u. HasShape (length s.memory) u (s.env x)) (sym (types_agree f x t e v)) (z.values x t e v (stands x refl));
      }
  opd_shape walk before s z (Lit l) h stands v = record { type = refl; shape = literal_shape (length s.memory) l.ty l.lanes h.0 h.1 }
  opd_shape walk before s z (Sym g) h stands v = by_test (nat_lt g (length m.globals)) refl v
    where
      by_test : (b : Bool) → nat_lt g (length m.globals) ≡ b → IsValued (if b then Some Ptr else None) → OpdShape m f s (Sym g)
      by_test false e v = elim v [ ]
      by_test true e v = record {
        type = ap (λ b. if b then Some Ptr else None) e;
        shape = (let less : g < length m.globals = grind (arith, nat_tests) in let more = z.globals in omega arith, sfits_lit tt);
      }

  pub opds_shape : (walk : List ℕ) (before : ℕ) (s : State) → IsShaped m f walk before s → (os : List Opd) → Every IsOpd os →
      ((k : ℕ) (x : Id) → slice_get os k ≡ Some (Val x) → stands_on f x before walk ≡ true) → Every IsValued (map (opd_ty m f) os) → OpdsShape m f s os
  opds_shape walk before s z [] h stands v = record { types = refl; shapes = tt }
  opds_shape walk before s z (o ∷ os) h stands v =
      let first = opd_shape walk before s z o h.0 (λ x e. stands 0 x (ap Some e)) v.0 in
      let rest = opds_shape walk before s z os h.1 (λ k x e. stands (suc k) x e) v.1 in
      record {
        types = ap (λ u. u ∷ map (opd_ty m f) os) first.type ∙ ap (λ us. Some (type_of (types_of f) o) ∷ us) rest.types;
        shapes = (first.shape, rest.shapes);
      }

-- ---- an instruction of a block

module _ (m : Module) (f : Func) (params : (g : Func) → Contains m.items (FuncItem g) → Every (λ (p : Param). is_value p.ty ≡ true) g.params)
    (available : IsAvailableFunc f) (once : Once (item_ids (FuncItem f)))
    (at : ℕ) (b : Block) (found : slice_get f.blocks at ≡ Some b) where
  -- the operands of what is no phi
  pub inst_shape : (walk : List ℕ) → IsWalk (graph_of f) walk → EndsAt walk at → (k : ℕ) (i : Inst) → slice_get b.insts k ≡ Some i → IsFormedInst m f at k i → is_phi i.op ≡ false →
      (s : State) → IsShaped m f walk k s → OpdsShape m f s i.opds
  inst_shape walk walks ends k i here h plain s z =
      opds_shape m f walk k s z i.opds (every_of_all IsOpd i.opds h.operands)
      (λ slot x e. subst (λ n. stands_on f x n walk ≡ true) (before_plain i.op (insts_at f at) k plain)
      (available at b found k i here slot (Val x) e at (walk_end_plain i.op slot at plain) walk walks ends))
      (typed_valued m params f.ret i.op i.ty (map (opd_ty m f) i.opds) h.typed h.calling)

  -- where a result has the shape of what the instruction gives, all that stands is of its shape again
  pub next_shaped : (walk : List ℕ) → EndsAt walk at → (k : ℕ) (i : Inst) → slice_get b.insts k ≡ Some i → (s : State) → IsShaped m f walk k s →
      (result : Option Value) (memory : Memory) → ResultHasShape (length memory) (given_ty i.op i.ty) result → length s.memory ≤ length memory →
      IsShaped m f walk (k + 1) (record { env = set_result s.env i.id result; memory = memory })
  next_shaped walk ends k i here s z result memory shape stay = record {
    values = λ x t e v st. by_id x t e v st (same_id x i.id) refl;
    globals = let more = z.globals in omega arith;
  }
    where
      by_id : (x : Id) (t : Ty) → value_ty f x ≡ Some t → is_value t ≡ true → stands_on f x (k + 1) walk ≡ true → (same : Bool) → same_id x i.id ≡ same →
          HasShape (length memory) t (set_result s.env i.id result x)
      by_id x t e v st true same =
          let type : given_ty i.op i.ty ≡ t = some (sym (value_type f at b k i found here once) ∙ sym (ap (value_ty f) (same_is x i.id same)) ∙ e) in
          result_found (length memory) t s.env i.id x result v (subst (λ u. ResultHasShape (length memory) u result) type shape) same
        where
          some : Some (given_ty i.op i.ty) ≡ Some t → given_ty i.op i.ty ≡ t
          some e = cc
      by_id x t e v st false same =
          subst (λ w. HasShape (length memory) t w) (sym (result_other s.env i.id x result same))
          (by_stand (stands_next f x walk at k i ends (ap (λ is. slice_get is k) (insts_found f at b found) ∙ here) st))
        where
          by_stand : (stands_on f x k walk ≡ true) ⊎ (same_id i.id x ≡ true) → HasShape (length memory) t (s.env x)
          by_stand (inl st) = shape_more (length s.memory) (length memory) t (s.env x) stay (z.values x t e v st)
          by_stand (inr is) = absurd (true_false (sym is ∙ swapped i.id x ∙ same))

-- ---- terminators

abbrev pub LeftShape : Func → Calls → Op → Ty → List Value → State → ℕ → Went Exit → Type 0
LeftShape f calls op t vs s left Lost = IsCause calls op t vs s.memory left
LeftShape f calls op t vs s left (Halts m) = ⊥
LeftShape f calls op t vs s left (On (Leaves back)) = ResultHasShape (length s.memory) f.ret back.result × (back.memory ≡ s.memory)
LeftShape f calls op t vs s left (On (To to r)) = Contains (op_targets op) to × (r.state ≡ s)

-- a switch goes on to one of its blocks
chosen_at : (n other : ℕ) (cases : List Lane) (tos : List ℕ) → (k : ℕ) × (slice_get (other ∷ tos) k ≡ Some (chosen n other cases tos))
chosen_at n other [] tos = (0, refl)
chosen_at n other (c ∷ cases) [] = by_case c where
  by_case : (c : Lane) → (k : ℕ) × (slice_get (other ∷ []) k ≡ Some (chosen n other (c ∷ cases) []))
  by_case None = (0, refl)
  by_case (Some c) = (0, refl)
chosen_at n other (None ∷ cases) (to ∷ tos) = further other to tos (chosen n other cases tos) (chosen_at n other cases tos) where
  further : (other to : ℕ) (tos : List ℕ) (y : ℕ) → (k : ℕ) × (slice_get (other ∷ tos) k ≡ Some y) → (k : ℕ) × (slice_get (other ∷ to ∷ tos) k ≡ Some y)
  further other to tos y (zero, e) = (0, e)
  further other to tos y (suc k, e) = (suc (suc k), e)
chosen_at n other (Some c ∷ cases) (to ∷ tos) = by_test (nat_eq n c) (chosen_at n other cases tos) where
  further : (other to : ℕ) (tos : List ℕ) (y : ℕ) → (k : ℕ) × (slice_get (other ∷ tos) k ≡ Some y) → (k : ℕ) × (slice_get (other ∷ to ∷ tos) k ≡ Some y)
  further other to tos y (zero, e) = (0, e)
  further other to tos y (suc k, e) = (suc (suc k), e)

  by_test : (t : Bool) → (k : ℕ) × (slice_get (other ∷ tos) k ≡ Some (chosen n other cases tos)) → (k : ℕ) × (slice_get (other ∷ to ∷ tos) k ≡ Some (cond t to (chosen n other cases tos)))
  by_test true r = (1, refl)
  by_test false r = further other to tos (chosen n other cases tos) r

one_value : (P : List Value → Type 0) (o : ℕ) (t : Ty) (vs : List Value) → AllZip (HasShape o) (t ∷ []) vs → ((v : Value) → HasShape o t v → P (v ∷ [])) → P vs
one_value P o t (v ∷ []) z h = h v z.0
one_value P o t (v ∷ w ∷ vs) z h = elim z.1 [ ]
one_value P o t [] z h = elim z [ ]

module _ (f : Func) (calls : Calls) (s : State) (left : ℕ) where
  abbrev Left : Op → Ty → List Value → Type 0
  Left op t vs = LeftShape f calls op t vs s left (exit_with left (leave op vs s))

  pub leaves : (op : Op) (t : Ty) (types : List Ty) (vs : List Value) → IsTyped f.ret op t (Somes types) → is_terminator op ≡ true → AllZip (HasShape (length s.memory)) types vs → Left op t vs
  leaves Ret t types vs h e z = by_ret h.1
    where
      by_ret : ((f.ret ≡ Void) × (Somes types ≡ [])) ⊎ ((is_value f.ret ≡ true) × (Somes types ≡ Some f.ret ∷ [])) → Left Ret t vs
      by_ret (inl e) =
          no_arg (λ us. Left Ret t us) (length s.memory) vs (subst (λ ts. AllZip (HasShape (length s.memory)) ts vs) (same_types types [] e.1) z)
          (subst (λ u. ResultHasShape (length s.memory) u None) (sym e.0) tt, refl)
      by_ret (inr e) =
          one_value (λ us. Left Ret t us) (length s.memory) f.ret vs (subst (λ ts. AllZip (HasShape (length s.memory)) ts vs) (same_types types (f.ret ∷ []) e.1) z)
          (λ v shape. (result_shape (length s.memory) f.ret v shape, refl))
  leaves (Br to) t types vs h e z = (at_contained (to ∷ []) 0 to refl, refl)
  leaves (CondBr first second) t types vs h e z =
      lane_arg (λ us. Left (CondBr first second) t us) (length s.memory) 1 [] vs (subst (λ ts. AllZip (HasShape (length s.memory)) ts vs) (same_types types (Int 1 ∷ []) h.1) z)
      (λ a us more. no_arg (λ us. Left (CondBr first second) t (LaneValue a ∷ us)) (length s.memory) us more (by_lane a))
    where
      by_test : (n : ℕ) (b : Bool) → Contains (first ∷ second ∷ []) (cond b second first)
      by_test n true = at_contained (first ∷ second ∷ []) 1 second refl
      by_test n false = at_contained (first ∷ second ∷ []) 0 first refl

      by_lane : (a : Lane) → Left (CondBr first second) t (LaneValue a ∷ [])
      by_lane None = tt
      by_lane (Some n) = (by_test n (nat_eq n 0), refl)
  leaves (Switch other cases tos) t types vs h e z =
      lane_arg (λ us. Left (Switch other cases tos) t us) (length s.memory) h.0 [] vs (subst (λ ts. AllZip (HasShape (length s.memory)) ts vs) (same_types types (Int h.0 ∷ []) h.6) z)
      (λ a us more. no_arg (λ us. Left (Switch other cases tos) t (LaneValue a ∷ us)) (length s.memory) us more (by_lane a))
    where
      by_lane : (a : Lane) → Left (Switch other cases tos) t (LaneValue a ∷ [])
      by_lane None = tt
      by_lane (Some n) = let k = chosen_at n other cases tos in (at_contained (other ∷ tos) k.0 (chosen n other cases tos) k.1, refl)
  leaves Unreachable t types vs h e z = tt
  leaves op t types vs h e z = absurd (true_false (sym e))

-- a terminator gives nothing
pub gives_nothing : (f : Func) (op : Op) (t : Ty) (tys : List (Option Ty)) → IsTyped f.ret op t tys → is_terminator op ≡ true → given_ty op t ≡ Void
gives_nothing f Ret t tys h e = h.0
gives_nothing f (Br to) t tys h e = h.0
gives_nothing f (CondBr first second) t tys h e = h.0
gives_nothing f (Switch other cases to) t tys h e = h.2
gives_nothing f Unreachable t tys h e = h.0
gives_nothing f op t tys h e = absurd (true_false (sym e))
