-- An instruction of a formed module, at operands of their types' shapes: it is undefined for a cause alone, or is cut, or gives what has
-- its type's shape.
use Rattle.std.proofs.Common.{◌≡◌, refl, sym, ap, ◌∙◌, subst, ℕ, ◌≤◌, Bool, true, false, ◌&&◌, ◌⊎◌, inl, inr, Option, None, Some, List, [], ◌∷◌, length, map, nat_le}
use Rattle.std.specs.List.{AllZip}
use Rattle.ir_types.specs.declared.ty.Ty.{Ty}
use Rattle.ir_types.specs.declared.ty.Ty.TheVariants.{Void, Int, Ptr, Row}
use Rattle.ir_types.specs.declared.ty.Elem.{Elem}
use Rattle.ir_types.specs.declared.ty.Elem.TheVariants.{One, Array}
use Rattle.ir_types.specs.declared.call_site.CallSite.{CallSite}
use Rattle.ir_types.specs.declared.op.Op.{Op}
use Rattle.ir_types.specs.declared.op.Op.TheVariants.{Bin, Icmp, Cast, Select, Extract, Insert, Shuffle, Gep, Load, Store, Alloca, Phi, Ret, Br, CondBr, Switch, Unreachable, Call}
use Rattle.ir_types.specs.declared.func.Param.{Param}
use Rattle.ir_types.specs.declared.module.Module.{Module}
use Rattle.ir_types.specs.Typed.{is_number, is_width, lane_width, HasTwoIndices, IsTyped}
use Rattle.ir_types.specs.Formed.{given_ty, IsCalling}
use Rattle.ir_model.specs.declared.value.Value.{Value}
use Rattle.ir_model.specs.declared.value.Value.TheVariants.{Ptr as PtrValue}
use Rattle.ir_model.specs.Memory.{Memory}
use Rattle.ir_model.specs.Sizes.{size_of}
use Rattle.ir_model.specs.Operations.{bin_value, cmp_value, cast_value, select_value, extract_value, insert_value, shuffle_value}
use Rattle.ir_model.specs.Addresses.{address_value, inbounds_value}
use Rattle.ir_model.specs.Accesses.{Effect}
use Rattle.ir_model.specs.Step.{Went, Lost, Halts, On, Back, Calls, back_with, act, effect_of}
use Rattle.ir_model.specs.Run.{is_terminator, is_phi}
use Rattle.ir_model.specs.Shapes.{HasShape, ResultHasShape, CallsKeepShapes}
use Rattle.ir_model.specs.Causes.{DividesBadly, IsBadAccess, IsCause}
use Rattle.ir_model.proofs.Rows.{EffectRow, value_row, ptr_arg, no_arg, Indices, bin_row, cmp_row, cast_row, select_row, extract_row, insert_row, shuffle_row, address_row, inbounds_row, load_row, store_row, alloca_row}

-- what an instruction came to
pub record KeptBack (t : Ty) (objects : ℕ) (b : Back) : Type 0 where
  pub result : ResultHasShape (length b.memory) t b.result
  pub stay : objects ≤ length b.memory

abbrev pub BackRow : Type 0 → Ty → ℕ → Went Back → Type 0
BackRow C t objects Lost = C
BackRow C t objects (Halts m) = Unit {0}
BackRow C t objects (On b) = KeptBack t objects b

back_row : (C : Type 0) (t : Ty) (objects left : ℕ) (e : Option Effect) → EffectRow C t objects e → BackRow C t objects (back_with left e)
back_row C t objects left None h = h
back_row C t objects left (Some e) h = record { result = h.result; stay = h.stay }

-- types that are there are told by what they are
pub same_types : (ts us : List Ty) → map (λ (t : Ty). Some t) ts ≡ map (λ (t : Ty). Some t) us → ts ≡ us
same_types [] [] e = refl
same_types (t ∷ ts) (u ∷ us) e =
    let first : t ≡ u = cc in
    let rest : map (λ (t : Ty). Some t) ts ≡ map (λ (t : Ty). Some t) us = cc in
    ap (λ x. x ∷ ts) first ∙ ap (λ xs. u ∷ xs) (same_types ts us rest)
same_types [] (u ∷ us) e = absurd cc
same_types (t ∷ ts) [] e = absurd cc

and_left : (a b : Bool) → a && b ≡ true → a ≡ true
and_left true b h = refl
and_left false b h = absurd cc

-- the types of parameters
param_types : (ps : List Param) (ts : List Ty) → map (λ (t : Ty). Some t) ts ≡ map (λ (p : Param). Some p.ty) ps → ts ≡ map (λ (p : Param). p.ty) ps
param_types [] [] e = refl
param_types (p ∷ ps) (t ∷ ts) e =
    let first : t ≡ p.ty = cc in
    let rest : map (λ (t : Ty). Some t) ts ≡ map (λ (p : Param). Some p.ty) ps = cc in
    ap (λ x. x ∷ ts) first ∙ ap (λ xs. p.ty ∷ xs) (param_types ps ts rest)
param_types [] (t ∷ ts) e = absurd cc
param_types (p ∷ ps) [] e = absurd cc

param_shapes : (objects : ℕ) (ps : List Param) (vs : List Value) → AllZip (HasShape objects) (map (λ (p : Param). p.ty) ps) vs → AllZip (λ (p : Param) v. HasShape objects p.ty v) ps vs
param_shapes objects [] [] z = tt
param_shapes objects (p ∷ ps) (v ∷ vs) z = (z.0, param_shapes objects ps vs z.1)
param_shapes objects [] (v ∷ vs) z = elim z [ ]
param_shapes objects (p ∷ ps) [] z = elim z [ ]

abbrev Somes : List Ty → List (Option Ty)
Somes ts = map (λ (t : Ty). Some t) ts

-- ---- addresses

indices : (elem : Elem) (k : ℕ) (types : List Ty) → is_width k ≡ true → (Somes types ≡ Some Ptr ∷ Some (Int k) ∷ []) ⊎ HasTwoIndices elem k (Somes types) → Indices elem types
indices elem k types h (inl e) = (k, h, inl (same_types types (Ptr ∷ Int k ∷ []) e))
indices (One t) k types h (inr e) = elim e [ ]
indices (Array n w) k types h (inr e) = (k, h, inr (n, w, e.0, refl, e.1, same_types types (Ptr ∷ Int k ∷ Int e.0 ∷ []) e.2))

-- ---- all forms that step

any_value : (P : List Value → Type 0) (o : ℕ) (t : Ty) (ts : List Ty) (vs : List Value) → AllZip (HasShape o) (t ∷ ts) vs →
    ((v : Value) (us : List Value) → HasShape o t v → AllZip (HasShape o) ts us → P (v ∷ us)) → P vs
any_value P o t ts (v ∷ us) z h = h v us z.0 z.1
any_value P o t ts [] z h = elim z [ ]

no_true : false ≡ true → ⊥
no_true e = cc

true_false : true ≡ false → ⊥
true_false e = cc

module _ (m : Module) (calls : Calls) (keep : CallsKeepShapes m calls) (ret : Ty) (mem : Memory) (left : ℕ) (globals : length m.globals ≤ length mem) where
  abbrev Acted : Op → Ty → List Ty → List Value → Type 0
  Acted op t types vs = BackRow (IsCause calls op t vs mem left) (given_ty op t) (length mem) (act calls op t types vs mem left)

  call_acts : (site : CallSite) (t : Ty) (types : List Ty) (vs : List Value) →
      IsCalling m (Call site) t (Somes types) → AllZip (HasShape (length mem)) types vs → (w : Went Back) → calls site.callee vs mem left ≡ w →
      BackRow (calls site.callee vs mem left ≡ Lost) t (length mem) w
  call_acts site t types vs h z Lost e = e
  call_acts site t types vs h z (Halts n) e = tt
  call_acts site t types vs h z (On b) e =
      let back = keep h.0 h.1 vs mem left b
      (param_shapes (length mem) h.0.params vs (subst (λ ts. AllZip (HasShape (length mem)) ts vs) (param_types h.0.params types h.4) z)) globals
      (ap (λ name. calls name vs mem left) h.2 ∙ e) in
      record { result = subst (λ u. ResultHasShape (length b.memory) u b.result) (sym h.3) back.result; stay = back.objects_stay }

  pub acts : (op : Op) (t : Ty) (types : List Ty) (vs : List Value) → IsTyped ret op t (Somes types) → IsCalling m op t (Somes types) →
      is_terminator op ≡ false → is_phi op ≡ false → AllZip (HasShape (length mem)) types vs → Acted op t types vs
  acts (Bin op flags) t types vs h c _ _ z =
      back_row (DividesBadly op t vs) t (length mem) left (effect_of (Bin op flags) t types vs mem)
      (value_row (DividesBadly op t vs) t mem (bin_value op flags t vs)
      (bin_row op flags (length mem) t vs h.0 (subst (λ ts. AllZip (HasShape (length mem)) ts vs) (same_types types (t ∷ t ∷ []) h.2) z)))
  acts (Icmp pred) t types vs h c _ _ z =
      let e = same_types types (h.0 ∷ h.0 ∷ []) h.3 in
      subst (λ ts. Acted (Icmp pred) t ts vs) (sym e)
      (back_row ⊥ t (length mem) left (effect_of (Icmp pred) t (h.0 ∷ h.0 ∷ []) vs mem)
      (value_row ⊥ t mem (cmp_value pred t h.0 vs) (cmp_row pred (length mem) t h.0 vs h.1 h.2 (subst (λ ts. AllZip (HasShape (length mem)) ts vs) e z))))
  acts (Cast op nneg) t types vs h c _ _ z =
      let e = same_types types (h.0 ∷ []) h.5 in
      subst (λ ts. Acted (Cast op nneg) t ts vs) (sym e)
      (back_row ⊥ t (length mem) left (effect_of (Cast op nneg) t (h.0 ∷ []) vs mem)
      (value_row ⊥ t mem (cast_value op nneg t h.0 vs) (cast_row op nneg (length mem) t h.0 vs h.1 h.2 h.3 (subst (λ ts. AllZip (HasShape (length mem)) ts vs) e z))))
  acts Select t types vs h c _ _ z =
      back_row ⊥ t (length mem) left (effect_of Select t types vs mem)
      (value_row ⊥ t mem (select_value t vs)
      (select_row (length mem) t h.0 vs h.1 h.2 (subst (λ ts. AllZip (HasShape (length mem)) ts vs) (same_types types (h.0 ∷ t ∷ t ∷ []) h.3) z)))
  acts Extract t types vs h c _ _ z =
      let e = same_types types (Row h.0 h.1 ∷ Int h.2 ∷ []) h.6 in
      subst (λ u. Acted Extract u types vs) (sym h.5)
      (subst (λ ts. Acted Extract (Int h.1) ts vs) (sym e)
      (back_row ⊥ (Int h.1) (length mem) left (effect_of Extract (Int h.1) (Row h.0 h.1 ∷ Int h.2 ∷ []) vs mem)
      (value_row ⊥ (Int h.1) mem (extract_value (Row h.0 h.1) vs) (extract_row (length mem) h.0 h.1 h.2 vs (subst (λ ts. AllZip (HasShape (length mem)) ts vs) e z)))))
  acts Insert t types vs h c _ _ z =
      subst (λ u. Acted Insert u types vs) (sym h.5)
      (back_row ⊥ (Row h.0 h.1) (length mem) left (effect_of Insert (Row h.0 h.1) types vs mem)
      (value_row ⊥ (Row h.0 h.1) mem (insert_value (Row h.0 h.1) vs)
      (insert_row (length mem) h.0 h.1 h.2 vs (subst (λ ts. AllZip (HasShape (length mem)) ts vs) (same_types types (Row h.0 h.1 ∷ Int h.1 ∷ Int h.2 ∷ []) h.6) z))))
  acts (Shuffle mask) t types vs h c _ _ z =
      let e = same_types types (Row h.0 h.1 ∷ Row h.0 h.1 ∷ []) h.6 in
      subst (λ u. Acted (Shuffle mask) u types vs) (sym h.4)
      (subst (λ ts. Acted (Shuffle mask) (Row (length mask) h.1) ts vs) (sym e)
      (back_row ⊥ (Row (length mask) h.1) (length mem) left (effect_of (Shuffle mask) (Row (length mask) h.1) (Row h.0 h.1 ∷ Row h.0 h.1 ∷ []) vs mem)
      (value_row ⊥ (Row (length mask) h.1) mem (shuffle_value mask (Row h.0 h.1) vs)
      (shuffle_row (length mem) h.0 h.1 mask vs (subst (λ ts. AllZip (HasShape (length mem)) ts vs) e z)))))
  acts (Gep elem false) t types vs h c _ _ z =
      subst (λ u. Acted (Gep elem false) u types vs) (sym h.3)
      (back_row ⊥ Ptr (length mem) left (effect_of (Gep elem false) Ptr types vs mem)
      (value_row ⊥ Ptr mem (address_value elem Ptr types vs) (address_row elem (length mem) types vs (indices elem h.0 types h.2 h.4) z)))
  acts (Gep elem true) t types vs h c _ _ z =
      subst (λ u. Acted (Gep elem true) u types vs) (sym h.3)
      (back_row ⊥ Ptr (length mem) left (effect_of (Gep elem true) Ptr types vs mem)
      (value_row ⊥ Ptr mem (inbounds_value elem Ptr types vs mem) (inbounds_row elem (length mem) types vs mem (indices elem h.0 types h.2 h.4) z)))
  acts (Load align) t types vs h c _ _ z =
      ptr_arg (λ us. Acted (Load align) t types us) (length mem) [] vs (subst (λ ts. AllZip (HasShape (length mem)) ts vs) (same_types types (Ptr ∷ []) h.2) z)
      (λ p us f more. no_arg (λ us. Acted (Load align) t types (PtrValue p ∷ us)) (length mem) us more
      (back_row (IsBadAccess (size_of t) align p mem) t (length mem) left (effect_of (Load align) t types (PtrValue p ∷ []) mem)
      (load_row align t p mem (and_left (is_number t) (nat_le 8 (lane_width t)) h.0) f)))
  acts (Store align) t types vs h c _ _ z =
      any_value (λ us. Acted (Store align) t types us) (length mem) t (Ptr ∷ []) vs (subst (λ ts. AllZip (HasShape (length mem)) ts vs) (same_types types (t ∷ Ptr ∷ []) h.2) z)
      (λ v us s more. ptr_arg (λ us. Acted (Store align) t types (v ∷ us)) (length mem) [] us more
      (λ p us f more. no_arg (λ us. Acted (Store align) t types (v ∷ PtrValue p ∷ us)) (length mem) us more
      (back_row (IsBadAccess (size_of t) align p mem) Void (length mem) left (effect_of (Store align) t types (v ∷ PtrValue p ∷ []) mem)
      (store_row align t v p mem (and_left (is_number t) (nat_le 8 (lane_width t)) h.0) s f))))
  acts (Alloca elem align) t types vs h c _ _ z =
      subst (λ u. Acted (Alloca elem align) u types vs) (sym h.2)
      (no_arg (λ us. Acted (Alloca elem align) Ptr types us) (length mem) vs (subst (λ ts. AllZip (HasShape (length mem)) ts vs) (same_types types [] h.3) z)
      (back_row ⊥ Ptr (length mem) left (effect_of (Alloca elem align) Ptr types [] mem) (alloca_row ⊥ elem mem)))
  acts (Call site) t types vs h c _ _ z = call_acts site t types vs c z (calls site.callee vs mem left) refl
  acts (Phi blocks) t types vs h c a b z = absurd (true_false b)
  acts Ret t types vs h c a b z = absurd (true_false a)
  acts (Br to) t types vs h c a b z = absurd (true_false a)
  acts (CondBr first second) t types vs h c a b z = absurd (true_false a)
  acts (Switch other cases to) t types vs h c a b z = absurd (true_false a)
  acts Unreachable t types vs h c a b z = absurd (true_false a)
