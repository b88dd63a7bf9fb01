-- What formed says of operands: each is there, and is a value of its function.
use Rattle.std.proofs.Common.{◌≡◌, refl, sym, ap, ◌∙◌, subst, ℕ, zero, suc, ◌≤◌, ◌*◌, Bool, true, false, ◌&&◌, ◌||◌, nat_le, Option, None, Some, List, [], ◌∷◌, map, slice_get, ◌⊎◌, inl, inr, arith}
use Rattle.std.specs.List.{All, Contains}
use Rattle.std.proofs.lemmas.Bool.Decides.{nat_tests}
use Rattle.std.proofs.lemmas.List.Elements.{All-tail}
use Rattle.ir_types.specs.declared.ty.Ty.{Ty}
use Rattle.ir_types.specs.declared.ty.Ty.TheVariants.{Void, Int, Ptr, Row}
use Rattle.ir_types.specs.declared.ty.Elem.{Elem}
use Rattle.ir_types.specs.declared.ty.Elem.TheVariants.{One, Array}
use Rattle.ir_types.specs.declared.op.Op.{Op}
use Rattle.ir_types.specs.declared.op.Op.TheVariants.{Bin, Icmp, Cast, Select, Extract, Insert, Shuffle, Gep, Load, Store, Alloca, Phi, Ret, Br, CondBr, Switch, Unreachable, Call}
use Rattle.ir_types.specs.declared.inst.Inst.{Inst}
use Rattle.ir_types.specs.declared.func.Param.{Param}
use Rattle.ir_types.specs.declared.func.Func.{Func}
use Rattle.ir_types.specs.declared.module.Item.TheVariants.{Func as FuncItem}
use Rattle.ir_types.specs.declared.module.Module.{Module}
use Rattle.ir_types.specs.Typed.{is_width, is_count, is_vector, is_number, is_value, lane_width, with_width, IsTyped, HasTwoIndices}
use Rattle.ir_types.specs.Formed.{opd_ty, IsCalling, IsFormedInst}

-- ---- lists

-- each item, by recursion
abbrev pub Every : {A : Type 0} → (A → Type 0) → List A → Type 0
Every P [] = Unit {0}
Every P (x ∷ xs) = P x × Every P xs

pub every_of_all : {A : Type 0} (P : A → Type 0) (xs : List A) → All P xs → Every P xs
every_of_all P [] h = tt
every_of_all P (x ∷ xs) h = (h 0 x (omega arith), every_of_all P xs (All-tail P x xs h))

pub every_of_each : {A : Type 0} (P : A → Type 0) (xs : List A) → ((k : ℕ) (x : A) → slice_get xs k ≡ Some x → P x) → Every P xs
every_of_each P [] h = tt
every_of_each P (x ∷ xs) h = (h 0 x refl, every_of_each P xs (λ k y e. h (suc k) y e))

pub every_at : {A : Type 0} (P : A → Type 0) (xs : List A) (k : ℕ) (x : A) → Every P xs → slice_get xs k ≡ Some x → P x
every_at P [] k x h e = absurd cc
every_at P (y ∷ xs) zero x h e = subst P (some e) h.0 where
  some : Some y ≡ Some x → y ≡ x
  some e = cc
every_at P (y ∷ xs) (suc k) x h e = every_at P xs k x h.1 e

pub every_more : {A : Type 0} (P Q : A → Type 0) → ((x : A) → P x → Q x) → (xs : List A) → Every P xs → Every Q xs
every_more P Q f [] h = tt
every_more P Q f (x ∷ xs) h = (f x h.0, every_more P Q f xs h.1)

-- ---- operands are there

abbrev pub IsThere : Option Ty → Type 0
IsThere None = ⊥
IsThere (Some t) = Unit {0}

there_params : (ps : List Param) → Every IsThere (map (λ (p : Param). Some p.ty) ps)
there_params [] = tt
there_params (p ∷ ps) = (tt, there_params ps)

is_there : (t : Ty) (u : Option Ty) → u ≡ Some t → IsThere u
is_there t u e = subst IsThere (sym e) tt

two_there : (elem : Elem) (k : ℕ) (tys : List (Option Ty)) → HasTwoIndices elem k tys → Every IsThere tys
two_there (One t) k tys h = elim h [ ]
two_there (Array n w) k tys h = subst (Every IsThere) (sym h.2) (tt, (tt, (tt, tt)))

pub typed_there : (m : Module) (ret : Ty) (op : Op) (t : Ty) (tys : List (Option Ty)) → IsTyped ret op t tys → IsCalling m op t tys → Every IsThere tys
typed_there m ret (Bin op flags) t tys h c = subst (Every IsThere) (sym h.2) (tt, (tt, tt))
typed_there m ret (Icmp pred) t tys h c = subst (Every IsThere) (sym h.3) (tt, (tt, tt))
typed_there m ret (Cast op nneg) t tys h c = subst (Every IsThere) (sym h.5) (tt, tt)
typed_there m ret Select t tys h c = subst (Every IsThere) (sym h.3) (tt, (tt, (tt, tt)))
typed_there m ret Extract t tys h c = subst (Every IsThere) (sym h.6) (tt, (tt, tt))
typed_there m ret Insert t tys h c = subst (Every IsThere) (sym h.6) (tt, (tt, (tt, tt)))
typed_there m ret (Shuffle mask) t tys h c = subst (Every IsThere) (sym h.6) (tt, (tt, tt))
typed_there m ret (Gep elem inbounds) t tys h c = by_shape h.4
  where
    by_shape : (tys ≡ Some Ptr ∷ Some (Int h.0) ∷ []) ⊎ HasTwoIndices elem h.0 tys → Every IsThere tys
    by_shape (inl e) = subst (Every IsThere) (sym e) (tt, (tt, tt))
    by_shape (inr e) = two_there elem h.0 tys e
typed_there m ret (Load align) t tys h c = subst (Every IsThere) (sym h.2) (tt, tt)
typed_there m ret (Store align) t tys h c = subst (Every IsThere) (sym h.2) (tt, (tt, tt))
typed_there m ret (Alloca elem align) t tys h c = subst (Every IsThere) (sym h.3) tt
typed_there m ret (Phi blocks) t tys h c = every_more (λ u. u ≡ Some t) IsThere (is_there t) tys (every_of_all (λ u. u ≡ Some t) tys h.3)
typed_there m ret Ret t tys h c = by_ret h.1
  where
    by_ret : ((ret ≡ Void) × (tys ≡ [])) ⊎ ((is_value ret ≡ true) × (tys ≡ Some ret ∷ [])) → Every IsThere tys
    by_ret (inl e) = subst (Every IsThere) (sym e.1) tt
    by_ret (inr e) = subst (Every IsThere) (sym e.1) (tt, tt)
typed_there m ret (Br to) t tys h c = subst (Every IsThere) (sym h.1) tt
typed_there m ret (CondBr first second) t tys h c = subst (Every IsThere) (sym h.1) (tt, tt)
typed_there m ret (Switch other cases to) t tys h c = subst (Every IsThere) (sym h.6) (tt, tt)
typed_there m ret Unreachable t tys h c = subst (Every IsThere) (sym h.1) tt
typed_there m ret (Call site) t tys h c = subst (Every IsThere) (sym c.4) (there_params c.0.params)

pub opds_there : (m : Module) (f : Func) (number position : ℕ) (i : Inst) → IsFormedInst m f number position i → Every IsThere (map (opd_ty m f) i.opds)
opds_there m f number position i h = typed_there m f.ret i.op i.ty (map (opd_ty m f) i.opds) h.typed h.calling

-- ---- operands are of types that values have

abbrev pub IsValued : Option Ty → Type 0
IsValued None = ⊥
IsValued (Some t) = is_value t ≡ true

number_value : (t : Ty) → is_number t ≡ true → is_value t ≡ true
number_value Ptr h = refl
number_value Void h = h
number_value (Int w) h = h
number_value (Row n w) h = h

int_value : (k : ℕ) → is_width k ≡ true → is_value (Int k) ≡ true
int_value k h = ap (λ b. b || false) h

vector_value : (n w : ℕ) → is_vector (Row n w) ≡ true → is_value (Row n w) ≡ true
vector_value n w h = h

and_left : (a b : Bool) → a && b ≡ true → a ≡ true
and_left true b h = refl
and_left false b h = absurd cc

and_right : (a b : Bool) → a && b ≡ true → b ≡ true
and_right true b h = h
and_right false b h = absurd cc

vector_width : (n w : ℕ) → is_vector (Row n w) ≡ true → is_width w ≡ true
vector_width n w h = and_right (is_count n) (is_width w) (and_left (is_count n && is_width w) (nat_le (n * w) 512) h)

-- a count is at most 16
narrow_rows : (n : ℕ) → is_count n ≡ true → nat_le (n * 1) 512 ≡ true
narrow_rows n h = let few : n ≤ 16 = grind (arith, nat_tests) in grind (arith, nat_tests)

condition_value : (t : Ty) → is_vector t ≡ true → is_value (with_width 1 t) ≡ true
condition_value (Row n w) h =
    ap (λ b. b && is_width 1 && nat_le (n * 1) 512) (and_left (is_count n) (is_width w) (and_left (is_count n && is_width w) (nat_le (n * w) 512) h))
    ∙ narrow_rows n (and_left (is_count n) (is_width w) (and_left (is_count n && is_width w) (nat_le (n * w) 512) h))
condition_value (Int w) h = absurd cc
condition_value Ptr h = absurd cc
condition_value Void h = absurd cc

params_valued : (ps : List Param) → Every (λ (p : Param). is_value p.ty ≡ true) ps → Every IsValued (map (λ (p : Param). Some p.ty) ps)
params_valued [] h = tt
params_valued (p ∷ ps) h = (h.0, params_valued ps h.1)

is_valued : (t : Ty) → is_value t ≡ true → (u : Option Ty) → u ≡ Some t → IsValued u
is_valued t h u e = subst IsValued (sym e) h

module _ (m : Module) (params : (g : Func) → Contains m.items (FuncItem g) → Every (λ (p : Param). is_value p.ty ≡ true) g.params) (ret : Ty) where
  indices_valued : (elem : Elem) (k : ℕ) (tys : List (Option Ty)) → is_width k ≡ true → (tys ≡ Some Ptr ∷ Some (Int k) ∷ []) ⊎ HasTwoIndices elem k tys → Every IsValued tys
  indices_valued elem k tys h (inl e) = subst (Every IsValued) (sym e) (refl, (int_value k h, tt))
  indices_valued (One t) k tys h (inr e) = elim e [ ]
  indices_valued (Array n w) k tys h (inr e) = subst (Every IsValued) (sym e.2) (refl, (int_value k h, (int_value e.0 e.1, tt)))

  pub typed_valued : (op : Op) (t : Ty) (tys : List (Option Ty)) → IsTyped ret op t tys → IsCalling m op t tys → Every IsValued tys
  typed_valued (Bin op flags) t tys h c = subst (Every IsValued) (sym h.2) (number_value t h.0, (number_value t h.0, tt))
  typed_valued (Icmp pred) t tys h c = subst (Every IsValued) (sym h.3) (number_value h.0 h.1, (number_value h.0 h.1, tt))
  typed_valued (Cast op nneg) t tys h c = subst (Every IsValued) (sym h.5) (number_value h.0 h.1, tt)
  typed_valued Select t tys h c = subst (Every IsValued) (sym h.3) (by_condition h.2, (h.1, (h.1, tt)))
    where
      by_condition : (h.0 ≡ Int 1) ⊎ ((is_vector t ≡ true) × (h.0 ≡ with_width 1 t)) → is_value h.0 ≡ true
      by_condition (inl e) = ap is_value e
      by_condition (inr e) = ap is_value e.1 ∙ condition_value t e.0
  typed_valued Extract t tys h c = subst (Every IsValued) (sym h.6) (h.3, (int_value h.2 h.4, tt))
  typed_valued Insert t tys h c = subst (Every IsValued) (sym h.6) (h.3, (int_value h.1 (vector_width h.0 h.1 h.3), (int_value h.2 h.4, tt)))
  typed_valued (Shuffle mask) t tys h c = subst (Every IsValued) (sym h.6) (h.2, (h.2, tt))
  typed_valued (Gep elem inbounds) t tys h c = indices_valued elem h.0 tys h.2 h.4
  typed_valued (Load align) t tys h c = subst (Every IsValued) (sym h.2) (refl, tt)
  typed_valued (Store align) t tys h c = subst (Every IsValued) (sym h.2) (number_value t (and_left (is_number t) (nat_le 8 (lane_width t)) h.0), (refl, tt))
  typed_valued (Alloca elem align) t tys h c = subst (Every IsValued) (sym h.3) tt
  typed_valued (Phi blocks) t tys h c = every_more (λ u. u ≡ Some t) IsValued (is_valued t h.0) tys (every_of_all (λ u. u ≡ Some t) tys h.3)
  typed_valued Ret t tys h c = by_ret h.1
    where
      by_ret : ((ret ≡ Void) × (tys ≡ [])) ⊎ ((is_value ret ≡ true) × (tys ≡ Some ret ∷ [])) → Every IsValued tys
      by_ret (inl e) = subst (Every IsValued) (sym e.1) tt
      by_ret (inr e) = subst (Every IsValued) (sym e.1) (e.0, tt)
  typed_valued (Br to) t tys h c = subst (Every IsValued) (sym h.1) tt
  typed_valued (CondBr first second) t tys h c = subst (Every IsValued) (sym h.1) (refl, tt)
  typed_valued (Switch other cases to) t tys h c = subst (Every IsValued) (sym h.6) (int_value h.0 h.1, tt)
  typed_valued Unreachable t tys h c = subst (Every IsValued) (sym h.1) tt
  typed_valued (Call site) t tys h c = subst (Every IsValued) (sym c.4) (params_valued c.0.params (params c.0 c.1))
