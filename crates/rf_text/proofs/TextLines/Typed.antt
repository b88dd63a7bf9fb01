-- What an instruction of the profile takes is never of type `void`.
use Rattle.std.proofs.Common.{◌≡◌, ℕ, ◌⊎◌, inl, inr, true, false, List, [], ◌∷◌, Option, Some, None, refl, sym, subst}
use Rattle.std.proofs.lemmas.List.Elements.{All-head, All-tail}
use Rattle.std.specs.List.{All}
use Rattle.ir_lex.proofs.Classes.{both, clash}
use Rattle.ir_types.specs.declared.ty.Ty.{Ty}
use Rattle.ir_types.specs.declared.ty.Ty.TheVariants.{Void, Int, Ptr, Row}
use Rattle.ir_types.specs.declared.ty.Elem.{Elem}
use Rattle.ir_types.specs.declared.ty.Elem.TheVariants.{One, Array}
use Rattle.ir_types.specs.declared.op.Op.{Op}
use Rattle.ir_types.specs.declared.op.Op.TheVariants.{Bin, Icmp, Cast, Select, Extract, Insert, Shuffle, Gep, Load, Store, Alloca, Phi, Ret, Br, CondBr, Switch, Unreachable, Call}
use Rattle.ir_types.specs.Typed.{is_number, is_value, is_vector, is_stored, with_width, HasTwoIndices, IsTyped}
use Rattle.ir_print.specs.Names.{is_void}
use Rattle.rf_text.specs.Shown.{is_call}
use Rattle.rf_text.proofs.Insts.Each.{value_no_void}

-- types that are there, none of them `void`
abbrev pub Solid : List (Option Ty) → Type 0
Solid [] = Unit {0}
Solid (None ∷ us) = ⊥
Solid (Some t ∷ us) = (is_void t ≡ false) × Solid us

solid_is : {us vs : List (Option Ty)} → us ≡ vs → Solid vs → Solid us
solid_is {us} {vs} e h = subst Solid (sym e) h

number_no_void : (t : Ty) → is_number t ≡ true → is_void t ≡ false
number_no_void Void h = sym h
number_no_void (Int w) h = refl
number_no_void Ptr h = refl
number_no_void (Row n w) h = refl

wide_no_void : (w : ℕ) (t : Ty) → is_value t ≡ true → is_void (with_width w t) ≡ false
wide_no_void w Void h = sym h
wide_no_void w (Int v) h = refl
wide_no_void w Ptr h = refl
wide_no_void w (Row n v) h = refl

stored_no_void : (t : Ty) → is_stored t ≡ true → is_void t ≡ false
stored_no_void t h = number_no_void t (both (is_number t) _ h).0

choice_no_void : (c t : Ty) → is_value t ≡ true → (c ≡ Int 1) ⊎ ((is_vector t ≡ true) × (c ≡ with_width 1 t)) → is_void c ≡ false
choice_no_void c t v (inl e) = rw e refl
choice_no_void c t v (inr e) = rw (e.1) (wide_no_void 1 t v)

steps_solid : (elem : Elem) (k : ℕ) (us : List (Option Ty)) → (us ≡ Some Ptr ∷ Some (Int k) ∷ []) ⊎ HasTwoIndices elem k us → Solid us
steps_solid elem k us (inl e) = solid_is e (refl, (refl, tt))
steps_solid (One t) k us (inr e) = absurd e
steps_solid (Array n w) k us (inr (j, is, e)) = solid_is e (refl, (refl, (refl, tt)))

same_solid : (t : Ty) (us : List (Option Ty)) → is_void t ≡ false → All (λ u. u ≡ Some t) us → Solid us
same_solid t [] n all = tt
same_solid t (u ∷ us) n all =
    solid_is {us = u ∷ us} {vs = Some t ∷ us} (rw (All-head (λ (u : Option Ty). u ≡ Some t) u us all) refl) (n, same_solid t us n (All-tail (λ (u : Option Ty). u ≡ Some t) u us all))

given_solid : (ret : Ty) (us : List (Option Ty)) → ((ret ≡ Void) × (us ≡ [])) ⊎ ((is_value ret ≡ true) × (us ≡ Some ret ∷ [])) → Solid us
given_solid ret us (inl e) = solid_is (e.1) tt
given_solid ret us (inr e) = solid_is (e.1) (value_no_void ret e.0, tt)

pub typed_solid : (ret : Ty) (op : Op) (t : Ty) (us : List (Option Ty)) → is_call op ≡ false → IsTyped ret op t us → Solid us
typed_solid ret (Bin op flags) t us other (n, fs, e) = solid_is e (number_no_void t n, (number_no_void t n, tt))
typed_solid ret (Icmp pred) t us other (u, n, is, e) = solid_is e (number_no_void u n, (number_no_void u n, tt))
typed_solid ret (Cast op nneg) t us other (u, n, m, is, c, e) = solid_is e (number_no_void u n, tt)
typed_solid ret Select t us other (c, v, is, e) = solid_is e (choice_no_void c t v is, (value_no_void t v, (value_no_void t v, tt)))
typed_solid ret Extract t us other (n, w, k, v, i, is, e) = solid_is e (refl, (refl, tt))
typed_solid ret Insert t us other (n, w, k, v, i, is, e) = solid_is e (refl, (refl, (refl, tt)))
typed_solid ret (Shuffle mask) t us other (n, w, v, i, is, all, e) = solid_is e (refl, (refl, tt))
typed_solid ret (Gep elem inbounds) t us other (k, s, i, is, e) = steps_solid elem k us e
typed_solid ret (Load align) t us other (s, a, e) = solid_is e (refl, tt)
typed_solid ret (Store align) t us other (s, a, e) = solid_is e (stored_no_void t s, (refl, tt))
typed_solid ret (Alloca elem align) t us other (l, a, is, e) = solid_is e tt
typed_solid ret (Phi blocks) t us other (v, same, some, all) = same_solid t us (value_no_void t v) all
typed_solid ret Ret t us other (is, e) = given_solid ret us e
typed_solid ret (Br to) t us other (is, e) = solid_is e tt
typed_solid ret (CondBr first second) t us other (is, e) = solid_is e (refl, tt)
typed_solid ret (Switch fallback cases to) t us other (w, i, is, same, all, once, e) = solid_is e (refl, tt)
typed_solid ret Unreachable t us other (is, e) = solid_is e tt
typed_solid ret (Call site) t us other h = clash true other refl
