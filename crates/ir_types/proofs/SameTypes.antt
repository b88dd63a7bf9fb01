-- Types that are found to be one are one, and each is one with itself.
use Rattle.std.proofs.Common.{◌≡◌, Bool, true, false, ◌&&◌, nat_eq, refl, sym, ap, ◌∙◌, eqb-true, eq-eqb}
use Rattle.ir_types.specs.declared.ty.Ty.{Ty}
use Rattle.ir_types.specs.declared.ty.Ty.TheVariants.{Void, Int, Ptr, Row}
use Rattle.ir_types.specs.Typed.{same_ty}

both : (a b : Bool) → (a && b) ≡ true → (a ≡ true) × (b ≡ true)
both true true e = (refl, refl)
both true false e = cc
both false b e = cc

pub same_is : (t u : Ty) → same_ty t u ≡ true → t ≡ u
same_is Void Void e = refl
same_is (Int w) (Int v) e = ap Int (eqb-true w v e)
same_is Ptr Ptr e = refl
same_is (Row n w) (Row m v) e =
    let p : (nat_eq n m ≡ true) × (nat_eq w v ≡ true) = both (nat_eq n m) (nat_eq w v) e in
    ap (λ k. Row k w) (eqb-true n m p.0) ∙ ap (Row m) (eqb-true w v p.1)
same_is _ _ e = cc

pub same_itself : (t : Ty) → same_ty t t ≡ true
same_itself Void = refl
same_itself (Int w) = eq-eqb w w refl
same_itself Ptr = refl
same_itself (Row n w) = rw (eq-eqb n n refl, eq-eqb w w refl) refl
