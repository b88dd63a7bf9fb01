-- Labels of which none stands twice.
use Rattle.std.proofs.Common.{◌≡◌, ℕ, true, false, ◌&&◌, cond, List, [], ◌∷◌, Some, None, refl, ap}
use Rattle.std.specs.Str.{bytes_eq}
use Rattle.ir_draft.specs.declared.written.Arg.{Arg}
use Rattle.ir_types_check.specs.Typed.{agree, is_brought}

pub one_agrees : (a : List ℕ) (args : List Arg) → agree [] (a ∷ []) args ≡ true
one_agrees a [] = refl
one_agrees a (x ∷ []) = refl
one_agrees a (x ∷ y ∷ more) = refl

pub two_agree : (a b : List ℕ) → bytes_eq b a ≡ false → (args : List Arg) → agree [] (a ∷ b ∷ []) args ≡ true
two_agree a b apart [] = refl
two_agree a b apart (x ∷ []) = refl
two_agree a b apart (x ∷ y ∷ []) = ap (λ same. is_brought (cond same (Some x.opd) None) y.opd && true) apart
two_agree a b apart (x ∷ y ∷ z ∷ more) = ap (λ same. is_brought (cond same (Some x.opd) None) y.opd && true) apart
