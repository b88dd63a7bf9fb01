-- A step of the walk along a list.
use Rattle.std.proofs.Common.{◌≡◌, refl, ap, ◌∙◌, ℕ, zero, suc, ◌-◌, ◌<◌, Option, None, Some, [], ◌∷◌, arith}
use Rattle.ir_types.specs.declared.id.Use.{Use}
use Rattle.sb_uses.specs.Chains.{walk, first_then}

pub step-some : (n : Option Use → Option Use) (left : ℕ) (at : Option Use) (u : Use) → 0 < left → n at ≡ Some u → walk n left at ≡ u ∷ walk n (left - 1) (Some u)
step-some n zero at u pos e = absurd (omega (arith, pos))
step-some n (suc k) at u pos e =
    let one : k ≡ suc k - 1 = omega (arith) in
    ap (λ o. first_then o (λ w. walk n k (Some w))) e ∙ ap (λ j. u ∷ walk n j (Some u)) one

pub step-none : (n : Option Use → Option Use) (left : ℕ) (at : Option Use) → n at ≡ None → walk n left at ≡ []
step-none n zero at e = refl
step-none n (suc k) at e = ap (λ o. first_then o (λ w. walk n k (Some w))) e

pub no-more : (n : Option Use → Option Use) (left : ℕ) (at : Option Use) → left ≡ 0 → walk n left at ≡ []
no-more n left at e = ap (λ k. walk n k at) e
