-- Offsets that go on by some bytes, modulo 2^64.
use Rattle.std.proofs.Common.{◌≡◌, refl, sym, ap, ◌∙◌, subst, ℕ, ℤ, pos, neg_ℤ, ◌+ℤ◌, ◌+◌, ◌<◌, ◌^◌, None, Some, FitsSigned, arith}
use Rattle.std.specs.Int.{w64, int_wrap}
use Rattle.std.proofs.lemmas.Int.{int_wrap_fits, int_wrap-add_left, int_wrap-add_right, SFits-int_wrap, ints}
use Rattle.std.proofs.Math.IntN.{+ℤ_assoc, +ℤ-neg_ℤ_cancel}
use Rattle.ir_model.specs.Values.{Pointer, moved}

-- a pointer with an offset of 64 bits
pub record IsOffset (z : ℤ) : Type 0 where
  pub fits : FitsSigned w64 z

-- two offsets of places, of which the second is k bytes after the first modulo 2^64, are k apart
pub next_place : (at next k : ℕ) → at < 2 ^ 63 → k < 2 ^ 63 → int_wrap w64 (pos at +ℤ pos k) ≡ pos next → next ≡ at + k
next_place at next k small less e = let b = back in omega (arith, ints)
  where
    fits : FitsSigned w64 (pos next)
    fits = subst (FitsSigned w64) e (SFits-int_wrap w64 (pos at +ℤ pos k))

    back : pos at ≡ pos next +ℤ neg_ℤ (pos k)
    back =
        sym (int_wrap_fits w64 (pos at) (omega (arith, ints)))
        ∙ ap (int_wrap w64) (sym (+ℤ-neg_ℤ_cancel (pos at) (pos k)))
        ∙ sym (int_wrap-add_left w64 (pos at +ℤ pos k) (neg_ℤ (pos k)))
        ∙ ap (λ z. int_wrap w64 (z +ℤ neg_ℤ (pos k))) e
        ∙ int_wrap_fits w64 (pos next +ℤ neg_ℤ (pos k)) (let f : FitsSigned w64 (pos next) = fits in omega (arith, ints))

-- a pointer moved twice
pub moved-moved : (p : Pointer) (a b : ℤ) → moved (moved p a) b ≡ moved p (int_wrap w64 (a +ℤ b))
moved-moved None a b = refl
moved-moved (Some p) a b =
    ap (λ z. Some (p.0, z))
    (int_wrap-add_left w64 (p.1 +ℤ a) b ∙ ap (int_wrap w64) (+ℤ_assoc p.1 a b) ∙ sym (int_wrap-add_right w64 p.1 (a +ℤ b)))
