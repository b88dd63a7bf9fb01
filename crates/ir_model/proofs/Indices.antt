-- Offsets that wrap: what is a multiple of 2^64 further, or is wrapped on the way, is the same.
use Rattle.std.proofs.Common.{◌≡◌, refl, sym, ap, ◌∙◌, ℕ, ℤ, pos, neg_ℤ, ◌+ℤ◌, ◌-ℤ◌, ◌*ℤ◌, ◌%◌, ◌^◌, Bool, true, false, nat_lt, if◌then◌else◌}
use Rattle.std.specs.Int.{w64, int_wrap, cast_signed}
use Rattle.std.proofs.Math.Nat.{mod-mod}
use Rattle.std.proofs.Math.IntN.{+ℤ_idr}
use Rattle.std.proofs.lemmas.Int.{int_wrap-add_right, int_wrap-mul_left, int_wrap-mul_right}
use Rattle.vx_num.specs.Width.{sign_bit, signed}
use Rattle.vx_num.specs.Advance.{advance_of}

pub wrap-low : (n : ℕ) → int_wrap w64 (pos (n % 2 ^ 64)) ≡ int_wrap w64 (pos n)
unfolding int_wrap
wrap-low n = ap (λ k. cast_signed w64 k) (mod-mod n (2 ^ 64))

wrap-beyond : int_wrap w64 (neg_ℤ (pos (2 ^ 64))) ≡ pos 0
unfolding int_wrap
wrap-beyond = refl

-- a number and its signed reading at 64 bits wrap to the same
pub wrap-signed : (n : ℕ) → int_wrap w64 (signed 64 n) ≡ int_wrap w64 (pos n)
wrap-signed n = by_sign (nat_lt n (sign_bit 64))
  where
    by_sign : (b : Bool) → int_wrap w64 (if b then pos n else pos n -ℤ pos (2 ^ 64)) ≡ int_wrap w64 (pos n)
    by_sign true = refl
    by_sign false =
        sym (int_wrap-add_right w64 (pos n) (neg_ℤ (pos (2 ^ 64))))
        ∙ ap (λ z. int_wrap w64 (pos n +ℤ z)) wrap-beyond ∙ ap (int_wrap w64) (+ℤ_idr (pos n))

-- factors that wrap alike go equally far
pub wrap-factor : (base a b s t : ℤ) → int_wrap w64 a ≡ int_wrap w64 b → int_wrap w64 s ≡ int_wrap w64 t →
    int_wrap w64 (base +ℤ a *ℤ s) ≡ int_wrap w64 (base +ℤ b *ℤ t)
wrap-factor base a b s t e f =
    sym (int_wrap-add_right w64 base (a *ℤ s))
    ∙ ap (λ z. int_wrap w64 (base +ℤ z))
    (sym (int_wrap-mul_left w64 a s) ∙ sym (int_wrap-mul_right w64 (int_wrap w64 a) s)
    ∙ ap (λ z. int_wrap w64 (int_wrap w64 a *ℤ z)) f ∙ ap (λ z. int_wrap w64 (z *ℤ int_wrap w64 t)) e
    ∙ int_wrap-mul_right w64 (int_wrap w64 b) t ∙ int_wrap-mul_left w64 b t)
    ∙ int_wrap-add_right w64 base (b *ℤ t)

-- an index of 64 bits may be read by its low bits
pub advance-low_index : (base : ℤ) (n scale : ℕ) → advance_of base (n % 2 ^ 64) 64 scale ≡ advance_of base n 64 scale
advance-low_index base n scale =
    wrap-factor base (signed 64 (n % 2 ^ 64)) (signed 64 n) (pos scale) (pos scale)
    (wrap-signed (n % 2 ^ 64) ∙ wrap-low n ∙ sym (wrap-signed n)) refl

-- and so may a scale
pub advance-low_scale : (base : ℤ) (n w scale : ℕ) → advance_of base n w (scale % 2 ^ 64) ≡ advance_of base n w scale
advance-low_scale base n w scale =
    wrap-factor base (signed w n) (signed w n) (pos (scale % 2 ^ 64)) (pos scale) refl (wrap-low scale)
