-- Offsets that wrap at 64 bits: what the wrapping calls of the code compute is the address rule.
use Rattle.std.proofs.Common.{◌≡◌, ℕ, ℤ, pos, ◌+ℤ◌, ◌*ℤ◌, ◌*◌, ◌%◌, ◌^◌, ◌<◌, FitsSigned, w64, ap, sym, ◌∙◌}
use Rattle.std.proofs.Math.Nat.{mod-eq_of_lt}
use Rattle.std.specs.Int.{int_wrap, cast_signed, cast_unsigned}
use Rattle.std.proofs.lemmas.Int.{wrapping_mul_is, int_wrap-mul_right, int_wrap-add_right, SFits-int_wrap}
use Rattle.std.proofs.Common.{subst}
use Rattle.vx_num.specs.Width.{signed}
use Rattle.vx_num.specs.Advance.{advance_of}

-- an unsigned number taken as signed is itself, wrapped
pub cast_signed-is_wrap : (n : ℕ) → n < 2 ^ 64 → cast_signed w64 n ≡ int_wrap w64 (pos n)
unfolding int_wrap
cast_signed-is_wrap n h = ap (cast_signed w64) (sym (mod-eq_of_lt h))

pub stride_is : (x : ℤ) (n : ℕ) (c : ℤ) → FitsSigned w64 x → n < 2 ^ 64 → c ≡ cast_signed w64 n
    → cast_signed w64 ((cast_unsigned w64 x * cast_unsigned w64 c) % 2 ^ 64) ≡ int_wrap w64 (x *ℤ pos n)
stride_is x n c fits h e =
    let wrapped : c ≡ int_wrap w64 (pos n) = e ∙ cast_signed-is_wrap n h in
    let c_fits : FitsSigned w64 c = subst (λ z. FitsSigned w64 z) (sym wrapped) (SFits-int_wrap w64 (pos n)) in
    wrapping_mul_is w64 x c fits c_fits ∙ ap (λ z. int_wrap w64 (x *ℤ z)) wrapped ∙ int_wrap-mul_right w64 x (pos n)

pub advance_is : (m base step s : ℤ) (index w scale : ℕ)
    → m ≡ int_wrap w64 (base +ℤ step) → step ≡ int_wrap w64 (s *ℤ pos scale) → s ≡ signed w index
    → m ≡ advance_of base index w scale
advance_is m base step s index w scale e1 e2 e3 =
    e1 ∙ ap (λ z. int_wrap w64 (base +ℤ z)) e2 ∙ int_wrap-add_right w64 base (s *ℤ pos scale)
    ∙ ap (λ z. int_wrap w64 (base +ℤ z *ℤ pos scale)) e3
