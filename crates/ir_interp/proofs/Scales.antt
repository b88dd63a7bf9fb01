-- Sizes are kept modulo 2^64: an offset that wraps there is the same.
use Rattle.std.proofs.Common.{◌≡◌, refl, sym, ap, ◌∙◌, ℕ, ℤ, pos, ◌+ℤ◌, ◌*ℤ◌, ◌%◌, ◌^◌, ◌≤◌, cond, w64, Option, None, Some}
use Rattle.std.specs.Int.{int_wrap, cast_signed}
use Rattle.std.proofs.Math.Nat.{mod-mod}
use Rattle.std.proofs.lemmas.Bool.{le-leb}
use Rattle.std.proofs.lemmas.Int.{int_wrap-mul_right, int_wrap-add_right}
use Rattle.vx_num.specs.Width.{signed}
use Rattle.vx_num.specs.Advance.{advance_of}
use Rattle.ir_model.specs.Values.{Lane, Pointer}
use Rattle.ir_model.specs.Operations.{narrow}
use Rattle.ir_model.specs.Addresses.{stepped}

wrap-mod : (size : ℕ) → int_wrap w64 (pos (size % 2 ^ 64)) ≡ int_wrap w64 (pos size)
unfolding int_wrap
wrap-mod size = ap (cast_signed w64) (mod-mod size (2 ^ 64))

stride-mod : (s : ℤ) (size : ℕ) → int_wrap w64 (s *ℤ pos (size % 2 ^ 64)) ≡ int_wrap w64 (s *ℤ pos size)
stride-mod s size =
    sym (int_wrap-mul_right w64 s (pos (size % 2 ^ 64))) ∙ ap (λ z. int_wrap w64 (s *ℤ z)) (wrap-mod size) ∙ int_wrap-mul_right w64 s (pos size)

advance_of-mod : (base : ℤ) (index w size : ℕ) → advance_of base index w (size % 2 ^ 64) ≡ advance_of base index w size
advance_of-mod base index w size =
    sym (int_wrap-add_right w64 base (signed w index *ℤ pos (size % 2 ^ 64)))
    ∙ ap (λ z. int_wrap w64 (base +ℤ z)) (stride-mod (signed w index) size)
    ∙ int_wrap-add_right w64 base (signed w index *ℤ pos size)

pub stepped-mod : (w size : ℕ) (p : Pointer) (index : Lane) → stepped w (size % 2 ^ 64) p index ≡ stepped w size p index
stepped-mod w size None index = refl
stepped-mod w size (Some p) None = refl
stepped-mod w size (Some p) (Some index) = ap (λ z. Some (p.0, z)) (advance_of-mod p.1 (index % 2 ^ w) w size)

-- ---- at most 64 bits

pub narrow-within : {A : Type 0} (w : ℕ) (x : Option A) → w ≤ 64 → narrow w x ≡ x
narrow-within w x h = ap (λ b. cond b x None) (le-leb w 64 h)

pub walked_once-is : (w size scale : ℕ) (p : Pointer) (index : Lane) (q : Pointer) → w ≤ 64 → size % 2 ^ 64 ≡ scale
    → q ≡ stepped w scale p index → Some q ≡ narrow w (Some (stepped w size p index))
walked_once-is w size scale p index q h e g =
    ap Some (g ∙ ap (λ s. stepped w s p index) (sym e) ∙ stepped-mod w size p index) ∙ sym (narrow-within w (Some (stepped w size p index)) h)

pub walked_in-is : (w v size scale inside : ℕ) (p : Pointer) (index inner : Lane) (q r : Pointer) → w ≤ 64 → v ≤ 64 → size % 2 ^ 64 ≡ scale
    → q ≡ stepped w scale p index → r ≡ stepped v inside q inner
    → Some r ≡ narrow w (narrow v (Some (stepped v inside (stepped w size p index) inner)))
walked_in-is w v size scale inside p index inner q r h k e g f =
    let whole : q ≡ stepped w size p index = g ∙ ap (λ s. stepped w s p index) (sym e) ∙ stepped-mod w size p index in
    ap Some (f ∙ ap (λ z. stepped v inside z inner) whole)
    ∙ sym (narrow-within v (Some (stepped v inside (stepped w size p index) inner)) k)
    ∙ sym (narrow-within w (narrow v (Some (stepped v inside (stepped w size p index) inner))) h)
