-- The address rule: where an index of width w, read as signed, takes an offset.
use Rattle.std.specs.Prelude.{◌≡◌, refl, ℕ, ℤ, pos, negsuc, ◌-◌, ◌^◌, ◌+ℤ◌, ◌*ℤ◌}
use Rattle.std.specs.Int.{w64, int_wrap}
use Rattle.vx_num.specs.Width.{signed}

-- the offset plus the signed index times its scale, modulo 2^64 as a signed number
abbrev pub advance_of : ℤ → ℕ → ℕ → ℕ → ℤ
advance_of base index w scale = int_wrap w64 (base +ℤ signed w index *ℤ pos scale)

-- index -1 of width 8 at scale 4 goes 4 back
pub advance_of-back : advance_of (pos 12) 255 8 4 ≡ pos 8
unfolding int_wrap
advance_of-back = refl

-- past the greatest offset comes the least
pub advance_of-wrapped : advance_of (pos (2 ^ 63 - 1)) 1 8 1 ≡ negsuc (2 ^ 63 - 1)
unfolding int_wrap
advance_of-wrapped = refl
