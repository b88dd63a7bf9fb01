-- Numbers of w bits: how they are read as signed ones, how a signed one is cut to w bits, and which
-- lanes fit a width. All is total: a width is any number, and so is what is read.
use Rattle.std.specs.Prelude.{◌≡◌, refl, ℕ, ℤ, pos, negsuc, neg_ℤ, ◌-◌, ◌%◌, ◌^◌, ◌<◌, ◌-ℤ◌, Bool, true, false, ◌&&◌, nat_lt, int_lt, int_le, if◌then◌else◌, ⊤}
use Rattle.std.specs.declared.option.Option.{Option}
use Rattle.std.specs.declared.option.Option.TheVariants.{None, Some}

-- what the sign bit counts, the greatest power of two below 2^w
abbrev pub sign_bit : ℕ → ℕ
sign_bit w = 2 ^ (w - 1)

-- the signed reading (two's complement): a number whose sign bit is set stands for itself less 2^w
abbrev pub signed : ℕ → ℕ → ℤ
signed w n = if nat_lt n (sign_bit w) then pos n else pos n -ℤ pos (2 ^ w)

-- at 8 bits 127 is the greatest and 128 the least; at one bit 1 is -1
pub signed-greatest : signed 8 127 ≡ pos 127
signed-greatest = refl

pub signed-least : signed 8 128 ≡ negsuc 127
signed-least = refl

pub signed-one_bit : signed 1 1 ≡ negsuc 0
signed-one_bit = refl

-- the w bits of a signed number: the number below 2^w that differs from it by a multiple of 2^w
abbrev pub low_bits : ℕ → ℤ → ℕ
low_bits w (pos n) = n % 2 ^ w
low_bits w (negsuc n) = 2 ^ w - 1 - n % 2 ^ w

pub low_bits-minus_one : low_bits 8 (negsuc 0) ≡ 255
low_bits-minus_one = refl

pub low_bits-beyond : low_bits 8 (negsuc 256) ≡ 255
low_bits-beyond = refl

-- from -2^(w-1) to 2^(w-1) - 1
abbrev pub fits_signed : ℕ → ℤ → Bool
fits_signed w z = int_le (neg_ℤ (pos (sign_bit w))) z && int_lt z (pos (sign_bit w))

pub fits_signed-least : fits_signed 8 (negsuc 127) ≡ true
fits_signed-least = refl

pub fits_signed-beyond : fits_signed 8 (pos 128) ≡ false
fits_signed-beyond = refl

-- poison, or a number below 2^w
abbrev pub IsLane : ℕ → Option ℕ → Type 0
IsLane w None = ⊤
IsLane w (Some n) = n < 2 ^ w
