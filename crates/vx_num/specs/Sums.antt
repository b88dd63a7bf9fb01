-- Sum, difference and product of two numbers below 2^w, modulo 2^w. With `nuw` poison where the
-- result of the unsigned numbers does not fit, with `nsw` where that of the signed ones does not.
use Rattle.std.specs.Prelude.{◌≡◌, refl, ℕ, ◌+◌, ◌-◌, ◌*◌, ◌%◌, ◌^◌, ◌+ℤ◌, ◌-ℤ◌, ◌*ℤ◌, nat_lt, nat_le}
use Rattle.std.specs.declared.option.Option.{Option}
use Rattle.std.specs.declared.option.Option.TheVariants.{None, Some}
use Rattle.vx_num.specs.declared.operations.Flags.{Flags}
use Rattle.vx_num.specs.Width.{signed, fits_signed}
use Rattle.vx_num.specs.Flagged.{no_wrap, plain, with_nuw, with_nsw}

abbrev pub add_of : Flags → ℕ → ℕ → ℕ → Option ℕ
add_of f w a b =
    no_wrap f (nat_lt (a + b) (2 ^ w)) (fits_signed w (signed w a +ℤ signed w b)) ((a + b) % 2 ^ w)

-- 127 + 1 at 8 bits wraps as signed numbers and not as unsigned ones; -1 + 1 the other way round
pub add_of-nsw : add_of with_nsw 8 127 1 ≡ None
add_of-nsw = refl

pub add_of-nuw : add_of with_nuw 8 127 1 ≡ Some 128
add_of-nuw = refl

pub add_of-wrapped : add_of with_nsw 8 255 1 ≡ Some 0
add_of-wrapped = refl

abbrev pub sub_of : Flags → ℕ → ℕ → ℕ → Option ℕ
sub_of f w a b =
    no_wrap f (nat_le b a) (fits_signed w (signed w a -ℤ signed w b)) ((a + 2 ^ w - b) % 2 ^ w)

pub sub_of-below : sub_of plain 8 0 1 ≡ Some 255
sub_of-below = refl

pub sub_of-nuw : sub_of with_nuw 8 0 1 ≡ None
sub_of-nuw = refl

-- -128 - 1
pub sub_of-nsw : sub_of with_nsw 8 128 1 ≡ None
sub_of-nsw = refl

abbrev pub mul_of : Flags → ℕ → ℕ → ℕ → Option ℕ
mul_of f w a b =
    no_wrap f (nat_lt (a * b) (2 ^ w)) (fits_signed w (signed w a *ℤ signed w b)) ((a * b) % 2 ^ w)

-- 16 * 16, and -1 * -128
pub mul_of-plain : mul_of plain 8 16 16 ≡ Some 0
mul_of-plain = refl

pub mul_of-nsw : mul_of with_nsw 8 255 128 ≡ None
mul_of-nsw = refl
