-- Quotients and remainders of numbers below 2^w, and where a division is undefined.
-- A signed quotient is truncated toward zero, a signed remainder has the sign of the dividend.
-- With `exact` poison where the remainder is not 0.
use Rattle.std.specs.Prelude.{◌≡◌, refl, ℕ, pos, negsuc, ◌/◌, ◌%◌, ◌==◌, Bool, true, false, ◌&&◌, ◌||◌, int_div, int_rem}
use Rattle.std.specs.Ordering.{int_eq}
use Rattle.std.specs.declared.option.Option.{Option}
use Rattle.std.specs.declared.option.Option.TheVariants.{None, Some}
use Rattle.vx_num.specs.declared.operations.Flags.{Flags}
use Rattle.vx_num.specs.Width.{sign_bit, signed, low_bits}
use Rattle.vx_num.specs.Flagged.{exactly, plain, with_exact}

abbrev pub udiv_of : Flags → ℕ → ℕ → Option ℕ
udiv_of f a b = exactly f (a % b == 0) (a / b)

pub udiv_of-plain : udiv_of plain 249 2 ≡ Some 124
udiv_of-plain = refl

pub udiv_of-exact : udiv_of with_exact 249 2 ≡ None
udiv_of-exact = refl

abbrev pub urem_of : ℕ → ℕ → Option ℕ
urem_of a b = Some (a % b)

pub urem_of-plain : urem_of 249 2 ≡ Some 1
urem_of-plain = refl

abbrev pub sdiv_of : Flags → ℕ → ℕ → ℕ → Option ℕ
sdiv_of f w a b =
    exactly f (int_eq (int_rem (signed w a) (signed w b)) (pos 0)) (low_bits w (int_div (signed w a) (signed w b)))

-- -7 / 2 is -3
pub sdiv_of-truncated : sdiv_of plain 8 249 2 ≡ Some 253
sdiv_of-truncated = refl

pub sdiv_of-exact : sdiv_of with_exact 8 249 2 ≡ None
sdiv_of-exact = refl

abbrev pub srem_of : ℕ → ℕ → ℕ → Option ℕ
srem_of w a b = Some (low_bits w (int_rem (signed w a) (signed w b)))

-- -7 % 2 is -1, and 7 % -2 is 1
pub srem_of-negative : srem_of 8 249 2 ≡ Some 255
srem_of-negative = refl

pub srem_of-positive : srem_of 8 7 254 ≡ Some 1
srem_of-positive = refl

-- the divisor is poison or 0
abbrev pub no_divisor : Option ℕ → Bool
no_divisor None = true
no_divisor (Some b) = b == 0

-- the divisor is -1
abbrev pub is_minus_one : ℕ → Option ℕ → Bool
is_minus_one w None = false
is_minus_one w (Some b) = int_eq (signed w b) (negsuc 0)

-- the dividend is poison or the least signed value, whose only one bit is the sign bit
abbrev pub may_be_least : ℕ → Option ℕ → Bool
may_be_least w None = true
may_be_least w (Some a) = a == sign_bit w

-- a signed division is undefined without a divisor, and where the quotient may not fit
abbrev pub no_quotient : ℕ → Option ℕ → Option ℕ → Bool
no_quotient w a b = no_divisor b || (is_minus_one w b && may_be_least w a)

-- -128 / -1 at 8 bits
pub no_quotient-least : no_quotient 8 (Some 128) (Some 255) ≡ true
no_quotient-least = refl

pub no_quotient-poison : no_quotient 8 None (Some 255) ≡ true
no_quotient-poison = refl

pub no_quotient-other : no_quotient 8 (Some 129) (Some 255) ≡ false
no_quotient-other = refl
