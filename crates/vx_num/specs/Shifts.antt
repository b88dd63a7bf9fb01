-- Shifts of a number below 2^w by an amount. An amount of w or more gives poison.
-- To the left, with `nuw` poison where a one bit is lost, with `nsw` where a lost bit differs from
-- the sign bit of the result. To the right, with `exact` poison where a one bit is lost.
use Rattle.std.specs.Prelude.{◌≡◌, refl, ℕ, ◌+◌, ◌-◌, ◌*◌, ◌/◌, ◌%◌, ◌^◌, ◌==◌, nat_lt, if◌then◌else◌}
use Rattle.std.specs.declared.option.Option.{Option}
use Rattle.std.specs.declared.option.Option.TheVariants.{None, Some}
use Rattle.vx_num.specs.declared.operations.Flags.{Flags}
use Rattle.vx_num.specs.Width.{sign_bit}
use Rattle.vx_num.specs.Flagged.{no_wrap, exactly, plain, with_nuw, with_nsw, with_exact}

-- the k bits that are lost to the left, as a number below 2^k
abbrev pub lost_of : ℕ → ℕ → ℕ → ℕ
lost_of w a k = a * 2 ^ k / 2 ^ w

-- k copies of the sign bit of n, as a number below 2^k
abbrev pub sign_copies : ℕ → ℕ → ℕ → ℕ
sign_copies w k n = if nat_lt n (sign_bit w) then 0 else 2 ^ k - 1

abbrev pub shl_of : Flags → ℕ → ℕ → ℕ → Option ℕ
shl_of f w a k =
    if nat_lt k w
    then no_wrap f (lost_of w a k == 0) (lost_of w a k == sign_copies w k (a * 2 ^ k % 2 ^ w)) (a * 2 ^ k % 2 ^ w)
    else None

-- 64 << 1 is -128, so that the lost 0 is not the sign; 192 << 1 is the same with a lost 1
pub shl_of-nsw : shl_of with_nsw 8 64 1 ≡ None
shl_of-nsw = refl

pub shl_of-kept : shl_of with_nsw 8 192 1 ≡ Some 128
shl_of-kept = refl

pub shl_of-nuw : shl_of with_nuw 8 192 1 ≡ None
shl_of-nuw = refl

pub shl_of-amount : shl_of plain 8 1 8 ≡ None
shl_of-amount = refl

abbrev pub lshr_of : Flags → ℕ → ℕ → ℕ → Option ℕ
lshr_of f w a k = if nat_lt k w then exactly f (a % 2 ^ k == 0) (a / 2 ^ k) else None

pub lshr_of-plain : lshr_of plain 8 255 1 ≡ Some 127
lshr_of-plain = refl

pub lshr_of-exact : lshr_of with_exact 8 255 1 ≡ None
lshr_of-exact = refl

-- the sign bit of a, copied into the k highest of w bits
abbrev pub sign_fill : ℕ → ℕ → ℕ → ℕ
sign_fill w k a = if nat_lt a (sign_bit w) then 0 else 2 ^ w - 2 ^ (w - k)

abbrev pub ashr_of : Flags → ℕ → ℕ → ℕ → Option ℕ
ashr_of f w a k = if nat_lt k w then exactly f (a % 2 ^ k == 0) (a / 2 ^ k + sign_fill w k a) else None

-- -7 >> 1 is -4, and 7 >> 1 is 3
pub ashr_of-negative : ashr_of plain 8 249 1 ≡ Some 252
ashr_of-negative = refl

pub ashr_of-positive : ashr_of plain 8 7 1 ≡ Some 3
ashr_of-positive = refl
