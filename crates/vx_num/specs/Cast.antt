-- What a conversion of a number below 2^from to a width `to` gives; poison stays poison.
-- `nneg` is of `zext` alone: poison where the operand's sign bit is set.
use Rattle.std.specs.Prelude.{◌≡◌, refl, ℕ, ◌%◌, ◌^◌, Bool, true, false, nat_lt, if◌then◌else◌}
use Rattle.std.specs.declared.option.Option.{Option}
use Rattle.std.specs.declared.option.Option.TheVariants.{None, Some}
use Rattle.vx_num.specs.declared.operations.CastOp.{CastOp}
use Rattle.vx_num.specs.declared.operations.CastOp.TheVariants.{Zext, Sext, Trunc}
use Rattle.vx_num.specs.Width.{sign_bit, signed, low_bits}
use Rattle.vx_num.specs.Flagged.{keeps}

abbrev pub zext_of : Bool → ℕ → ℕ → Option ℕ
zext_of nneg from n = if keeps nneg (nat_lt n (sign_bit from)) then Some n else None

abbrev pub sext_of : ℕ → ℕ → ℕ → Option ℕ
sext_of from to n = Some (low_bits to (signed from n))

abbrev pub trunc_of : ℕ → ℕ → Option ℕ
trunc_of to n = Some (n % 2 ^ to)

abbrev pub cast_of : CastOp → Bool → ℕ → ℕ → Option ℕ → Option ℕ
cast_of op nneg from to None = None
cast_of Zext nneg from to (Some n) = zext_of nneg from n
cast_of Sext nneg from to (Some n) = sext_of from to n
cast_of Trunc nneg from to (Some n) = trunc_of to n

pub cast_of-zext : cast_of Zext false 8 16 (Some 255) ≡ Some 255
cast_of-zext = refl

pub cast_of-nneg : cast_of Zext true 8 16 (Some 255) ≡ None
cast_of-nneg = refl

pub cast_of-sext : cast_of Sext false 8 16 (Some 255) ≡ Some 65535
cast_of-sext = refl

pub cast_of-trunc : cast_of Trunc false 16 8 (Some 511) ≡ Some 255
cast_of-trunc = refl
