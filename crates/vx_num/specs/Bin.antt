-- What a binary operation gives at a width: undefined behaviour, else poison where an operand is
-- poison, else the operation's row at the two numbers. A flag that is not an operation's own means
-- nothing for it.
use Rattle.std.specs.Prelude.{◌≡◌, refl, ⊤, ℕ, ◌==◌, Bool, false, if◌then◌else◌, bit_and, bit_or, bit_xor}
use Rattle.std.specs.declared.option.Option.{Option}
use Rattle.std.specs.declared.option.Option.TheVariants.{None, Some}
use Rattle.vx_num.specs.declared.lanes.Done.{Done}
use Rattle.vx_num.specs.declared.lanes.Done.TheVariants.{Value, Undefined}
use Rattle.vx_num.specs.declared.operations.BinOp.{BinOp}
use Rattle.vx_num.specs.declared.operations.BinOp.TheVariants.{Add, Sub, Mul, Shl, Udiv, Sdiv, Urem, Srem, Lshr, Ashr, And, Or, Xor}
use Rattle.vx_num.specs.declared.operations.Flags.{Flags}
use Rattle.vx_num.specs.Flagged.{apart, plain, with_exact, with_disjoint}
use Rattle.vx_num.specs.Width.{IsLane}
use Rattle.vx_num.specs.Sums.{add_of, sub_of, mul_of}
use Rattle.vx_num.specs.Shifts.{shl_of, lshr_of, ashr_of}
use Rattle.vx_num.specs.Quotients.{udiv_of, urem_of, sdiv_of, srem_of, no_divisor, no_quotient}

-- the bitwise operations; with `disjoint` poison where the operands share a one bit
abbrev pub and_of : ℕ → ℕ → Option ℕ
and_of a b = Some (bit_and a b)

abbrev pub or_of : Flags → ℕ → ℕ → Option ℕ
or_of f a b = apart f (bit_and a b == 0) (bit_or a b)

pub or_of-disjoint : or_of with_disjoint 6 1 ≡ Some 7
or_of-disjoint = refl

pub or_of-shared : or_of with_disjoint 6 3 ≡ None
or_of-shared = refl

abbrev pub xor_of : ℕ → ℕ → Option ℕ
xor_of a b = Some (bit_xor a b)

-- the operation at two numbers, where it is defined
abbrev pub number_of : BinOp → Flags → ℕ → ℕ → ℕ → Option ℕ
number_of Add f w a b = add_of f w a b
number_of Sub f w a b = sub_of f w a b
number_of Mul f w a b = mul_of f w a b
number_of Shl f w a b = shl_of f w a b
number_of Udiv f w a b = udiv_of f a b
number_of Sdiv f w a b = sdiv_of f w a b
number_of Urem f w a b = urem_of a b
number_of Srem f w a b = srem_of w a b
number_of Lshr f w a b = lshr_of f w a b
number_of Ashr f w a b = ashr_of f w a b
number_of And f w a b = and_of a b
number_of Or f w a b = or_of f a b
number_of Xor f w a b = xor_of a b

-- a poison operand gives poison
abbrev pub lane_of : BinOp → Flags → ℕ → Option ℕ → Option ℕ → Option ℕ
lane_of op f w None b = None
lane_of op f w (Some a) None = None
lane_of op f w (Some a) (Some b) = number_of op f w a b

-- only divisions can be undefined
abbrev pub is_undefined : BinOp → ℕ → Option ℕ → Option ℕ → Bool
is_undefined Udiv w a b = no_divisor b
is_undefined Urem w a b = no_divisor b
is_undefined Sdiv w a b = no_quotient w a b
is_undefined Srem w a b = no_quotient w a b
is_undefined _ w a b = false

abbrev pub bin_of : BinOp → Flags → ℕ → Option ℕ → Option ℕ → Done
bin_of op f w a b = if is_undefined op w a b then Undefined else Value (lane_of op f w a b)

-- a poison operand gives poison, but undefined behaviour as a divisor
pub bin_of-poison : bin_of Add plain 8 None (Some 1) ≡ Value None
bin_of-poison = refl

pub bin_of-poison_dividend : bin_of Udiv plain 8 None (Some 1) ≡ Value None
bin_of-poison_dividend = refl

pub bin_of-poison_divisor : bin_of Udiv plain 8 (Some 1) None ≡ Undefined
bin_of-poison_divisor = refl

-- `exact` is no flag of a sum
pub bin_of-other_flag : bin_of Add with_exact 8 (Some 255) (Some 2) ≡ Value (Some 1)
bin_of-other_flag = refl

-- undefined, or a lane of the width
abbrev pub IsDone : ℕ → Done → Type 0
IsDone w (Value v) = IsLane w v
IsDone w Undefined = ⊤
