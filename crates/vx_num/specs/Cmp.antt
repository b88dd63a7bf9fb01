-- What `icmp` gives at a width: 1 where the comparison holds, else 0, and poison where an operand
-- is poison. Predicates with u read the numbers as they are, those with s by their signed reading.
use Rattle.std.specs.Prelude.{◌≡◌, refl, ℕ, ◌==◌, Bool, not, nat_lt, nat_le, int_lt, int_le, if◌then◌else◌}
use Rattle.std.specs.declared.option.Option.{Option}
use Rattle.std.specs.declared.option.Option.TheVariants.{None, Some}
use Rattle.vx_num.specs.declared.operations.Pred.{Pred}
use Rattle.vx_num.specs.declared.operations.Pred.TheVariants.{Eq, Ne, Ugt, Uge, Ult, Ule, Sgt, Sge, Slt, Sle}
use Rattle.vx_num.specs.Width.{signed}

abbrev pub holds : Pred → ℕ → ℕ → ℕ → Bool
holds Eq w a b = a == b
holds Ne w a b = not (a == b)
holds Ugt w a b = nat_lt b a
holds Uge w a b = nat_le b a
holds Ult w a b = nat_lt a b
holds Ule w a b = nat_le a b
holds Sgt w a b = int_lt (signed w b) (signed w a)
holds Sge w a b = int_le (signed w b) (signed w a)
holds Slt w a b = int_lt (signed w a) (signed w b)
holds Sle w a b = int_le (signed w a) (signed w b)

abbrev pub cmp_of : Pred → ℕ → Option ℕ → Option ℕ → Option ℕ
cmp_of p w None b = None
cmp_of p w (Some a) None = None
cmp_of p w (Some a) (Some b) = Some (if holds p w a b then 1 else 0)

-- 255 is above 1 as an unsigned number, and below it as a signed one
pub cmp_of-ugt : cmp_of Ugt 8 (Some 255) (Some 1) ≡ Some 1
cmp_of-ugt = refl

pub cmp_of-sgt : cmp_of Sgt 8 (Some 255) (Some 1) ≡ Some 0
cmp_of-sgt = refl
