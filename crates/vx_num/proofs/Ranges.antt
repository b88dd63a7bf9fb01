-- The results of operations fit their widths where the operands do: a lane of the width is what
-- comes out of lanes of the width.
use Rattle.std.proofs.Common.{◌≡◌, ℕ, ℤ, pos, negsuc, ◌+◌, ◌-◌, ◌*◌, ◌/◌, ◌%◌, ◌^◌, ◌<◌, ◌≤◌, Bool, true, false, cond, nat_lt, if◌then◌else◌, refl, sym, subst, arith, lit<, bit_and}
use Rattle.std.specs.declared.option.Option.{Option}
use Rattle.std.specs.declared.option.Option.TheVariants.{None, Some}
use Rattle.std.specs.Int.{w64}
use Rattle.std.specs.Prelude.{FitsSigned}
use Rattle.std.proofs.lemmas.Bool.{ltb-true}
use Rattle.std.proofs.Math.Nat.{div-le_self, mod-le}
use Rattle.std.proofs.Math.Pow.{pow_mono}
use Rattle.std.proofs.lemmas.Nat.{pow_pos, shr_below, mod_below, and_le_l, or_lt, xor_lt}
use Rattle.std.proofs.lemmas.Int.{SFits-int_wrap}
use Rattle.vx_num.specs.declared.lanes.Done.TheVariants.{Value, Undefined}
use Rattle.vx_num.specs.declared.operations.BinOp.{BinOp}
use Rattle.vx_num.specs.declared.operations.BinOp.TheVariants.{Add, Sub, Mul, Shl, Udiv, Sdiv, Urem, Srem, Lshr, Ashr, And, Or, Xor}
use Rattle.vx_num.specs.declared.operations.CastOp.{CastOp}
use Rattle.vx_num.specs.declared.operations.CastOp.TheVariants.{Zext, Sext, Trunc}
use Rattle.vx_num.specs.declared.operations.Flags.{Flags}
use Rattle.vx_num.specs.declared.operations.Pred.{Pred}
use Rattle.vx_num.specs.Width.{sign_bit, low_bits, IsLane}
use Rattle.vx_num.specs.Shifts.{sign_fill}
use Rattle.vx_num.specs.Bin.{number_of, lane_of, is_undefined, bin_of, IsDone}
use Rattle.vx_num.specs.Cmp.{holds, cmp_of}
use Rattle.vx_num.specs.Cast.{cast_of}
use Rattle.vx_num.specs.Advance.{advance_of}

pub low_bits-lt : (w : ℕ) (z : ℤ) → low_bits w z < 2 ^ w
low_bits-lt w (pos n) = mod_below n (2 ^ w) (pow_pos w)
low_bits-lt w (negsuc n) = omega (arith, pow_pos w)

-- a shift to the right leaves room for the bits that fill it
pub shr-lt : (w k a : ℕ) → k ≤ w → a < 2 ^ w → a / 2 ^ k < 2 ^ (w - k)
shr-lt w k a h lt =
    let whole : w - k + k ≡ w = omega arith in
    shr_below a (w - k) k (subst (λ j. a < 2 ^ j) (sym whole) lt)

pub fill-le : (w k a : ℕ) → sign_fill w k a ≤ 2 ^ w - 2 ^ (w - k)
fill-le w k a = elim (nat_lt a (sign_bit w)) as (λ b. cond b 0 (2 ^ w - 2 ^ (w - k)) ≤ 2 ^ w - 2 ^ (w - k)) [ true ↦ omega arith | false ↦ omega arith ]

pub shr_fill-lt : (w k a : ℕ) → k ≤ w → a < 2 ^ w → a / 2 ^ k + sign_fill w k a < 2 ^ w
shr_fill-lt w k a h lt =
    let shifted : a / 2 ^ k < 2 ^ (w - k) = shr-lt w k a h lt in
    let filled : sign_fill w k a ≤ 2 ^ w - 2 ^ (w - k) = fill-le w k a in
    let less : w - k ≤ w = omega arith in
    let room : 2 ^ (w - k) ≤ 2 ^ w = pow_mono less in
    omega arith

div-lt : (w a b : ℕ) → a < 2 ^ w → a / b < 2 ^ w
div-lt w a b lt = let less : a / b ≤ a = div-le_self a b in omega arith

mod-lt_power : (w a b : ℕ) → a < 2 ^ w → a % b < 2 ^ w
mod-lt_power w a b lt = let less : a % b ≤ a = mod-le a b in omega arith

and-lt : (w a b : ℕ) → a < 2 ^ w → bit_and a b < 2 ^ w
and-lt w a b lt = let less : bit_and a b ≤ a = and_le_l a b in omega arith

-- ---- lanes

when-lane : (w : ℕ) (b : Bool) (n : ℕ) → n < 2 ^ w → IsLane w (if b then Some n else None)
when-lane w true n lt = lt
when-lane w false n lt = tt

power-mod : (w n : ℕ) → n % 2 ^ w < 2 ^ w
power-mod w n = mod_below n (2 ^ w) (pow_pos w)

-- a shift whose amount is below the width
shift-lane : (w k n : ℕ) (b c : Bool) → nat_lt k w ≡ c → (k < w → n < 2 ^ w) → IsLane w (if c then (if b then Some n else None) else None)
shift-lane w k n b true e lt = when-lane w b n (lt (ltb-true k w e))
shift-lane w k n b false e lt = tt

pub number_of-lane : (op : BinOp) (f : Flags) (w a b : ℕ) → a < 2 ^ w → b < 2 ^ w → IsLane w (number_of op f w a b)
number_of-lane Add f w a b left right = when-lane w _ _ (power-mod w _)
number_of-lane Sub f w a b left right = when-lane w _ _ (power-mod w _)
number_of-lane Mul f w a b left right = when-lane w _ _ (power-mod w _)
number_of-lane Shl f w a b left right = shift-lane w b (a * 2 ^ b % 2 ^ w) _ (nat_lt b w) refl (λ amount. power-mod w (a * 2 ^ b))
number_of-lane Udiv f w a b left right = when-lane w _ _ (div-lt w a b left)
number_of-lane Sdiv f w a b left right = when-lane w _ _ (low_bits-lt w _)
number_of-lane Urem f w a b left right = mod-lt_power w a b left
number_of-lane Srem f w a b left right = low_bits-lt w _
number_of-lane Lshr f w a b left right = shift-lane w b (a / 2 ^ b) _ (nat_lt b w) refl (λ amount. div-lt w a (2 ^ b) left)
number_of-lane Ashr f w a b left right =
    shift-lane w b (a / 2 ^ b + sign_fill w b a) _ (nat_lt b w) refl (λ amount. shr_fill-lt w b a (omega arith) left)
number_of-lane And f w a b left right = and-lt w a b left
number_of-lane Or f w a b left right = when-lane w _ _ (or_lt w a b left right)
number_of-lane Xor f w a b left right = xor_lt w a b left right

pub lane_of-lane : (op : BinOp) (f : Flags) (w : ℕ) (a b : Option ℕ) → IsLane w a → IsLane w b → IsLane w (lane_of op f w a b)
lane_of-lane op f w None b left right = tt
lane_of-lane op f w (Some a) None left right = tt
lane_of-lane op f w (Some a) (Some b) left right = number_of-lane op f w a b left right

ends-done : (w : ℕ) (u : Bool) (v : Option ℕ) → IsLane w v → IsDone w (if u then Undefined else Value v)
ends-done w true v is = tt
ends-done w false v is = is

pub bin_of-lane : (op : BinOp) (f : Flags) (w : ℕ) (a b : Option ℕ) → IsLane w a → IsLane w b → IsDone w (bin_of op f w a b)
bin_of-lane op f w a b left right =
    ends-done w (is_undefined op w a b) (lane_of op f w a b) (lane_of-lane op f w a b left right)

bit-lane : (b : Bool) → IsLane 1 (Some (if b then 1 else 0))
bit-lane true = lit< tt
bit-lane false = lit< tt

-- a comparison gives one bit, whatever the operands are
pub cmp_of-lane : (p : Pred) (w : ℕ) (a b : Option ℕ) → IsLane 1 (cmp_of p w a b)
cmp_of-lane p w None b = tt
cmp_of-lane p w (Some a) None = tt
cmp_of-lane p w (Some a) (Some b) = bit-lane (holds p w a b)

-- a conversion gives a lane of its target; only `zext` needs that the target is no smaller
pub cast_of-lane : (op : CastOp) (nneg : Bool) (from to : ℕ) (a : Option ℕ) → (op ≡ Zext → from ≤ to) → IsLane from a
    → IsLane to (cast_of op nneg from to a)
cast_of-lane op nneg from to None wider is = tt
cast_of-lane Zext nneg from to (Some n) wider is =
    let powers : 2 ^ from ≤ 2 ^ to = pow_mono (wider refl) in when-lane to _ n (omega arith)
cast_of-lane Sext nneg from to (Some n) wider is = low_bits-lt to _
cast_of-lane Trunc nneg from to (Some n) wider is = power-mod to n

-- an offset stays one
pub advance_of-fits : (base : ℤ) (index w scale : ℕ) → FitsSigned w64 (advance_of base index w scale)
advance_of-fits base index w scale = SFits-int_wrap w64 _
