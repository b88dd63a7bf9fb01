-- The definitions at work.
use Rattle.std.proofs.Common.{◌≡◌, ℕ, true, false, Some, codes, refl, lit≤}
use Rattle.vx_num.specs.declared.operations.BinOp.TheVariants.{Urem, Srem}
use Rattle.vx_num.specs.declared.operations.Flags.{Flags}
use Rattle.ir_types.specs.declared.op.Op.TheVariants.{Bin, Br}
use Rattle.ir_types.specs.declared.table.Table.{Table}
use Rattle.vx_cost.specs.Prices.{op_key, key_cost}
use Rattle.std.specs.Fmt.{digits}
use Rattle.vx_cost.specs.Settings.{IsSetting}
use Rattle.vx_cost.specs.declared.key.Key.TheVariants.{Vmul, Shuffle, Div, Vdiv}

-- `vmul=12`
a_setting : IsSetting (codes "vmul=12") Vmul 12
unfolding digits
a_setting = record { spelled = refl; bounded = lit≤ tt }

-- `shuffle=0`
a_zero : IsSetting (codes "shuffle=0") Shuffle 0
unfolding digits
a_zero = record { spelled = refl; bounded = lit≤ tt }

-- a remainder of vectors costs what `vdiv` does, one of scalars what `div` does
a_vector_remainder : (flags : Flags) → op_key true (Bin Urem flags) ≡ Some Vdiv
a_vector_remainder flags = refl

a_scalar_remainder : (flags : Flags) → op_key false (Bin Srem flags) ≡ Some Div
a_scalar_remainder flags = refl

-- a branch costs nothing
a_branch : (t : Table) (to : ℕ) → key_cost t (op_key false (Br to)) ≡ 0
a_branch t to = refl
