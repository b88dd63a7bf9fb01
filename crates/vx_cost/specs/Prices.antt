-- What an instruction costs, and the price of a list of instructions.
use Rattle.std.specs.Prelude.{ℕ, ◌-◌, ◌^◌, Bool, true, false, cond, List, Option, Some, None, sum_by, slice_index, min}
use Rattle.vx_num.specs.declared.operations.BinOp.{BinOp}
use Rattle.vx_num.specs.declared.operations.BinOp.TheVariants.{Mul, Udiv, Sdiv, Urem, Srem}
use Rattle.ir_types.specs.declared.ty.Ty.{Ty}
use Rattle.ir_types.specs.declared.ty.Ty.TheVariants.{Row}
use Rattle.ir_types.specs.declared.op.Op.{Op}
use Rattle.ir_types.specs.declared.op.Op.TheVariants.{Bin, Icmp, Cast, Select, Extract, Insert, Shuffle, Gep, Load, Store}
use Rattle.ir_types.specs.declared.inst.Inst.{Inst}
use Rattle.ir_types.specs.declared.table.Table.{Table}
use Rattle.vx_cost.specs.declared.key.Key.{Key}
use Rattle.vx_cost.specs.declared.key.Key.TheVariants as key
use Rattle.vx_cost.specs.Keys.{place_of}

-- whether a type is one of vectors
abbrev pub has_lanes : Ty → Bool
has_lanes (Row n w) = true
has_lanes _ = false

-- the key of a binary operation, on vectors or on scalars
abbrev pub operation_key : Bool → BinOp → Key
operation_key vectors Mul = cond vectors key.Vmul key.Mul
operation_key vectors Udiv = cond vectors key.Vdiv key.Div
operation_key vectors Sdiv = cond vectors key.Vdiv key.Div
operation_key vectors Urem = cond vectors key.Vdiv key.Div
operation_key vectors Srem = cond vectors key.Vdiv key.Div
operation_key vectors _ = cond vectors key.Vint key.Int

-- the key of an operation, on vectors or on scalars; none where it costs nothing
abbrev pub op_key : Bool → Op → Option Key
op_key vectors (Bin operation flags) = Some (operation_key vectors operation)
op_key vectors (Icmp pred) = Some (cond vectors key.Vcmp key.Cmp)
op_key vectors (Cast conversion nneg) = Some (cond vectors key.Vcast key.Cast)
op_key vectors Select = Some (cond vectors key.Vselect key.Select)
op_key vectors (Load align) = Some (cond vectors key.Vload key.Load)
op_key vectors (Store align) = Some (cond vectors key.Vstore key.Store)
op_key vectors (Gep elem inbounds) = Some key.Addr
op_key vectors Insert = Some key.Insert
op_key vectors Extract = Some key.Extract
op_key vectors (Shuffle mask) = Some key.Shuffle
op_key vectors _ = None

-- the key of an instruction: its type is one of vectors exactly where an operand or the result of the priced form is
abbrev pub key_of : Inst → Option Key
key_of i = op_key (has_lanes i.ty) i.op

-- what a key costs
abbrev pub key_cost : Table → Option Key → ℕ
key_cost t (Some k) = slice_index t.costs (place_of k)
key_cost t None = 0

-- what an instruction costs
abbrev pub cost_of : Table → Inst → ℕ
cost_of t i = key_cost t (key_of i)

-- the price of a list of instructions: the sum of their costs, or 2^64 - 1 where the sum is greater
abbrev pub price_of : Table → List Inst → ℕ
price_of t list = min (sum_by (cost_of t) list) (2 ^ 64 - 1)
