-- The keywords of operations and comparisons, as they are read and printed.
-- LLVM Language Reference, "Binary Operations", "Conversion Operations" and "'icmp' Instruction".
use Rattle.std.specs.Prelude.{◌≡◌, refl, ℕ, List, codes}
use Rattle.vx_num.specs.declared.operations.BinOp.{BinOp}
use Rattle.vx_num.specs.declared.operations.BinOp.TheVariants.{Add, Sub, Mul, Shl, Udiv, Sdiv, Urem, Srem, Lshr, Ashr, And, Or, Xor}
use Rattle.vx_num.specs.declared.operations.Pred.{Pred}
use Rattle.vx_num.specs.declared.operations.Pred.TheVariants.{Eq, Ne, Ugt, Uge, Ult, Ule, Sgt, Sge, Slt, Sle}
use Rattle.vx_num.specs.declared.operations.CastOp.{CastOp}
use Rattle.vx_num.specs.declared.operations.CastOp.TheVariants.{Zext, Sext, Trunc}

abbrev pub bin_word : BinOp → List ℕ
bin_word Add = codes "add"
bin_word Sub = codes "sub"
bin_word Mul = codes "mul"
bin_word Shl = codes "shl"
bin_word Udiv = codes "udiv"
bin_word Sdiv = codes "sdiv"
bin_word Urem = codes "urem"
bin_word Srem = codes "srem"
bin_word Lshr = codes "lshr"
bin_word Ashr = codes "ashr"
bin_word And = codes "and"
bin_word Or = codes "or"
bin_word Xor = codes "xor"

abbrev pub cast_word : CastOp → List ℕ
cast_word Zext = codes "zext"
cast_word Sext = codes "sext"
cast_word Trunc = codes "trunc"

abbrev pub pred_word : Pred → List ℕ
pred_word Eq = codes "eq"
pred_word Ne = codes "ne"
pred_word Ugt = codes "ugt"
pred_word Uge = codes "uge"
pred_word Ult = codes "ult"
pred_word Ule = codes "ule"
pred_word Sgt = codes "sgt"
pred_word Sge = codes "sge"
pred_word Slt = codes "slt"
pred_word Sle = codes "sle"

-- an arithmetic shift to the right, and an unsigned comparison
shift : bin_word Ashr ≡ codes "ashr"
shift = refl

below : pred_word Ult ≡ codes "ult"
below = refl
