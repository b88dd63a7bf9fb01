-- Worked examples of `pair_of`: a pair, and a load between.
use Rattle.std.specs.Prelude.{◌≡◌, refl, ℕ, ◌+◌, ◌^◌, ◌-◌, false, None, Some, [], ◌∷◌, codes}
use Rattle.std.specs.Int.{int_wrap}
use Rattle.ir_types.specs.declared.ty.Ty.TheVariants.{Void, Int, Ptr, Row}
use Rattle.ir_types.specs.declared.ty.Elem.TheVariants.{One}
use Rattle.ir_types.specs.declared.opd.Opd.TheVariants.{Val, Lit}
use Rattle.ir_types.specs.declared.op.Op.TheVariants.{Gep, Load, Store, Ret}
use Rattle.ir_types.specs.declared.inst.Inst.{Inst}
use Rattle.ir_model.specs.Examples.{id, inst, number, two_stores, module_b}
use Rattle.vx_serial.specs.Pair.{pair_of}

abbrev pub step_inst : ℕ → ℕ → Inst
step_inst k c = inst k (Some (codes "q")) Ptr (Gep (One (Int 8)) false) (Val (id 0) ∷ number 64 c ∷ [])

abbrev pub store_inst : ℕ → ℕ → ℕ → ℕ → Inst
store_inst k n p align = inst k None (Int 32) (Store align) (number 32 n ∷ Val (id p) ∷ [])

abbrev pub both_inst : ℕ → ℕ → ℕ → ℕ → ℕ → Inst
both_inst k n m p align = inst k None (Row 2 32) (Store align) (Lit (record { ty = Row 2 32; lanes = Some n ∷ Some m ∷ [] }) ∷ Val (id p) ∷ [])

abbrev pub load_inst : ℕ → ℕ → Inst
load_inst k p = inst k (Some (codes "x")) (Int 32) (Load 4) (Val (id p) ∷ [])

abbrev pub return_inst : ℕ → Inst
return_inst k = inst k None Void Ret []

-- 7 at the parameter and 8 four bytes after it
pub pair_of_two_stores : pair_of (module_b two_stores) ≡ module_b (step_inst 1 4 ∷ both_inst 3 7 8 0 4 ∷ return_inst 4 ∷ [])
unfolding int_wrap
pair_of_two_stores = refl

-- a load between
pub pair_of_load_between :
    pair_of (module_b (step_inst 1 4 ∷ store_inst 2 7 0 4 ∷ load_inst 5 0 ∷ store_inst 3 8 1 4 ∷ return_inst 4 ∷ []))
    ≡ module_b (step_inst 1 4 ∷ store_inst 2 7 0 4 ∷ load_inst 5 0 ∷ store_inst 3 8 1 4 ∷ return_inst 4 ∷ [])
unfolding int_wrap
pair_of_load_between = refl

-- the lesser constant comes second: its pointer and align are taken
pub pair_of_lesser_second :
    pair_of (module_b (step_inst 1 4 ∷ store_inst 2 7 1 4 ∷ store_inst 3 8 0 8 ∷ return_inst 4 ∷ []))
    ≡ module_b (step_inst 1 4 ∷ both_inst 3 8 7 0 8 ∷ return_inst 4 ∷ [])
unfolding int_wrap
pair_of_lesser_second = refl

-- 2^63 - 2 and 2^63 + 2, which as signed constants are not 4 apart
pub pair_of_overflow :
    pair_of (module_b (step_inst 1 (2 ^ 63 - 2) ∷ step_inst 5 (2 ^ 63 + 2) ∷ store_inst 2 7 1 4 ∷ store_inst 3 8 5 4 ∷ return_inst 4 ∷ []))
    ≡ module_b (step_inst 1 (2 ^ 63 - 2) ∷ step_inst 5 (2 ^ 63 + 2) ∷ store_inst 2 7 1 4 ∷ store_inst 3 8 5 4 ∷ return_inst 4 ∷ [])
unfolding int_wrap
pair_of_overflow = refl
