-- Which arguments and memories a function may be run on.
--
-- Arguments have the parameters' types, and every number is in its range; each pointer is poison or names an object; no object is
-- longer than 2^47 bytes; the first objects are those of the module's globals.
use Rattle.std.specs.Prelude.{◌≡◌, ℕ, ◌^◌, ◌<◌, ◌≤◌, None, Some, List, length, All, FitsSigned, ⊤}
use Rattle.std.specs.List.{AllZip}
use Rattle.std.specs.Int.{w64}
use Rattle.vx_num.specs.Width.{IsLane}
use Rattle.ir_types.specs.declared.ty.Ty.{Ty}
use Rattle.ir_types.specs.declared.ty.Ty.TheVariants.{Int, Ptr, Row}
use Rattle.ir_types.specs.declared.func.Param.{Param}
use Rattle.ir_types.specs.declared.func.Func.{Func}
use Rattle.ir_types.specs.declared.module.Module.{Module}
use Rattle.ir_model.specs.declared.value.Value.{Value}
use Rattle.ir_model.specs.declared.value.Value.TheVariants.{Lane as LaneValue, Row as RowValue, Ptr as PtrValue}
use Rattle.ir_model.specs.Values.{Pointer}
use Rattle.ir_model.specs.Memory.{Object, Memory}

-- a pointer into one of so many objects, with an offset of 64 bits
abbrev pub PointerFits : ℕ → Pointer → Type 0
PointerFits objects None = ⊤
PointerFits objects (Some p) = (p.0 < objects) × FitsSigned w64 p.1

-- a value of a type, where there are so many objects
abbrev pub ValueFits : ℕ → Ty → Value → Type 0
ValueFits objects (Int w) (LaneValue lane) = IsLane w lane
ValueFits objects (Row n w) (RowValue lanes) = (length lanes ≡ n) × All (IsLane w) lanes
ValueFits objects Ptr (PtrValue p) = PointerFits objects p
ValueFits objects _ _ = ⊥

-- an object of bytes, not longer than 2^47
abbrev pub ObjectFits : Object → Type 0
ObjectFits object = (length object ≤ 2 ^ 47) × All (IsLane 8) object

pub record Fits (m : Module) (f : Func) (args : List Value) (memory : Memory) : Type 0 where
  pub typed : AllZip (λ (p : Param) v. ValueFits (length memory) p.ty v) f.params args
  pub objects : All ObjectFits memory
  pub globals : length m.globals ≤ length memory
