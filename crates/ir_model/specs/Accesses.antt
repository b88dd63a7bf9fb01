-- Accesses: what loads, stores and allocas do to a memory, and what they give.
use Rattle.std.specs.Prelude.{◌≡◌, refl, ℕ, zero, suc, pos, ◌*◌, ◌++◌, Option, None, Some, List, [], ◌∷◌, length, drop, replicate, option_map}
use Rattle.ir_types.specs.declared.ty.Ty.{Ty}
use Rattle.ir_types.specs.declared.ty.Ty.TheVariants.{Int, Row}
use Rattle.ir_types.specs.declared.ty.Elem.{Elem}
use Rattle.ir_types.specs.declared.ty.Elem.TheVariants.{One}
use Rattle.ir_model.specs.declared.value.Value.{Value}
use Rattle.ir_model.specs.declared.value.Value.TheVariants.{Lane as LaneValue, Row as RowValue, Ptr as PtrValue}
use Rattle.ir_model.specs.Values.{Lane, Pointer}
use Rattle.ir_model.specs.Memory.{Object, Memory, lane_bytes, row_bytes, lane_from, stored, loaded}
use Rattle.ir_model.specs.Sizes.{bytes_in, elem_size}
use Rattle.ir_model.specs.Operations.{narrow}

-- what an instruction came to: its result, if it has one, and the memory
pub record Effect : Type 0 where
  pub result : Option Value
  pub memory : Memory

-- a result that leaves the memory
abbrev pub value_effect : Option Value → Memory → Option Effect
value_effect v m = option_map (λ result. record { result = Some result; memory = m }) v

-- a memory without a result
abbrev pub memory_effect : Option Memory → Option Effect
memory_effect m = option_map (λ after. record { result = None; memory = after }) m

-- ---- stores

-- the bytes of a value of a type that can be stored
abbrev pub bytes_of : Ty → Value → Option (List Lane)
bytes_of (Int w) (LaneValue lane) = Some (lane_bytes (bytes_in w) lane)
bytes_of (Row n w) (RowValue lanes) = Some (row_bytes (bytes_in w) lanes)
bytes_of _ _ = None

-- a store of the bytes of a value through a pointer
abbrev pub store_effect : ℕ → Option (List Lane) → Pointer → Memory → Option Effect
store_effect align None p m = None
store_effect align (Some bytes) p m = memory_effect (stored align bytes p m)

-- ---- loads

-- the lanes of k bytes each that bytes begin with
abbrev pub lanes_from : ℕ → ℕ → List Lane → List Lane
lanes_from zero k bytes = []
lanes_from (suc n) k bytes = lane_from k bytes ∷ lanes_from n k (drop k bytes)

-- a load of a lane of so many bytes
abbrev pub load_effect : ℕ → ℕ → Pointer → Memory → Option Effect
load_effect size align p m = value_effect (option_map (λ bytes. LaneValue (lane_from size bytes)) (loaded size align p m)) m

-- a load of n lanes of so many bytes each
abbrev pub load_row_effect : ℕ → ℕ → ℕ → Pointer → Memory → Option Effect
load_row_effect n size align p m =
    value_effect (option_map (λ bytes. RowValue (lanes_from n size bytes)) (loaded (n * size) align p m)) m

abbrev pub typed_load : ℕ → Ty → Pointer → Memory → Option Effect
typed_load align (Int w) p m = narrow w (load_effect (bytes_in w) align p m)
typed_load align (Row n w) p m = narrow w (load_row_effect n (bytes_in w) align p m)
typed_load align _ p m = None

-- one poison byte makes its lane poison, and no other
loaded_row : typed_load 2 (Row 2 16) (Some (0, pos 2)) ((Some 9 ∷ Some 9 ∷ Some 2 ∷ Some 1 ∷ Some 7 ∷ None ∷ []) ∷ [])
    ≡ Some (record { result = Some (RowValue (Some 258 ∷ None ∷ [])); memory = (Some 9 ∷ Some 9 ∷ Some 2 ∷ Some 1 ∷ Some 7 ∷ None ∷ []) ∷ [] })
loaded_row = refl

misaligned : typed_load 4 (Int 8) (Some (0, pos 2)) ((Some 0 ∷ Some 1 ∷ Some 2 ∷ []) ∷ []) ≡ None
misaligned = refl

-- ---- allocas

-- an object of so many poison bytes
abbrev pub fresh_object : ℕ → Object
fresh_object size = replicate size None

-- a new last object, and the pointer to its start
abbrev pub alloca_effect : Elem → Memory → Effect
alloca_effect elem m = record {
  result = Some (PtrValue (Some (length m, pos 0)));
  memory = m ++ fresh_object (elem_size elem) ∷ [];
}

allocated : alloca_effect (One (Int 16)) ((Some 5 ∷ []) ∷ []) ≡ record { result = Some (PtrValue (Some (1, pos 0))); memory = (Some 5 ∷ []) ∷ (None ∷ None ∷ []) ∷ [] }
allocated = refl
