-- The stores of the lanes of a vector, one after another.
use Rattle.std.specs.Prelude.{◌≡◌, refl, ℕ, pos, Option, None, Some, List, [], ◌∷◌, map, option_map, option_and_then, FitsSigned}
use Rattle.std.specs.Int.{w64, int_wrap}
use Rattle.ir_types.specs.declared.ty.Ty.{Ty}
use Rattle.ir_types.specs.declared.ty.Ty.TheVariants.{Int, Ptr}
use Rattle.ir_types.specs.declared.op.Op.TheVariants.{Store}
use Rattle.ir_model.specs.declared.value.Value.{Value}
use Rattle.ir_model.specs.declared.value.Value.TheVariants.{Lane as LaneValue, Ptr as PtrValue}
use Rattle.ir_model.specs.Values.{Lane, Pointer, moved}
use Rattle.ir_model.specs.Memory.{Memory}
use Rattle.ir_model.specs.Sizes.{bytes_in}
use Rattle.ir_model.specs.Accesses.{Effect}
use Rattle.ir_model.specs.Step.{effect_of}

-- a pointer's offset has 64 bits
abbrev pub OffsetFits : Pointer → Type 0
OffsetFits None = Unit {0}
OffsetFits (Some p) = FitsSigned w64 p.1

abbrev pub memory_after : Option Effect → Option Memory
memory_after effect = option_map (λ did. did.memory) effect

-- the memory after a store instruction of a value of a type, or `None` where it is undefined
abbrev pub after_store : ℕ → Ty → Value → Pointer → Memory → Option Memory
after_store align ty v p m = memory_after (effect_of (Store align) ty (ty ∷ Ptr ∷ []) (v ∷ PtrValue p ∷ []) m)

-- the store of one lane, with an align of its own
pub record LaneStore : Type 0 where
  pub align : ℕ
  pub lane : Lane

abbrev pub lanes_of : List LaneStore → List Lane
lanes_of ls = map (λ l. l.lane) ls

-- the memory after the store instructions of lanes of w bits, the first through a pointer and each other one after the one before
abbrev pub after_stores : ℕ → Pointer → List LaneStore → Memory → Option Memory
after_stores w p [] m = Some m
after_stores w p (l ∷ ls) m =
    option_and_then (after_stores w (moved p (pos (bytes_in w))) ls) (after_store l.align (Int w) (LaneValue l.lane) p m)

two_bytes : after_stores 8 (Some (0, pos 1)) (record { align = 1; lane = Some 5 } ∷ record { align = 2; lane = None } ∷ []) ((Some 1 ∷ Some 2 ∷ Some 3 ∷ []) ∷ [])
    ≡ Some ((Some 1 ∷ Some 5 ∷ None ∷ []) ∷ [])
unfolding int_wrap
two_bytes = refl
