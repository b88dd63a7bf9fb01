-- The limits of a module: 100,000 instructions; in a function 65,536 values, which are its parameters and instructions, and 4,096 blocks.
-- Opaque items count for none.
use Rattle.std.specs.Prelude.{◌≡◌, refl, ℕ, ◌+◌, ◌≤◌, List, [], ◌∷◌, length}
use Rattle.std.specs.List.{All}
use Rattle.ir_types.specs.declared.func.Block.{Block}
use Rattle.ir_types.specs.declared.module.Item.{Item}
use Rattle.ir_types.specs.declared.module.Item.TheVariants.{Opaque, Func}
use Rattle.ir_types.specs.declared.module.Module.{Module}

-- how many instructions there are
abbrev pub insts_of : List Block → ℕ
insts_of [] = 0
insts_of (b ∷ bs) = length b.insts + insts_of bs

abbrev pub all_insts : List Item → ℕ
all_insts [] = 0
all_insts (Func f ∷ items) = insts_of f.blocks + all_insts items
all_insts (_ ∷ items) = all_insts items

-- a function with few enough values and blocks
abbrev pub IsSmall : Item → Type 0
IsSmall (Func f) = (length f.params + insts_of f.blocks ≤ 65536) × (length f.blocks ≤ 4096)
IsSmall _ = Unit {0}

pub record IsWithinLimits (m : Module) : Type 0 where
  pub insts : all_insts m.items ≤ 100000
  pub each : All IsSmall m.items

-- an opaque function has no instructions
opaque_counts : all_insts (Opaque [] ∷ []) ≡ 0
opaque_counts = refl
