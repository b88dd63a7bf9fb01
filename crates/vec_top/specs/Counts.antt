-- How many values and blocks a function has at the most. They are numbered in its text by a counter of 64 bits.
use Rattle.std.specs.Prelude.{ℕ, ◌+◌, ◌-◌, ◌^◌, Bool, true, List, [], ◌∷◌, length, nat_lt}
use Rattle.std.specs.List.{list_all}
use Rattle.ir_types.specs.declared.func.Block.{Block}
use Rattle.ir_types.specs.declared.func.Func.{Func}
use Rattle.ir_types.specs.declared.module.Item.{Item}
use Rattle.ir_types.specs.declared.module.Item.TheVariants.{Func as FuncItem}
use Rattle.ir_types.specs.declared.module.Module.{Module}

abbrev pub blocks_size : List Block → ℕ
blocks_size [] = 0
blocks_size (b ∷ bs) = 1 + length b.insts + blocks_size bs

abbrev pub size_of : Func → ℕ
size_of f = length f.params + blocks_size f.blocks

-- whether there are few enough to be counted
abbrev pub is_counted : Item → Bool
is_counted (FuncItem f) = nat_lt (size_of f) (2 ^ 64 - 1)
is_counted _ = true

abbrev pub are_counted : Module → Bool
are_counted m = list_all is_counted m.items
