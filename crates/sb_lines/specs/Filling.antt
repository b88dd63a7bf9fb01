-- Modules in which the instructions of each block are told anew.
--
-- A filling tells what stands at a place, from what stood there. All else of a module stays: items and headers, parameters, the names of
-- blocks. Functions of the profile and their blocks are counted from 0.
use Rattle.std.specs.Prelude.{◌≡◌, refl, ℕ, suc, Bool, true, false, cond, nat_lt, Option, None, Some, List, [], ◌∷◌, ◌++◌, length, slice_get}
use Rattle.ir_types.specs.declared.id.Place.{Place}
use Rattle.ir_types.specs.declared.inst.Inst.{Inst}
use Rattle.ir_types.specs.declared.func.Block.{Block}
use Rattle.ir_types.specs.declared.func.Func.{Func}
use Rattle.ir_types.specs.declared.module.Item.{Item}
use Rattle.ir_types.specs.declared.module.Item.TheVariants.{Func as FuncItem}
use Rattle.ir_types.specs.declared.module.Module.{Module}
use Rattle.vx_view.specs.Answers.{funcs_of, line, doubles}
use Rattle.vx_view.specs.Views.{same_place}

abbrev pub Filling : Type 0
Filling = Place → List Inst → List Inst

abbrev pub place_of : ℕ → ℕ → Place
place_of func block = record { func = func; block = block }

abbrev pub blocks_filled : Filling → ℕ → ℕ → List Block → List Block
blocks_filled c func number [] = []
blocks_filled c func number (b ∷ bs) = record { name = b.name; insts = c (place_of func number) b.insts } ∷ blocks_filled c func (suc number) bs

abbrev pub func_filled : Filling → ℕ → Func → Func
func_filled c func f = record {
  before = f.before;
  ret = f.ret;
  name = f.name;
  params = f.params;
  after = f.after;
  blocks = blocks_filled c func 0 f.blocks;
}

abbrev pub item_filled : Filling → ℕ → Item → Item
item_filled c func (FuncItem f) = FuncItem (func_filled c func f)
item_filled c func other = other

-- the number of the next function after an item
abbrev pub func_after : ℕ → Item → ℕ
func_after func (FuncItem f) = suc func
func_after func other = func

abbrev pub items_filled : Filling → ℕ → List Item → List Item
items_filled c func [] = []
items_filled c func (item ∷ items) = item_filled c func item ∷ items_filled c (func_after func item) items

abbrev pub filled : Filling → Module → Module
filled c m = record { items = items_filled c 0 m.items; globals = m.globals; big_endian_line = m.big_endian_line }

-- ---- blocks

abbrev pub block_in : Option Func → ℕ → Bool
block_in None number = false
block_in (Some f) number = nat_lt number (length f.blocks)

-- a place is that of a block
abbrev pub has_block : Module → Place → Bool
has_block m place = block_in (slice_get (funcs_of m.items) place.func) place.block

-- one more instruction at the end of a block
abbrev pub at_end : Place → Inst → Filling
at_end place new q insts = cond (same_place place q) (insts ++ new ∷ []) insts

abbrev pub appended : Place → Inst → Module → Module
appended place new m = filled (at_end place new) m

-- ---- worked examples: a return is put after that of the only block

one_more : filled (λ place insts. line 3 [] ∷ insts) (filled (λ place insts. []) doubles) ≡ filled (λ place insts. line 3 [] ∷ []) doubles
one_more = refl

the_only_block : has_block doubles (place_of 0 0) ≡ true
the_only_block = refl

no_second_block : has_block doubles (place_of 0 1) ≡ false
no_second_block = refl
