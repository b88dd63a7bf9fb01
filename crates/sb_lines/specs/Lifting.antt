-- What stands in each block, and what a module that is lifted brings.
--
-- A block that is there has a list of instructions, perhaps an empty one; a place that is no block's has none.
use Rattle.std.specs.Prelude.{◌≡◌, refl, ℕ, suc, cond, Option, None, Some, List, [], ◌∷◌, option_map}
use Rattle.ir_types.specs.declared.id.Place.{Place}
use Rattle.ir_types.specs.declared.inst.Inst.{Inst}
use Rattle.ir_types.specs.declared.func.Block.{Block}
use Rattle.ir_types.specs.declared.module.Item.{Item}
use Rattle.ir_types.specs.declared.module.Item.TheVariants.{Func as FuncItem}
use Rattle.vx_view.specs.Answers.{either, lines, doubles}
use Rattle.vx_view.specs.Views.{same_place}
use Rattle.sb_lines.specs.declared.arena.Arena.{Arena}
use Rattle.sb_lines.specs.Filling.{place_of, func_after}
use Rattle.sb_lines.specs.Arena.{mark, contents}

-- what stands at a place, if a block has a mark there
abbrev pub shown : Arena → Place → Option (List Inst)
shown a place = option_map (λ m. contents a place) (mark a place)

-- what the blocks of a function have at a place, from the block of a number on
abbrev pub blocks_at : ℕ → ℕ → List Block → Place → Option (List Inst)
blocks_at func number [] place = None
blocks_at func number (b ∷ bs) place = either (blocks_at func (suc number) bs place) (cond (same_place (place_of func number) place) (Some b.insts) None)

-- what an item has there, before which so many functions stand
abbrev pub item_at : ℕ → Item → Place → Option (List Inst)
item_at func (FuncItem f) place = blocks_at func 0 f.blocks place
item_at func other place = None

abbrev pub items_at : ℕ → List Item → Place → Option (List Inst)
items_at func [] place = None
items_at func (item ∷ items) place = either (items_at (func_after func item) items place) (item_at func item place)

-- ---- worked examples: the only block of a function, and no other

the_block : items_at 0 doubles.items (place_of 0 0) ≡ Some lines
the_block = refl

no_block : items_at 0 doubles.items (place_of 0 1) ≡ None
no_block = refl
