-- Blocks by their place: what a view tells of one by its answers.
--
-- A view has no question for a whole block. It tells of an id where it stands, and so whether it stands in a block that is known by its
-- place; ids stand once in a formed module, so that is the same as looking for the id in the block.
use Rattle.std.specs.Prelude.{◌≡◌, refl, ℕ, cond, Option, None, Some, List, [], slice_get}
use Rattle.ir_types.specs.declared.id.Id.{Id}
use Rattle.ir_types.specs.declared.id.Place.{Place}
use Rattle.ir_types.specs.declared.inst.Inst.{Inst}
use Rattle.ir_types.specs.declared.func.Block.{Block}
use Rattle.ir_types.specs.declared.func.Func.{Func}
use Rattle.ir_types.specs.declared.module.Module.{Module}
use Rattle.vx_view.specs.declared.question.Question.TheVariants as ask
use Rattle.vx_view.specs.declared.answer.Answer.{Answer}
use Rattle.vx_view.specs.declared.answer.Answer.TheVariants.{Inst as InstAnswer}
use Rattle.vx_view.specs.Answers.{funcs_of, answer, value, doubles, lines}
use Rattle.vx_view.specs.Views.{same_place}

abbrev pub insts_of : Option Block → List Inst
insts_of None = []
insts_of (Some b) = b.insts

abbrev pub insts_in : Option Func → ℕ → List Inst
insts_in None number = []
insts_in (Some f) number = insts_of (slice_get f.blocks number)

-- the instructions of a block; a place that is no block's has none
abbrev pub block_at : Module → Place → List Inst
block_at m place = insts_in (slice_get (funcs_of m.items) place.func) place.block

-- the instruction that was answered, where it stands in a block
abbrev pub in_place : Place → Answer → Option Inst
in_place place (InstAnswer there inst) = cond (same_place there place) (Some inst) None
in_place place _ = None

-- the instruction of an id in a block, by the answers of a module
abbrev pub standing_at : Module → Place → Id → Option Inst
standing_at m place id = in_place place (answer m (ask.Inst id))

-- ---- a worked example

abbrev place : ℕ → Place
place block = record { func = 0; block = block }

the_block : block_at doubles (place 0) ≡ lines
the_block = refl

no_block : standing_at doubles (place 1) (value 1) ≡ None
no_block = refl
