-- Use lists of a module as it was read: each instruction in order of the text brings its slots in.
use Rattle.std.specs.Prelude.{◌≡◌, refl, List, [], ◌∷◌, ⊤}
use Rattle.ir_types.specs.declared.inst.Inst.{Inst}
use Rattle.ir_types.specs.declared.func.Block.{Block}
use Rattle.ir_types.specs.declared.func.Func.{Func}
use Rattle.vx_view.specs.Answers.{funcs_of, value, doubles}
use Rattle.vx_view.specs.Uses.{lifted}
use Rattle.sb_uses.specs.Stock.{Stock, LacksSlots, added}

abbrev pub inst_added : Inst → Stock → Stock
inst_added i s = added i.id 0 i.opds s

abbrev pub insts_added : List Inst → Stock → Stock
insts_added [] s = s
insts_added (i ∷ is) s = insts_added is (inst_added i s)

abbrev pub blocks_added : List Block → Stock → Stock
blocks_added [] s = s
blocks_added (b ∷ bs) s = blocks_added bs (insts_added b.insts s)

abbrev pub funcs_added : List Func → Stock → Stock
funcs_added [] s = s
funcs_added (f ∷ fs) s = funcs_added fs (blocks_added f.blocks s)

-- each comes where no list has its slots
abbrev pub CanAddInsts : List Inst → Stock → Type 0
CanAddInsts [] s = ⊤
CanAddInsts (i ∷ is) s = LacksSlots i.id 0 i.opds s.lists × CanAddInsts is (inst_added i s)

abbrev pub CanAddBlocks : List Block → Stock → Type 0
CanAddBlocks [] s = ⊤
CanAddBlocks (b ∷ bs) s = CanAddInsts b.insts s × CanAddBlocks bs (insts_added b.insts s)

abbrev pub CanAddFuncs : List Func → Stock → Type 0
CanAddFuncs [] s = ⊤
CanAddFuncs (f ∷ fs) s = CanAddBlocks f.blocks s × CanAddFuncs fs (blocks_added f.blocks s)

-- no list has a use, and nothing is kept
abbrev pub nothing : Stock
nothing = record { lists = λ v. []; kept = [] }

-- ---- a worked example: the sum of a value with itself has two slots in the list of the value

as_it_was_read : (funcs_added (funcs_of doubles.items) nothing).lists (value 0) ≡ lifted doubles (value 0)
as_it_was_read = refl
