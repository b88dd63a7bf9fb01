-- The text of a module: its items in order, each kept line and each opaque function as it was, each function of the profile
-- written anew, with one empty line between a function and the item next to it.
use Rattle.std.specs.Prelude.{ℕ, ◌+◌, Bool, true, false, Option, Some, None, List, [], ◌∷◌, ◌++◌, codes, slice_get}
use Rattle.ir_types.specs.declared.ty.Ty.{Ty}
use Rattle.ir_types.specs.declared.inst.Inst.{Inst}
use Rattle.ir_types.specs.declared.func.Param.{Param}
use Rattle.ir_types.specs.declared.func.Block.{Block}
use Rattle.ir_types.specs.declared.func.Func.{Func}
use Rattle.ir_types.specs.declared.module.Item.{Item}
use Rattle.ir_types.specs.declared.module.Item.TheVariants.{Kept, Opaque, Func as FuncItem}
use Rattle.ir_types.specs.declared.module.Module.{Module}
use Rattle.ir_print.specs.Literals.{ty_text}
use Rattle.ir_print.specs.Names.{Names, names_of, local_of}
use Rattle.ir_print.specs.Operands.{spaced, local_text}
use Rattle.ir_print.specs.Instructions.{insts_text}

-- a parameter: type, attributes, name
abbrev pub param_text : Names → Param → List ℕ
param_text ns p = ty_text p.ty ++ (spaced p.attrs ++ (codes " " ++ local_text (local_of p.id ns.locals)))

abbrev pub more_params : Names → List Param → List ℕ
more_params ns [] = []
more_params ns (p ∷ ps) = codes ", " ++ (param_text ns p ++ more_params ns ps)

abbrev pub params_text : Names → List Param → List ℕ
params_text ns [] = []
params_text ns (p ∷ ps) = param_text ns p ++ more_params ns ps

-- the header line up to its parameters
abbrev pub head_text : Func → List ℕ
head_text f = codes "define" ++ (spaced f.before ++ (codes " " ++ (ty_text f.ret ++ (codes " @" ++ f.name))))

-- the header line
abbrev pub header_text : Names → Func → List ℕ
header_text ns f = head_text f ++ (codes "(" ++ (params_text ns f.params ++ (codes ")" ++ (spaced f.after ++ codes " {\n"))))

abbrev pub label_line : Option (List ℕ) → List ℕ
label_line None = []
label_line (Some name) = name ++ codes ":\n"

-- a block after another: an empty line, its label, its instructions
abbrev pub next_block : Names → List (List ℕ) → ℕ → Block → List ℕ
next_block ns gs at b = codes "\n" ++ (label_line (slice_get ns.labels at) ++ insts_text ns gs b.insts)

abbrev pub more_blocks : Names → List (List ℕ) → ℕ → List Block → List ℕ
more_blocks ns gs at [] = []
more_blocks ns gs at (b ∷ bs) = next_block ns gs at b ++ more_blocks ns gs (at + 1) bs

-- the blocks; the first shows its label only where that is written
abbrev pub blocks_text : Names → List (List ℕ) → List Block → List ℕ
blocks_text ns gs [] = []
blocks_text ns gs (b ∷ bs) = label_line b.name ++ (insts_text ns gs b.insts ++ more_blocks ns gs 1 bs)

abbrev pub func_with : Names → List (List ℕ) → Func → List ℕ
func_with ns gs f = header_text ns f ++ (blocks_text ns gs f.blocks ++ codes "}\n")

-- a function of the profile
abbrev pub func_text : List (List ℕ) → Func → List ℕ
func_text gs f = func_with (names_of f) gs f

abbrev pub item_text : List (List ℕ) → Item → List ℕ
item_text gs (Kept text) = text ++ codes "\n"
item_text gs (Opaque text) = text ++ codes "\n"
item_text gs (FuncItem f) = func_text gs f

abbrev pub is_function : Item → Bool
is_function (Kept _) = false
is_function (Opaque _) = true
is_function (FuncItem _) = true

-- the line between two items
abbrev pub gap_text : Bool → Bool → List ℕ
gap_text false false = []
gap_text _ _ = codes "\n"

-- items after one that is a function or not
abbrev pub more_items : List (List ℕ) → Bool → List Item → List ℕ
more_items gs before [] = []
more_items gs before (i ∷ is) = gap_text before (is_function i) ++ (item_text gs i ++ more_items gs (is_function i) is)

abbrev pub items_text : List (List ℕ) → List Item → List ℕ
items_text gs [] = []
items_text gs (i ∷ is) = item_text gs i ++ more_items gs (is_function i) is

-- the text of a module
abbrev pub text_of : Module → List ℕ
text_of m = items_text m.globals m.items
