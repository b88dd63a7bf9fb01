-- The forms of the lines of a module's text.
--
-- A line feed between two blocks, or between a function and the item next to it, is an empty line; an empty line is counted and
-- dropped. A line of an opaque function may have no form.
use Rattle.std.specs.Prelude.{ℕ, ◌+◌, Bool, false, Option, None, Some, List, [], ◌∷◌, ◌++◌, map, slice_get}
use Rattle.ir_lex.specs.Scan.{texts}
use Rattle.ir_types.specs.declared.inst.Inst.{Inst}
use Rattle.ir_types.specs.declared.func.Block.{Block}
use Rattle.ir_types.specs.declared.func.Func.{Func}
use Rattle.ir_types.specs.declared.module.Item.{Item}
use Rattle.ir_types.specs.declared.module.Item.TheVariants.{Kept, Opaque, Func as FuncItem}
use Rattle.ir_types.specs.declared.module.Module.{Module}
use Rattle.ir_draft.specs.declared.kept.Kept.{Kept as KeptLine}
use Rattle.ir_draft.specs.declared.line.Line.{Line}
use Rattle.ir_draft.specs.declared.line.Line.TheVariants as line
use Rattle.ir_line.specs.Keeping.{kept_of}
use Rattle.ir_print.specs.Names.{Names, names_of}
use Rattle.ir_print.specs.Text.{is_function}
use Rattle.rf_text.specs.Headed.{first_name, shown_head}
use Rattle.rf_text.specs.OpaqueText.{opaque_forms}
use Rattle.rf_text.specs.Written.{forms_of}

-- ---- functions

abbrev pub label_forms : Option (List ℕ) → List Line
label_forms None = []
label_forms (Some name) = line.Label name ∷ []

module _ (ns : Names) (gs : List (List ℕ)) where
  abbrev pub insts_forms : List Inst → List Line
  insts_forms [] = []
  insts_forms (i ∷ is) = forms_of ns gs i ++ insts_forms is

  -- blocks after the first, of which the next has this number
  abbrev pub more_blocks_forms : ℕ → List Block → List Line
  more_blocks_forms at [] = []
  more_blocks_forms at (b ∷ bs) = line.Empty ∷ (label_forms (slice_get ns.labels at) ++ (insts_forms b.insts ++ more_blocks_forms (at + 1) bs))

  -- the first block shows its label only where that is written
  abbrev pub blocks_forms : List Block → List Line
  blocks_forms [] = []
  blocks_forms (b ∷ bs) = label_forms b.name ++ (insts_forms b.insts ++ more_blocks_forms 1 bs)

-- the lines between a function's header and its brace
abbrev pub body_forms : List (List ℕ) → Func → List Line
body_forms gs f = blocks_forms (names_of f) gs f.blocks

abbrev pub func_forms : List (List ℕ) → Func → List Line
func_forms gs f = line.Define (first_name f) (Some (shown_head (names_of f) f)) ∷ (body_forms gs f ++ line.Close ∷ [])

-- ---- items

-- what is read of a kept line
abbrev pub kept_at : List ℕ → KeptLine
kept_at text = kept_of text (texts text)

abbrev pub item_forms : List (List ℕ) → Item → List (Option Line)
item_forms gs (Kept text) = Some (line.Kept (kept_at text)) ∷ []
item_forms gs (Opaque text) = opaque_forms text
item_forms gs (FuncItem f) = map Some (func_forms gs f)

abbrev pub gap_forms : Bool → Bool → List (Option Line)
gap_forms false false = []
gap_forms _ _ = Some line.Empty ∷ []

-- items after one that is a function or not
abbrev pub more_items_forms : List (List ℕ) → Bool → List Item → List (Option Line)
more_items_forms gs before [] = []
more_items_forms gs before (i ∷ is) = gap_forms before (is_function i) ++ (item_forms gs i ++ more_items_forms gs (is_function i) is)

abbrev pub items_forms : List (List ℕ) → List Item → List (Option Line)
items_forms gs [] = []
items_forms gs (i ∷ is) = item_forms gs i ++ more_items_forms gs (is_function i) is

-- the forms of the lines of a module's text
abbrev pub module_forms : Module → List (Option Line)
module_forms m = items_forms m.globals m.items
