-- Text that is whole lines of a function's body, with the forms that these lines are read as; and what is so.
use Rattle.std.specs.Prelude.{◌≡◌, ℕ, true, List, [], ◌∷◌, ◌++◌, map, codes}
use Rattle.std.specs.List.{All}
use Rattle.std.specs.declared.option.Option.{Option}
use Rattle.std.specs.declared.option.Option.TheVariants.{None, Some}
use Rattle.ir_types.specs.declared.ty.Ty.{Ty}
use Rattle.ir_types.specs.declared.inst.Inst.{Inst}
use Rattle.ir_types.specs.declared.func.Block.{Block}
use Rattle.ir_draft.specs.declared.line.Line.{Line}
use Rattle.ir_draft.specs.declared.line.Line.TheVariants.{Empty, Close, Label}
use Rattle.ir_print.specs.Names.{Names}
use Rattle.ir_print.specs.Instructions.{inst_text}
use Rattle.ir_print.specs.Text.{label_line, blocks_text}
use Rattle.ir_read.specs.Forms.{form_in}
use Rattle.rf_text.specs.Shown.{IsLocalName, Shown, Fits}
use Rattle.rf_text.specs.LinesOf.{joined}
use Rattle.rf_text.specs.Written.{forms_of}
use Rattle.rf_text.specs.ModuleForms.{blocks_forms}

-- the text is lines, of which each is read inside a function as its form; so none has a lexical fault
pub record Printed (text : List ℕ) (forms : List Line) : Type 0 where
  pub lines : List (List ℕ)
  pub whole : text ≡ joined lines
  pub each : map (form_in true) lines ≡ map Some forms

-- an instruction is read again as it is printed
abbrev pub IsReadAgain : Names → List (List ℕ) → Inst → Type 0
IsReadAgain ns gs i = Printed (inst_text ns gs i) (forms_of ns gs i)

-- an instruction, other than a call, is read again as it is printed, wherever it fits what is shown
abbrev pub InstsAreReadAgain : Type 0
InstsAreReadAgain = (ret : Ty) (ns : Names) (gs : List (List ℕ)) (i : Inst) → Shown ns gs → Fits ret ns gs i → IsReadAgain ns gs i

-- so is the label of a block
abbrev pub LabelsAreReadAgain : Type 0
LabelsAreReadAgain = (name : List ℕ) → IsLocalName name → Printed (label_line (Some name)) (Label name ∷ [])

-- and so are the brace at the end of a function and the empty line between blocks
abbrev pub BracesAreReadAgain : Type 0
BracesAreReadAgain = Printed (codes "}\n") (Close ∷ [])

abbrev pub GapsAreReadAgain : Type 0
GapsAreReadAgain = Printed (codes "\n") (Empty ∷ [])

-- whatever is written for a label is shown
abbrev pub IsShownLabel : Option (List ℕ) → Type 0
IsShownLabel None = Unit {0}
IsShownLabel (Some name) = IsLocalName name

-- where each instruction is read again, so is the body of the function with its brace
abbrev pub BodiesAreReadAgain : Type 0
BodiesAreReadAgain = (ns : Names) (gs : List (List ℕ)) (blocks : List Block) → All IsLocalName ns.labels → All (λ (b : Block). IsShownLabel b.name) blocks → All (λ (b : Block). All (IsReadAgain ns gs) b.insts) blocks →
    Printed (blocks_text ns gs blocks ++ codes "}\n") (blocks_forms ns gs blocks ++ Close ∷ [])
