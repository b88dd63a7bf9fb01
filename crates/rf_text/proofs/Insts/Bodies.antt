-- Bodies of functions are read again as they are printed: blocks with their labels, and the brace.
use Rattle.std.proofs.Common.{◌≡◌, ℕ, suc, zero, ◌+◌, Bool, List, [], ◌∷◌, ◌++◌, Option, Some, None, refl, subst, append_assoc, codes}
use Rattle.std.proofs.lemmas.List.Elements.{All-head, All-tail}
use Rattle.std.specs.List.{All, slice_get}
use Rattle.ir_types.specs.declared.inst.Inst.{Inst}
use Rattle.ir_types.specs.declared.func.Block.{Block}
use Rattle.ir_lex.specs.Scan.{fault_of}
use Rattle.ir_draft.specs.declared.line.Line.{Line}
use Rattle.ir_draft.specs.declared.line.Line.TheVariants.{Close}
use Rattle.ir_draft.specs.declared.line.Line.TheVariants as line
use Rattle.ir_forms.proofs.Steps.{nothing}
use Rattle.ir_print.specs.Names.{Names}
use Rattle.ir_print.specs.Instructions.{insts_text}
use Rattle.ir_print.specs.Text.{label_line, next_block, more_blocks, blocks_text}
use Rattle.ir_read.specs.Forms.{form_in, sound_form}
use Rattle.rf_text.specs.Shown.{IsLocalName}
use Rattle.rf_text.specs.ModuleForms.{label_forms, insts_forms, more_blocks_forms, blocks_forms}
use Rattle.rf_text.specs.Printed.{Printed, IsReadAgain, IsShownLabel}
use Rattle.rf_text.proofs.Insts.Each.{printed_append}
use Rattle.rf_text.proofs.Insts.Labels.{label_printed, brace_printed, empty_printed}

-- a line that has a form has no lexical fault
pub form_sound : (inside : Bool) (line : List ℕ) (f : Line) → form_in inside line ≡ Some f → fault_of line ≡ None
unfolding form_in
form_sound inside line f e = here (fault_of line) e where
  here : (o : Option ℕ) → sound_form o inside line ≡ Some f → o ≡ None
  here None e = refl
  here (Some k) e = nothing e

nothing_printed : Printed [] []
nothing_printed = record { lines = []; whole = refl; each = refl }

insts_printed : (ns : Names) (gs : List (List ℕ)) (is : List Inst) → All (IsReadAgain ns gs) is → Printed (insts_text ns gs is) (insts_forms ns gs is)
insts_printed ns gs [] all = nothing_printed
insts_printed ns gs (i ∷ is) all = printed_append (All-head (IsReadAgain ns gs) i is all) (insts_printed ns gs is (All-tail (IsReadAgain ns gs) i is all))

label_line_printed : (name : Option (List ℕ)) → IsShownLabel name → Printed (label_line name) (label_forms name)
label_line_printed None shown = nothing_printed
label_line_printed (Some name) shown = label_printed name shown

label_at : (labels : List (List ℕ)) (at : ℕ) → All IsLocalName labels → IsShownLabel (slice_get labels at)
label_at [] at all = tt
label_at (l ∷ ls) zero all = All-head IsLocalName l ls all
label_at (l ∷ ls) (suc at) all = label_at ls at (All-tail IsLocalName l ls all)

module _ (ns : Names) (gs : List (List ℕ)) (labels : All IsLocalName ns.labels) where
  abbrev Insts : Block → Type 0
  Insts b = All (IsReadAgain ns gs) b.insts

  next_printed : (at : ℕ) (b : Block) → Insts b → Printed (next_block ns gs at b) (line.Empty ∷ (label_forms (slice_get ns.labels at) ++ insts_forms ns gs b.insts))
  next_printed at b insts = printed_append empty_printed (printed_append (label_line_printed (slice_get ns.labels at) (label_at ns.labels at labels)) (insts_printed ns gs b.insts insts))

  more_printed : (at : ℕ) (bs : List Block) → All Insts bs → Printed (more_blocks ns gs at bs) (more_blocks_forms ns gs at bs)
  more_printed at [] all = nothing_printed
  more_printed at (b ∷ bs) all =
      subst (λ fs. Printed (more_blocks ns gs at (b ∷ bs)) (line.Empty ∷ fs)) (append_assoc (label_forms (slice_get ns.labels at)) (insts_forms ns gs b.insts) (more_blocks_forms ns gs (at + 1) bs))
      (printed_append (next_printed at b (All-head Insts b bs all)) (more_printed (at + 1) bs (All-tail Insts b bs all)))

  blocks_printed : (bs : List Block) → All (λ (b : Block). IsShownLabel b.name) bs → All Insts bs → Printed (blocks_text ns gs bs) (blocks_forms ns gs bs)
  blocks_printed [] names all = nothing_printed
  blocks_printed (b ∷ bs) names all =
      printed_append (label_line_printed b.name (All-head (λ (b : Block). IsShownLabel b.name) b bs names))
      (printed_append (insts_printed ns gs b.insts (All-head Insts b bs all)) (more_printed 1 bs (All-tail Insts b bs all)))

  pub body_printed : (bs : List Block) → All (λ (b : Block). IsShownLabel b.name) bs → All Insts bs → Printed (blocks_text ns gs bs ++ codes "}\n") (blocks_forms ns gs bs ++ Close ∷ [])
  body_printed bs names all = printed_append (blocks_printed bs names all) brace_printed
