-- The text of an opaque function: lines with a line feed between each two, from a header to the first line whose only token is `}`.
use Rattle.std.specs.Prelude.{◌≡◌, ℕ, Bool, false, Option, None, Some, List, [], ◌∷◌, ◌++◌}
use Rattle.std.specs.List.{All}
use Rattle.ir_lex.specs.Scan.{fault_of}
use Rattle.ir_draft.specs.declared.head.Head.{Head}
use Rattle.ir_draft.specs.declared.line.Line.{Line}
use Rattle.ir_draft.specs.declared.line.Line.TheVariants.{Define, Close}
use Rattle.ir_read.specs.Lines.{lines_of}
use Rattle.ir_read.specs.Forms.{forms_of}
use Rattle.ir_read.specs.Outlook.{outlook_of}
use Rattle.ir_read.specs.Opaque.{is_opaque, joined}

-- the forms of its lines
abbrev pub opaque_forms : List ℕ → List (Option Line)
opaque_forms text = forms_of (lines_of text)

-- the name of a function whose lines have these forms
abbrev pub name_in : List (Option Line) → Option (List ℕ)
name_in (Some (Define name head) ∷ fs) = name
name_in _ = None

abbrev pub opaque_name : List ℕ → Option (List ℕ)
opaque_name text = name_in (opaque_forms text)

-- whether it is opaque among the lines of a whole text, which have the first forms
abbrev pub opaque_in : List (Option Line) → List (Option Line) → Bool
opaque_in all (Some (Define name head) ∷ fs) = is_opaque (outlook_of all) head fs
opaque_in all _ = false

pub record IsOpaqueText (text : List ℕ) : Type 0 where
  -- the text is its lines, of which none has a lexical fault
  pub whole : text ≡ joined (lines_of text)
  pub sound : All (λ l. fault_of l ≡ None) (lines_of text)
  -- the first is a header, and the last is the first brace
  pub name : Option (List ℕ)
  pub head : Option Head
  pub body : List (Option Line)
  pub forms : opaque_forms text ≡ Some (Define name head) ∷ (body ++ Some Close ∷ [])
  pub inside : All (λ f. f ≡ Some Close → ⊥) body
