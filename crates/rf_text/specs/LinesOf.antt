-- Lines that are written one after the other, and lines that are kept.
use Rattle.std.specs.Prelude.{◌≡◌, refl, ℕ, ◌==◌, ◌||◌, not, Bool, true, false, None, Some, List, [], ◌∷◌, ◌++◌, codes}
use Rattle.std.specs.List.{list_all}
use Rattle.ir_lex.specs.Scan.{texts, fault_of}
use Rattle.ir_draft.specs.declared.line.Line.{Line}
use Rattle.ir_draft.specs.declared.line.Line.TheVariants as line
use Rattle.ir_draft.specs.declared.kept.Kept.{Kept}
use Rattle.ir_line.specs.Keeping.{kept_of}
use Rattle.ir_read.specs.Lines.{lines_of}
use Rattle.ir_read.specs.Forms.{form_in}

-- lines, each with a line feed after it
abbrev pub joined : List (List ℕ) → List ℕ
joined [] = []
joined (l ∷ ls) = l ++ (10 ∷ joined ls)

-- whether a byte is none that ends a line: no line feed and no carriage return
abbrev pub stays_in_line : ℕ → Bool
stays_in_line b = not (b == 10 || b == 13)

-- whether bytes are of one line
abbrev pub is_line : List ℕ → Bool
is_line bs = list_all stays_in_line bs

-- lines written one after the other are read as these lines
abbrev pub LinesAgain : Type 0
LinesAgain = (ls : List (List ℕ)) → list_all is_line ls ≡ true → lines_of (joined ls) ≡ ls

-- an empty line is its line feed
two_lines : joined (codes "a" ∷ [] ∷ codes "b" ∷ []) ≡ codes "a\n\nb\n"
two_lines = refl

-- a line without a lexical fault has no byte that ends a line
abbrev pub SoundAreLines : Type 0
SoundAreLines = (l : List ℕ) → fault_of l ≡ None → is_line l ≡ true

-- nor has one that has a form
abbrev pub FormsAreOfLines : Type 0
FormsAreOfLines = (inside : Bool) (l : List ℕ) (form : Line) → form_in inside l ≡ Some form → is_line l ≡ true

-- what is kept of a line outside functions, read as a line, is kept as the same
abbrev pub KeptAgain : Type 0
KeptAgain = (l : List ℕ) (kept : Kept) → form_in false l ≡ Some (line.Kept kept) → form_in false kept.text ≡ Some (line.Kept kept)

-- and all that was read of the line is read of that
abbrev pub KeptByText : Type 0
KeptByText = (l : List ℕ) (kept : Kept) → form_in false l ≡ Some (line.Kept kept) → kept ≡ kept_of kept.text (texts kept.text)
