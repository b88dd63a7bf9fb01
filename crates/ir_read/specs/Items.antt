-- The items that a text is, limits aside: the first part of what it reads as.
--
-- The text is lines. Each line has one form or none, as a line of a function between a header and the next brace, and as a line of the
-- module elsewhere; a line with a lexical fault has none. Each line stands where it may or is of an opaque function, and so they are the
-- items of a draft.
use Rattle.std.specs.Prelude.{◌≡◌, ℕ, ◌+◌, Bool, Option, None, Result, Ok, Err, List, [], ◌∷◌}
use Rattle.ir_draft.specs.declared.line.Line.{Line}
use Rattle.ir_draft.specs.declared.draft.DraftItem.{DraftItem}
use Rattle.ir_read.specs.declared.outlook.Outlook.{Outlook}
use Rattle.ir_read.specs.declared.progress.Done.{Done}
use Rattle.ir_read.specs.declared.refusal.ReadRefusal.{ReadRefusal}
use Rattle.ir_read.specs.declared.refusal.ReadRefusal.TheVariants.{Misplaced}
use Rattle.ir_read.specs.Answers.{◌>>=◌}
use Rattle.ir_read.specs.Lines.{lines_of}
use Rattle.ir_read.specs.Faults.{first_fault}
use Rattle.ir_read.specs.Forms.{forms_of}
use Rattle.ir_read.specs.Outlook.{outlook_of}
use Rattle.ir_read.specs.Draft.{Opened, Nothing, Reading, nothing_done, between, step}

-- what is read at the end of a text, where n is the number of lines and one more: no function may be open
abbrev pub closed_items : ℕ → Done → Opened → Result (List DraftItem) ReadRefusal
closed_items n done Nothing = Ok done.items
closed_items n done _ = Err (Misplaced n)

-- the items that lines of these forms are, of which the first is the line n of these lines, after what is read; or the first line that
-- may not stand where it does
abbrev pub items_from : Outlook → List (List ℕ) → ℕ → Reading → List (Option Line) → Result (List DraftItem) ReadRefusal
items_from known ls n read [] = closed_items n read.done read.current
items_from known ls n read (f ∷ fs) = step known ls n fs read f >>= (λ after. items_from known ls (n + 1) after fs)

-- the names that no operand may be, in a text with lines of these forms, and whether its layout has pointers that have not 64 bits
abbrev pub barred_in : List (Option Line) → List (List ℕ)
barred_in forms = (outlook_of forms).names

abbrev pub has_other_pointers : List (Option Line) → Bool
has_other_pointers forms = (outlook_of forms).other_pointers

-- the items that these lines, of these forms, are, in a text of which they are all
abbrev pub items_of : List (List ℕ) → List (Option Line) → Result (List DraftItem) ReadRefusal
items_of ls forms = items_from (outlook_of forms) ls 1 (between nothing_done) forms

-- the text is these items
pub record IsItems (bytes : List ℕ) (items : List DraftItem) : Type 0 where
  pub sound : first_fault 1 (lines_of bytes) ≡ None
  -- the form of each line, where each stands
  pub placed : items_of (lines_of bytes) (forms_of (lines_of bytes)) ≡ Ok items
