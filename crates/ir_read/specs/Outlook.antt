-- What is taken from the whole text before its lines are judged: the names that no operand may be, and the pointers of the layout.
--
-- No operand may name a function, which is one that a `define` line or a `declare` line names, or a symbol that is no global.
use Rattle.std.specs.Prelude.{ℕ, Bool, false, ◌||◌, cond, Option, None, Some, Result, List, [], ◌∷◌, ◌++◌, bytes_eq}
use Rattle.std.specs.List.{list_any}
use Rattle.ir_draft.specs.declared.line.Line.{Line}
use Rattle.ir_draft.specs.declared.line.Line.TheVariants as line
use Rattle.ir_draft.specs.declared.kept.Kept.{Kept}
use Rattle.ir_draft.specs.declared.head.Head.{Head}
use Rattle.ir_read.specs.declared.outlook.Outlook.{Outlook}
use Rattle.ir_read.specs.declared.refusal.ReadRefusal.{ReadRefusal}
use Rattle.ir_read.specs.Faults.{fault_at, unless}
use Rattle.ir_read.specs.Forms.{form_in, inside_after}

-- whether a name is among these
abbrev pub has : List (List ℕ) → List ℕ → Bool
has names name = list_any (bytes_eq name) names

-- the names with one more, each once
abbrev pub with_name : List (List ℕ) → List ℕ → List (List ℕ)
with_name names name = cond (has names name) names (names ++ name ∷ [])

abbrev pub with_some : List (List ℕ) → Option (List ℕ) → List (List ℕ)
with_some names None = names
with_some names (Some name) = with_name names name

-- the name of a kept line that gives a symbol which is no global
abbrev pub indirect : Kept → Option (List ℕ)
indirect kept = cond kept.global None kept.symbol

-- the name of a function of the profile
abbrev pub headed : Option Head → Option (List ℕ)
headed None = None
headed (Some head) = Some head.name

-- the names with those that a line of this form gives
abbrev pub with_form : List (List ℕ) → Option Line → List (List ℕ)
with_form names (Some (line.Kept kept)) = with_some (with_some names kept.declared) (indirect kept)
with_form names (Some (line.Define name head)) = with_some (with_some names name) (headed head)
with_form names _ = names

-- whether a line of this form is of a layout with pointers that have not 64 bits
abbrev pub gives_pointers : Option Line → Bool
gives_pointers (Some (line.Kept kept)) = kept.other_pointers
gives_pointers _ = false

abbrev pub nothing_seen : Outlook
nothing_seen = record { names = []; other_pointers = false }

abbrev pub with_line : Outlook → Option Line → Outlook
with_line o form = record { names = with_form o.names form; other_pointers = o.other_pointers || gives_pointers form }

-- what lines of these forms give, beside what is known
abbrev pub seen_from : Outlook → List (Option Line) → Outlook
seen_from o [] = o
seen_from o (f ∷ fs) = seen_from (with_line o f) fs

-- what a text with lines of these forms gives
abbrev pub outlook_of : List (Option Line) → Outlook
outlook_of fs = seen_from nothing_seen fs

-- the line n, inside a function or outside: what is known with it, and whether the next line stands in a function
abbrev pub line_seen : Outlook → ℕ → Bool → List ℕ → Result (Outlook × Bool) ReadRefusal
line_seen o n inside line = unless (fault_at n line) (with_line o (form_in inside line), inside_after inside (form_in inside line))
