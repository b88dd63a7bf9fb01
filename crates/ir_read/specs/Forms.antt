-- The form of each line of a text, and which lines stand in a function.
--
-- A `define` line that ends with a brace starts a function, which ends at the next line whose only token is `}`. Lines of a function
-- are read as those inside one, all others as lines of the module.
use Rattle.std.specs.Prelude.{ℕ, Bool, true, false, cond, Option, None, Some, List, [], ◌∷◌}
use Rattle.ir_lex.specs.declared.list.Token.{Token}
use Rattle.ir_lex.specs.Scan.{fault_of, cut}
use Rattle.ir_draft.specs.declared.line.Line.{Line}
use Rattle.ir_draft.specs.declared.line.Line.TheVariants.{Define, Close}
use Rattle.ir_line.specs.Body.{read_body}
use Rattle.ir_line.specs.Outside.{read_outside}

-- the form of a line with these tokens, inside a function or outside
unfoldable pub form_by : Bool → List ℕ → List Token → Option Line
form_by inside line ts = cond inside (read_body line ts) (read_outside line ts)

-- the form of a line that has no lexical fault; one that has a fault has no form
abbrev pub sound_form : Option ℕ → Bool → List ℕ → Option Line
sound_form None inside line = form_by inside line (cut line)
sound_form (Some k) inside line = None

unfoldable pub form_in : Bool → List ℕ → Option Line
form_in inside line = sound_form (fault_of line) inside line

-- whether the next line stands in a function
abbrev pub inside_after : Bool → Option Line → Bool
inside_after inside (Some (Define name head)) = true
inside_after inside (Some Close) = false
inside_after inside _ = inside

-- the forms of some lines in order
abbrev pub forms_from : Bool → List (List ℕ) → List (Option Line)
forms_from inside [] = []
forms_from inside (l ∷ ls) = form_in inside l ∷ forms_from (inside_after inside (form_in inside l)) ls

-- the forms of the lines of a text
abbrev pub forms_of : List (List ℕ) → List (Option Line)
forms_of ls = forms_from false ls
