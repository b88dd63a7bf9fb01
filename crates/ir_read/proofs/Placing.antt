-- Lines of a function's body, one after the other, and names for what is known between two lines: proofs of other crates speak of these.
use Rattle.std.proofs.Common.{ℕ, ◌+◌, Result, Ok, Err, List, [], ◌∷◌}
use Rattle.ir_draft.specs.declared.line.Line.{Line}
use Rattle.ir_draft.specs.declared.line.Line.TheVariants as line
use Rattle.ir_read.specs.declared.outlook.Outlook.{Outlook}
use Rattle.ir_read.specs.declared.open_function.OpenFunction.{OpenFunction as Open}
use Rattle.ir_read.specs.declared.position.Position.{Position}
use Rattle.ir_read.specs.declared.position.Spot.{Spot}
use Rattle.ir_read.specs.declared.position.Spot.TheVariants.{Between, Front, After, Cases}
use Rattle.ir_read.specs.declared.progress.Done.{Done}
use Rattle.ir_read.specs.declared.refusal.ReadRefusal.{ReadRefusal}
use Rattle.ir_read.specs.declared.refusal.ReadRefusal.TheVariants.{Misplaced}
use Rattle.ir_read.specs.Answers.{◌>>=◌}
use Rattle.ir_read.specs.Function.{after_line}
use Rattle.ir_read.specs.Draft as draft

-- where a line of a function stands, and what is open there
abbrev pub Place : Type 0
Place = Position

abbrev pub Opening : Type 0
Opening = Spot

-- the function that is open, what is read, both together, and what the whole text says
abbrev pub OpenFunction : Type 0
OpenFunction = Open

abbrev pub Read : Type 0
Read = Done

abbrev pub Reading : Type 0
Reading = draft.Reading

abbrev pub Known : Type 0
Known = Outlook

abbrev pub no_block : Spot
no_block = Between

abbrev pub front : Spot
front = Front

abbrev pub after : Spot
after = After

abbrev pub cases : Spot
cases = Cases

abbrev pub place : ℕ → ℕ → ℕ → Spot → Position
place next insts blocks spot = record { next = next; insts = insts; blocks = blocks; spot = spot }

-- after the line n of a body, which has this form; the brace is of no body
abbrev pub body_line : List (List ℕ) → ℕ → Position → Line → Result Position ReadRefusal
body_line names n p line.Close = Err (Misplaced n)
body_line names n p form = after_line names n p form

-- after lines of these forms, of which the first has the number n
abbrev pub body_lines : List (List ℕ) → ℕ → Position → List Line → Result Position ReadRefusal
body_lines names n p [] = Ok p
body_lines names n p (f ∷ fs) = body_line names n p f >>= (λ q. body_lines names (n + 1) q fs)
