-- A text line by line, as it is read: nothing of the lines to come is known.
--
-- The first misplaced line of a function is kept in mind up to the function's brace, as a later line may make the function opaque.
-- What this comes to is `draft_of`, where each function is judged by all its lines where it begins.
use Rattle.std.specs.Prelude.{ℕ, suc, ◌+◌, ◌-◌, Bool, true, false, cond, Option, None, Some, Result, Ok, Err, List, [], ◌∷◌, take}
use Rattle.ir_draft.specs.declared.line.Line.{Line}
use Rattle.ir_draft.specs.declared.line.Line.TheVariants as line
use Rattle.ir_draft.specs.declared.head.Head.{Head}
use Rattle.ir_draft.specs.declared.draft.Draft.{Draft}
use Rattle.ir_read.specs.declared.outlook.Outlook.{Outlook}
use Rattle.ir_read.specs.declared.open_function.OpenFunction.{OpenFunction as Open}
use Rattle.ir_read.specs.declared.open_function.Verdict.{Verdict}
use Rattle.ir_read.specs.declared.open_function.Verdict.TheVariants as verdict
use Rattle.ir_read.specs.declared.position.Position.{Position}
use Rattle.ir_read.specs.declared.progress.Done.{Done}
use Rattle.ir_read.specs.declared.progress.Current.{Current}
use Rattle.ir_read.specs.declared.progress.Current.TheVariants as current
use Rattle.ir_read.specs.declared.progress.Origin.{Origin}
use Rattle.ir_read.specs.declared.progress.Faulty.{Faulty}
use Rattle.ir_read.specs.declared.progress.Progress.{Progress}
use Rattle.ir_read.specs.declared.refusal.ReadRefusal.{ReadRefusal}
use Rattle.ir_read.specs.declared.refusal.ReadRefusal.TheVariants.{NotALine, Misplaced}
use Rattle.ir_read.specs.Answers.{◌>>=◌}
use Rattle.ir_read.specs.Forms.{form_in}
use Rattle.ir_read.specs.Position.{start}
use Rattle.ir_read.specs.Function.{after_line, opened_by, with_line}
use Rattle.ir_read.specs.Opaque.{passed_over, is_foreign_line, joined}
use Rattle.ir_read.specs.Limits.{passed}
use Rattle.ir_read.specs.Draft.{with_kept, with_opaque, closed, within}

-- ---- what is read before a line

abbrev pub outside : Done → Progress
outside done = record { done = done; current = current.Outside }

-- in a function of which all lines so far stand where they may
abbrev pub sound : Done → Option (List ℕ) → Open → Progress
sound done name o = record { done = done; current = current.Sound name o }

-- in a function that began here and has a misplaced line
abbrev pub faulty : Done → Origin → Position → ℕ → Progress
faulty done from p n = record { done = done; current = current.Misplaced (record { origin = from; at = p; line = n }) }

-- in an opaque function that began here
abbrev pub opaque : Done → Origin → Progress
opaque done from = record { done = done; current = current.Opaque from }

abbrev pub began : ℕ → Option (List ℕ) → Origin
began n name = record { line = n; name = name }

-- whether the next line stands in a function
abbrev pub is_inside : Current → Bool
is_inside current.Outside = false
is_inside _ = true

-- whether the function that is open is opaque or has a misplaced line
abbrev pub is_passed : Current → Bool
is_passed (current.Misplaced f) = true
is_passed (current.Opaque from) = true
is_passed _ = false

-- ---- lines

-- the function that a header of the profile in the line n opens
abbrev pub header_opens : ℕ → Done → Option (List ℕ) → Result Open ReadRefusal → Result Progress ReadRefusal
header_opens n done name (Ok o) = Ok (sound done name o)
header_opens n done name (Err refusal) = Ok (faulty done (began n name) (start 0) n)

abbrev pub header_step : ℕ → Done → Option (List ℕ) → Option Head → Result Progress ReadRefusal
header_step n done name None = Ok (opaque done (began n name))
header_step n done name (Some head) = header_opens n done name (opened_by n head)

unfoldable pub define_step : Outlook → ℕ → Done → Option (List ℕ) → Option Head → Result Progress ReadRefusal
define_step known n done name head = cond known.other_pointers (Ok (opaque done (began n name))) (header_step n done name head)

-- the line n of this form, outside functions
abbrev pub outside_step : Outlook → ℕ → Done → Option Line → Result Progress ReadRefusal
outside_step known n done (Some line.Empty) = Ok (outside done)
outside_step known n done (Some (line.Kept kept)) = Ok (outside (with_kept done n kept))
outside_step known n done (Some (line.Define name head)) = define_step known n done name head
outside_step known n done _ = Err (NotALine n)

-- the open function as a line left it, of which this was found
abbrev pub taken : ℕ → Done → Option (List ℕ) → Open → Verdict → Progress
taken n done name o verdict.Stands = sound done name o
taken n done name o verdict.Ends = outside (closed done o)
taken n done name o verdict.Misplaced = faulty done (began o.line name) o.at n
taken n done name o verdict.Foreign = opaque done (began o.line name)

-- with the line n of the open function, where it stands as it may
abbrev pub added : ℕ → Done → Option (List ℕ) → Open → Line → Position → Progress
added n done name o line.Empty p = sound done name o
added n done name o line.Close p = outside (closed done o)
added n done name o form p = sound done name (with_line o n form p)

-- with one that is misplaced; a brace ends the function
abbrev pub misplaced : ℕ → Done → Option (List ℕ) → Open → Line → Result Progress ReadRefusal
misplaced n done name o line.Close = Err (Misplaced n)
misplaced n done name o form = Ok (faulty done (began o.line name) (passed_over o.at form) n)

abbrev pub judged : ℕ → Done → Option (List ℕ) → Open → Line → Result Position ReadRefusal → Result Progress ReadRefusal
judged n done name o form (Ok p) = Ok (added n done name o form p)
judged n done name o form (Err (Misplaced line)) = misplaced n done name o form
judged n done name o form (Err refusal) = Ok (opaque done (began o.line name))

-- the line n in a function of which all lines before stand where they may
unfoldable pub sound_step : Outlook → ℕ → Done → Option (List ℕ) → Open → Option Line → Result Progress ReadRefusal
sound_step known n done name o None = Ok (opaque done (began o.line name))
sound_step known n done name o (Some form) = judged n done name o form (after_line known.names n o.at form)

-- a line in a function that has a misplaced one
abbrev pub faulty_step : Outlook → Done → Faulty → Option Line → Result Progress ReadRefusal
faulty_step known done f None = Ok (opaque done f.origin)
faulty_step known done f (Some line.Close) = Err (Misplaced f.line)
faulty_step known done f (Some form) =
    cond (is_foreign_line known.names f.at form) (Ok (opaque done f.origin)) (Ok (faulty done f.origin (passed_over f.at form) f.line))

-- the function as such a line left it, where that is outside the profile or not
abbrev pub faulty_taken : Done → Faulty → Bool → Progress
faulty_taken done f true = opaque done f.origin
faulty_taken done f false = record { done = done; current = current.Misplaced f }

abbrev pub is_close : Option Line → Bool
is_close (Some line.Close) = true
is_close _ = false

-- the line n in an opaque function; these are the lines of the text from the header on
abbrev pub opaque_step : ℕ → List (List ℕ) → Done → Origin → Option Line → Progress
opaque_step n ls done from (Some line.Close) = outside (with_opaque done from.line from.name (joined (take (suc (n - from.line)) ls)))
opaque_step n ls done from _ = opaque done from

abbrev pub current_step : Outlook → ℕ → List (List ℕ) → Done → Current → Option Line → Result Progress ReadRefusal
current_step known n ls done current.Outside form = outside_step known n done form
current_step known n ls done (current.Sound name o) form = sound_step known n done name o form
current_step known n ls done (current.Misplaced f) form = faulty_step known done f form
current_step known n ls done (current.Opaque from) form = Ok (opaque_step n ls done from form)

-- the line n with its form, if it has one
abbrev pub line_step : Outlook → ℕ → List (List ℕ) → Progress → Option Line → Result Progress ReadRefusal
line_step known n ls read form = current_step known n ls read.done read.current form

-- ---- texts

-- at the end of the text, where n is the number of lines and one more
abbrev pub at_end : ℕ → Done → Current → Result Draft ReadRefusal
at_end n done current.Outside = within done (passed done.size)
at_end n done (current.Misplaced f) = Err (Misplaced f.line)
at_end n done _ = Err (Misplaced n)

-- the lines from the header of the open function on; outside functions, the lines that are left
abbrev pub since : Bool → List (List ℕ) → List (List ℕ) → List (List ℕ)
since true from ls = from
since false from ls = ls

-- the draft of what is read and of these lines, of which the first has the number n
abbrev pub steps_from : Outlook → ℕ → Progress → List (List ℕ) → List (List ℕ) → Result Draft ReadRefusal
steps_from known n read from [] = at_end n read.done read.current
steps_from known n read from (l ∷ ls) =
    line_step known n (since (is_inside read.current) from (l ∷ ls)) read (form_in (is_inside read.current) l)
    >>= (λ after. steps_from known (n + 1) after (since (is_inside read.current) from (l ∷ ls)) ls)
