-- The draft that a text is, or the first of these that is wrong with it:
-- 1. a lexical fault, anywhere in the text;
-- 2. a line that is none of the profile, or one that is misplaced, the first of both kinds; where the closing brace of a function is
--    missing, the line after the last is misplaced;
-- 3. a limit, in the order of instructions, values and blocks.
--
-- Whether a function is opaque is told from all its lines where it begins (`Opaque`). An opaque one is kept as its lines are, and of those
-- only a missing brace is wrong. So a line that is none of the profile stands outside functions.
--
-- Empty lines, which are those without a token, are dropped, also from the bodies of functions of the profile. `Examples` has small
-- texts and what they are.
use Rattle.std.specs.Prelude.{ℕ, ◌+◌, cond, Option, None, Some, Result, Ok, Err, List, [], ◌∷◌, ◌++◌}
use Rattle.ir_draft.specs.declared.line.Line.{Line}
use Rattle.ir_draft.specs.declared.line.Line.TheVariants as line
use Rattle.ir_draft.specs.declared.head.Head.{Head}
use Rattle.ir_draft.specs.declared.draft.Draft.{Draft}
use Rattle.ir_draft.specs.declared.draft.DraftItem.TheVariants.{Kept as KeptItem, Opaque as OpaqueItem, Func}
use Rattle.ir_draft.specs.declared.kept.Kept.{Kept}
use Rattle.ir_read.specs.declared.outlook.Outlook.{Outlook}
use Rattle.ir_read.specs.declared.open_function.OpenFunction.{OpenFunction as Open}
use Rattle.ir_read.specs.declared.position.Position.{Position}
use Rattle.ir_read.specs.declared.progress.Done.{Done}
use Rattle.ir_read.specs.declared.refusal.Limit.{Limit}
use Rattle.ir_read.specs.declared.refusal.ReadRefusal.{ReadRefusal}
use Rattle.ir_read.specs.declared.refusal.ReadRefusal.TheVariants.{NotALine, Misplaced, Limit as Passed}
use Rattle.ir_read.specs.Answers.{◌>>=◌}
use Rattle.ir_read.specs.Lines.{lines_of}
use Rattle.ir_read.specs.Faults.{first_fault, unless}
use Rattle.ir_read.specs.Forms.{forms_of}
use Rattle.ir_read.specs.Outlook.{outlook_of}
use Rattle.ir_read.specs.Function.{after_line, opened_by, with_line}
use Rattle.ir_read.specs.Opaque.{is_opaque, text_at}
use Rattle.ir_read.specs.Limits.{no_size, with_function, passed}

-- ---- what is read before a line

-- what stands open there
pub data Opened : Type 0 where
  -- no function
  Nothing : Opened
  -- a function of the profile
  Profile : Open → Opened
  -- an opaque function, which is among the items already
  Passing : Opened

pub record Reading : Type 0 where
  pub done : Done
  pub current : Opened

-- what was read before the first line
abbrev pub nothing_done : Done
nothing_done = record { items = []; size = no_size }

-- outside functions
abbrev pub between : Done → Reading
between done = record { done = done; current = Nothing }

-- in a function of the profile
abbrev pub going_on : Done → Open → Reading
going_on done o = record { done = done; current = Profile o }

-- in an opaque function
abbrev pub passing : Done → Reading
passing done = record { done = done; current = Passing }

-- with a kept line
unfoldable pub with_kept : Done → ℕ → Kept → Done
with_kept done n kept = record { items = done.items ++ KeptItem n kept ∷ []; size = done.size }

-- with an opaque function whose header is the line n; it counts for no limit
unfoldable pub with_opaque : Done → ℕ → Option (List ℕ) → List ℕ → Done
with_opaque done n name text = record { items = done.items ++ OpaqueItem n name text ∷ []; size = done.size }

-- with a function that its brace has closed
unfoldable pub closed : Done → Open → Done
closed done o = record { items = done.items ++ Func o.line o.head o.body ∷ []; size = with_function done.size o }

-- with the line n of the open function, where its form and the position after it are these
abbrev pub placed : Done → Open → ℕ → Line → Position → Reading
placed done o n line.Empty p = going_on done o
placed done o n line.Close p = between (closed done o)
placed done o n form p = going_on done (with_line o n form p)

-- ---- lines

-- the line n of this form, inside a function of the profile
unfoldable pub line_inside : Outlook → ℕ → Done → Open → Line → Result Reading ReadRefusal
line_inside known n done o form = after_line known.names n o.at form >>= (λ p. Ok (placed done o n form p))

-- a header in the line n, of a function that is not opaque
unfoldable pub header_line : ℕ → Done → Option Head → Result Reading ReadRefusal
header_line n done None = Err (NotALine n)
header_line n done (Some head) = opened_by n head >>= (λ o. Ok (going_on done o))

-- a header in the line n of these lines, after which lines of these forms stand
unfoldable pub function_line : Outlook → List (List ℕ) → ℕ → List (Option Line) → Done → Option (List ℕ) → Option Head → Result Reading ReadRefusal
function_line known ls n fs done name head =
    cond (is_opaque known head fs) (Ok (passing (with_opaque done n name (text_at ls n fs)))) (header_line n done head)

-- the line n of this form, outside functions
abbrev pub line_outside : Outlook → List (List ℕ) → ℕ → List (Option Line) → Done → Line → Result Reading ReadRefusal
line_outside known ls n fs done line.Empty = Ok (between done)
line_outside known ls n fs done (line.Kept kept) = Ok (between (with_kept done n kept))
line_outside known ls n fs done (line.Define name head) = function_line known ls n fs done name head
line_outside known ls n fs done _ = Err (NotALine n)

-- a line in an opaque function: the brace ends it
abbrev pub line_passed : Done → Option Line → Reading
line_passed done (Some line.Close) = between done
line_passed done _ = passing done

abbrev pub step_in : Outlook → List (List ℕ) → ℕ → List (Option Line) → Done → Opened → Option Line → Result Reading ReadRefusal
step_in known ls n fs done Passing f = Ok (line_passed done f)
step_in known ls n fs done Nothing (Some form) = line_outside known ls n fs done form
step_in known ls n fs done (Profile o) (Some form) = line_inside known n done o form
step_in known ls n fs done _ None = Err (NotALine n)

-- the line n of these lines, with its form if it has one, and the forms of the lines after it
abbrev pub step : Outlook → List (List ℕ) → ℕ → List (Option Line) → Reading → Option Line → Result Reading ReadRefusal
step known ls n fs read f = step_in known ls n fs read.done read.current f

-- ---- texts

-- a draft within the limits
abbrev pub within : Done → Option Limit → Result Draft ReadRefusal
within done None = Ok (record { items = done.items })
within done (Some which) = Err (Passed which)

-- at the end of the text, where n is the number of lines and one more
abbrev pub ended : ℕ → Done → Opened → Result Draft ReadRefusal
ended n done Nothing = within done (passed done.size)
ended n done _ = Err (Misplaced n)

-- the draft of what is read and of lines of these forms, of which the first is the line n of these lines
abbrev pub read_from : Outlook → List (List ℕ) → ℕ → Reading → List (Option Line) → Result Draft ReadRefusal
read_from known ls n read [] = ended n read.done read.current
read_from known ls n read (f ∷ fs) = step known ls n fs read f >>= (λ after. read_from known ls (n + 1) after fs)

-- the draft of a text of these lines
abbrev pub draft_in : List (List ℕ) → Result Draft ReadRefusal
draft_in ls = unless (first_fault 1 ls) (outlook_of (forms_of ls)) >>= (λ known. read_from known ls 1 (between nothing_done) (forms_of ls))

-- the draft that a text is, or the first that is wrong with it
abbrev pub draft_of : List ℕ → Result Draft ReadRefusal
draft_of bytes = draft_in (lines_of bytes)
