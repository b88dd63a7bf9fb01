-- How the entry points answer.
use Rattle.std.specs.Prelude.{◌≡◌, ℕ, Option, Some, None, Result, Ok, Err}
use Rattle.ir_draft.specs.declared.line.Line.{Line}
use Rattle.ir_draft.specs.declared.refusal.LineRefusal.{LineRefusal}
use Rattle.ir_draft.specs.declared.refusal.LineRefusal.TheVariants.{NotALine, OutOfMemory}

-- the refusal names the line by its number
abbrev pub IsNumbered : ℕ → LineRefusal → Type 0
IsNumbered number (NotALine line) = line ≡ number
IsNumbered number OutOfMemory = Unit {0}

-- the line is no form, or memory ran out
abbrev pub RefusesAll : LineRefusal → Option Line → Type 0
RefusesAll OutOfMemory read = Unit {0}
RefusesAll (NotALine line) read = read ≡ None

-- the answer is the form, if one was found; where none was, the refusal says so or memory ran out
abbrev pub Answers : Result Line LineRefusal → Option Line → Type 0
Answers (Ok form) read = read ≡ Some form
Answers (Err refusal) read = RefusesAll refusal read
