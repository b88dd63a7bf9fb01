-- The first lexical fault of a text.
use Rattle.std.specs.Prelude.{ℕ, ◌+◌, Result, Ok, Err, Option, None, Some, List, [], ◌∷◌}
use Rattle.ir_lex.specs.Scan.{fault_of}
use Rattle.ir_read.specs.declared.refusal.ReadRefusal.{ReadRefusal}
use Rattle.ir_read.specs.declared.refusal.ReadRefusal.TheVariants.{Lex}

-- the refusal of the line n with its first fault at the place k from 0; where it has none, what comes later
abbrev pub or_later : ℕ → Option ℕ → Option ReadRefusal → Option ReadRefusal
or_later n None later = later
or_later n (Some k) later = Some (Lex n (k + 1))

-- the first fault of one line, which has the number n
abbrev pub fault_at : ℕ → List ℕ → Option ReadRefusal
fault_at n line = or_later n (fault_of line) None

-- the first line with a lexical fault and the first such byte in it, both counted from 1; n is the number of the first of these lines
abbrev pub first_fault : ℕ → List (List ℕ) → Option ReadRefusal
first_fault n [] = None
first_fault n (l ∷ ls) = or_later n (fault_of l) (first_fault (n + 1) ls)

-- a value, where there is no fault
abbrev pub unless : {A : Type 0} → Option ReadRefusal → A → Result A ReadRefusal
unless None a = Ok a
unless (Some refusal) a = Err refusal
