-- What the steps of a command come to before anything is written: the text to write, or the fault that ends it. Want of memory is
-- tied to nothing.
use Rattle.std.specs.Prelude.{◌≡◌, ℕ, ◌+◌, ◌<◌, ◌≤◌, ◌⊎◌, Option, None, Some, Result, Ok, Err, List, [], length, unwrap_or, IfSome, Vec}
use Rattle.std.specs.Io.KnownBytes.{Keeps, IsAtEnd}
use Rattle.std.specs.declared.alloc.Global.{Global}
use Rattle.vx_io.specs.Count.{Rose}
use Rattle.ir_types.specs.declared.module.Module.{Module}
use Rattle.ir_types.specs.Formed.{IsFormed}
use Rattle.ir_draft.specs.declared.draft.Draft.{Draft}
use Rattle.ir_read.specs.Draft.{draft_of}
use Rattle.ir_types_check.specs.declared.resolved.Resolved.{Resolved}
use Rattle.vec_words.specs.declared.commands.Command.{Command}
use Rattle.vec_words.specs.Commands.{command_of}
use Rattle.vec_words.specs.declared.refusal.WordsRefusal.{WordsRefusal}
use Rattle.vec_words.specs.declared.refusal.WordsRefusal.TheVariants.{Word as Unfit, OutOfMemory as Exhausted}
use Rattle.vec_words.specs.declared.starts.Start.{Start}
use Rattle.vec_words.specs.Starts.{start_of}
use Rattle.ir_avail.specs.declared.refusal.AvailRefusal.{AvailRefusal}
use Rattle.ir_avail.specs.declared.refusal.AvailRefusal.TheVariants.{NotAvailable as Miss, OutOfMemory as AvailNoMemory}
use Rattle.vec_top.specs.declared.cause.Cause.TheVariants.{NotAvailable, BigEndian}
use Rattle.rf_text.specs.Printable.{IsPrintable, IsNumbered}
use Rattle.vec_top.specs.declared.fault.Fault.{Fault}
use Rattle.vec_top.specs.declared.fault.Fault.TheVariants.{Refused, Word, ReadFault, WriteFault, TooLong, NoMemory}
use Rattle.vec_top.specs.Accepts.{Resolves, Accepts, IsCause, line_of, operand_in}
use Rattle.vec_top.specs.Results.{result_of, Promises}
use Rattle.vec_top.specs.Replies.{byte_limit}

-- only a cause against the text ends a step, or want of memory
abbrev pub EndsBy : List ℕ → Fault → Type 0
EndsBy bytes (Refused cause) = IsCause bytes cause
EndsBy bytes NoMemory = Unit {0}
EndsBy bytes _ = ⊥

-- the text as a draft
abbrev pub Drafts : List ℕ → Result Draft Fault → Type 0
Drafts bytes (Ok draft) = draft_of bytes ≡ Ok draft
Drafts bytes (Err fault) = EndsBy bytes fault

-- a draft with its names and types resolved
abbrev pub ResolvesTo : List ℕ → Result Resolved Fault → Type 0
ResolvesTo bytes (Ok r) = Resolves bytes r
ResolvesTo bytes (Err fault) = EndsBy bytes fault

-- the module that the text is
abbrev pub AcceptsTo : List ℕ → Result Module Fault → Type 0
AcceptsTo bytes (Ok m) = Accepts bytes m
AcceptsTo bytes (Err fault) = EndsBy bytes fault

-- the fault that tells of a use that is not available
abbrev pub Blames : Resolved → AvailRefusal → Fault → Type 0
Blames r (Miss user slot walk) fault =
    (fault ≡ Refused (NotAvailable (line_of r user) (unwrap_or (operand_in user slot r.«module».items) []) walk)) ⊎ (fault ≡ NoMemory)
Blames r AvailNoMemory fault = fault ≡ NoMemory

-- the module itself, where its layout has the low byte first
abbrev pub Orders : Module → Result Module Fault → Type 0
Orders m (Ok n) = (n ≡ m) × (m.big_endian_line ≡ None)
Orders m (Err (Refused (BigEndian line))) = m.big_endian_line ≡ Some line
Orders m (Err _) = ⊥

-- the start of a run, or the word that does not fit the module
abbrev pub Starts : Module → List (List ℕ) → Result Start Fault → Type 0
Starts m words (Ok s) = start_of m words ≡ Ok s
Starts m words (Err (Word place)) = (k : ℕ) × (place ≡ k + 3) × (start_of m words ≡ Err k)
Starts m words (Err NoMemory) = Unit {0}
Starts m words (Err _) = ⊥

-- what a command may be asked for: a module that was read, is formed and has the low byte first
pub record IsReady (m : Module) : Type 0 where
  pub formed : IsFormed m
  pub printable : IsPrintable m
  pub numbered : IsNumbered m

-- what a command makes of a module, or the word that does not fit it
abbrev pub ResultFor : Command → Module → Result (Vec ℕ Global) Fault → Type 0
ResultFor c m (Ok text) = (result_of c m ≡ Ok text.items) × Promises c m
ResultFor c m (Err (Word place)) = result_of c m ≡ Err place
ResultFor c m (Err NoMemory) = Unit {0}
ResultFor c m (Err _) = ⊥

-- the text is what the command makes of the module that the bytes are
abbrev pub Gives : Command → List ℕ → List ℕ → Type 0
Gives c text bytes = (m : Module) × Accepts bytes m × (result_of c m ≡ Ok text) × Promises c m

-- a word does not fit the module that the bytes are
abbrev pub Misfits : Command → ℕ → List ℕ → Type 0
Misfits c place bytes = (m : Module) × Accepts bytes m × (result_of c m ≡ Err place)

-- what a command makes of some bytes
abbrev pub TextFor : Command → List ℕ → Result (Vec ℕ Global) Fault → Type 0
TextFor c bytes (Ok text) = Gives c text.items bytes
TextFor c bytes (Err (Word place)) = Misfits c place bytes
TextFor c bytes (Err fault) = EndsBy bytes fault

-- the input was read to its end, within the limit and without a fault, and holds what is asked of its bytes
pub record ReadsTo (left after : Option (List ℕ)) (before now : ℕ) (Holds : List ℕ → Type 0) : Type 0 where
  pub ends : IsAtEnd after
  pub quiet : now ≡ before
  pub within : IfSome left (λ bytes. length bytes ≤ byte_limit)
  pub holds : IfSome left Holds

-- what a command and the input come to
abbrev pub MakesFor : Command → Option (List ℕ) → Option (List ℕ) → ℕ → ℕ → Result (Vec ℕ Global) Fault → Type 0
MakesFor c left after before now (Ok text) = ReadsTo left after before now (Gives c text.items)
MakesFor c left after before now (Err (Refused cause)) = ReadsTo left after before now (λ bytes. IsCause bytes cause)
MakesFor c left after before now (Err (Word place)) = ReadsTo left after before now (Misfits c place)
MakesFor c left after before now (Err ReadFault) = Rose before now
MakesFor c left after before now (Err WriteFault) = ⊥
MakesFor c left after before now (Err TooLong) = (now ≡ before) × IfSome left (λ bytes. byte_limit < length bytes)
MakesFor c left after before now (Err NoMemory) = now ≡ before

-- the fault of words that do not hold
abbrev pub fault_for : WordsRefusal → Fault
fault_for (Unfit place) = Word place
fault_for Exhausted = NoMemory

-- the words hold as a command, and that and the input come to this
abbrev pub MakesHeld : List (List ℕ) → Option (List ℕ) → Option (List ℕ) → ℕ → ℕ → Result (Vec ℕ Global) Fault → Type 0
MakesHeld words left after before now made = (c : Command) × (command_of words ≡ Ok c) × MakesFor c left after before now made

-- the words do not hold, or there was no memory, and nothing was read
abbrev pub Unheld : List (List ℕ) → Fault → Type 0
Unheld words (Word place) = command_of words ≡ Err place
Unheld words NoMemory = Unit {0}
Unheld words _ = ⊥

pub record MakesNothing (words : List (List ℕ)) (left after : Option (List ℕ)) (before now : ℕ) (fault : Fault) : Type 0 where
  pub unheld : Unheld words fault
  pub unread : Keeps left after
  pub quiet : now ≡ before

-- what the words and the input come to
pub data Makes (words : List (List ℕ)) (left after : Option (List ℕ)) (before now : ℕ) (made : Result (Vec ℕ Global) Fault) : Type 0 where
  Nothing : (fault : Fault) → made ≡ Err fault → MakesNothing words left after before now fault → Makes words left after before now made
  Something : MakesHeld words left after before now made → Makes words left after before now made
