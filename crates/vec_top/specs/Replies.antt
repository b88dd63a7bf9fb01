-- What the program answers and writes: the texts of its faults, and what each stream has at each status.
use Rattle.std.specs.Prelude.{◌≡◌, refl, ℕ, ◌<◌, ◌≤◌, ◌⊎◌, Option, None, Some, Ok, Err, List, [], ◌∷◌, ◌++◌, codes, length, IfSome}
use Rattle.std.specs.Fmt.{decimal}
use Rattle.std.specs.Io.KnownBytes.{Appends, Keeps, IsAtEnd}
use Rattle.vx_io.specs.Bytes.{AppendsFront}
use Rattle.vx_io.specs.Count.{Rose}
use Rattle.ir_types.specs.declared.module.Module.{Module}
use Rattle.ir_read.specs.declared.refusal.Limit.{Limit}
use Rattle.ir_read.specs.declared.refusal.Limit.TheVariants.{Instructions, Values, Blocks}
use Rattle.vec_words.specs.declared.commands.Command.{Command}
use Rattle.vec_words.specs.Commands.{command_of}
use Rattle.vec_top.specs.declared.cause.Cause.{Cause}
use Rattle.vec_top.specs.declared.cause.Cause.TheVariants.{Lex, NotALine, Misplaced, Passes, TwiceDefined, Unknown, IllTyped, NotAvailable, BigEndian}
use Rattle.vec_top.specs.declared.fault.Fault.{Fault}
use Rattle.vec_top.specs.declared.fault.Fault.TheVariants.{Refused, Word, ReadFault, WriteFault, TooLong, NoMemory}
use Rattle.vec_top.specs.Accepts.{Accepts, IsCause}
use Rattle.vec_top.specs.Results.{result_of, Promises}

-- faults

-- the status of a cause against a text: a limit that it passes has its own
abbrev pub status_for : Cause → ℕ
status_for (Passes limit) = 5
status_for _ = 1

-- the status of a fault
abbrev pub status_of : Fault → ℕ
status_of (Refused cause) = status_for cause
status_of (Word place) = 2
status_of ReadFault = 3
status_of WriteFault = 4
status_of TooLong = 5
status_of NoMemory = 6

-- what is said of a line
abbrev pub said_of_line : ℕ → List ℕ → List ℕ
said_of_line line what = codes "line " ++ (decimal line ++ (codes ": " ++ what))

abbrev pub walk_text : List ℕ → List ℕ
walk_text [] = []
walk_text (b ∷ bs) = codes " " ++ (decimal b ++ walk_text bs)

abbrev pub limit_text : Limit → List ℕ
limit_text Instructions = codes "limit: instructions"
limit_text Values = codes "limit: values"
limit_text Blocks = codes "limit: blocks"

-- what is said of a cause
abbrev pub said_of_cause : Cause → List ℕ
said_of_cause (Lex line byte) = codes "line " ++ (decimal line ++ (codes " byte " ++ (decimal byte ++ codes ": lexical fault")))
said_of_cause (NotALine line) = said_of_line line (codes "not a line of the profile")
said_of_cause (Misplaced line) = said_of_line line (codes "misplaced")
said_of_cause (Passes limit) = limit_text limit
said_of_cause (TwiceDefined line name) = said_of_line line (name ++ codes " defined twice")
said_of_cause (Unknown line name) = said_of_line line (name ++ codes " unknown")
said_of_cause (IllTyped line) = said_of_line line (codes "ill typed")
said_of_cause (NotAvailable line name walk) = said_of_line line (name ++ (codes " not available along blocks" ++ walk_text walk))
said_of_cause (BigEndian line) = said_of_line line (codes "big-endian layout")

-- what is said of a fault
abbrev pub said_of : Fault → List ℕ
said_of (Refused cause) = said_of_cause cause
said_of (Word place) = codes "words: " ++ decimal place
said_of ReadFault = codes "read fault"
said_of WriteFault = codes "write fault"
said_of TooLong = codes "limit: bytes"
said_of NoMemory = codes "no memory"

-- the line that tells it
abbrev pub told : Fault → List ℕ
told f = codes "sandvec: " ++ (said_of f ++ codes "\n")

-- too many values are no fault of a line, and have the status of the limit on bytes
too_many_values : (told (Refused (Passes Values)) ≡ codes "sandvec: limit: values\n") × (status_of (Refused (Passes Values)) ≡ status_of TooLong)
too_many_values = (refl, refl)

-- the most bytes of an input
abbrev pub byte_limit : ℕ
byte_limit = 16777216

-- streams

-- what a call found and left of its streams: the bytes that `input` had left, those that `out` and `err` took, the counts of faults,
-- and how many more bytes `out` was sure to take
pub record Streams : Type 0 where
  pub left : Option (List ℕ)
  pub left_after : Option (List ℕ)
  pub read_faults : ℕ
  pub read_faults_after : ℕ
  pub out : Option (List ℕ)
  pub out_after : Option (List ℕ)
  pub out_faults : ℕ
  pub out_faults_after : ℕ
  pub room : Option ℕ
  pub err : Option (List ℕ)
  pub err_after : Option (List ℕ)
  pub err_faults : ℕ
  pub err_faults_after : ℕ

-- a sink took a text, or a front of it where its count of faults rose
abbrev pub Tells : Option (List ℕ) → Option (List ℕ) → ℕ → ℕ → List ℕ → Type 0
Tells old new before now text = Appends old new text ⊎ (AppendsFront old new text × Rose before now)

-- the fault that is told of a fault: that one, or want of memory where its line has to be made
abbrev pub IsTold : Fault → Fault → Type 0
IsTold (Refused cause) told_one = (told_one ≡ Refused cause) ⊎ (told_one ≡ NoMemory)
IsTold (Word place) told_one = (told_one ≡ Word place) ⊎ (told_one ≡ NoMemory)
IsTold f told_one = told_one ≡ f

-- `err` took the line of a fault, and `out` took nothing
pub record OnlyTells (s : Streams) (f : Fault) : Type 0 where
  pub err : Tells s.err s.err_after s.err_faults s.err_faults_after (told f)
  pub out : Keeps s.out s.out_after
  pub out_faults : s.out_faults_after ≡ s.out_faults

-- the words held and the input was read to its end, within the limit and without a fault
pub record ReadsAll (words : List (List ℕ)) (s : Streams) : Type 0 where
  pub command : Command
  pub says : command_of words ≡ Ok command
  pub ends : IsAtEnd s.left_after
  pub read_faults : s.read_faults_after ≡ s.read_faults
  pub within : IfSome s.left (λ bytes. length bytes ≤ byte_limit)

-- all was done: `out` took the text that the command makes of the module that the input is, and `err` nothing
pub record Done (words : List (List ℕ)) (s : Streams) : Type 0 where
  pub reads_all : ReadsAll words s
  pub printed : IfSome s.left (λ bytes.
      (m : Module) × (text : List ℕ) × Accepts bytes m × (result_of reads_all.command m ≡ Ok text) × Appends s.out s.out_after text
      × Promises reads_all.command m)
  pub out_faults : s.out_faults_after ≡ s.out_faults
  pub err : Keeps s.err s.err_after
  pub err_faults : s.err_faults_after ≡ s.err_faults

-- the cause is the first against the input, and the input is no module that is accepted
pub record IsRefused (words : List (List ℕ)) (s : Streams) (cause : Cause) : Type 0 where
  pub reads_all : ReadsAll words s
  pub first : IfSome s.left (λ bytes. IsCause bytes cause)
  pub no_module : IfSome s.left (λ bytes. (m : Module) → Accepts bytes m → ⊥)
  pub tells : OnlyTells s (Refused cause)

-- the words do not hold: the one at that place cannot stand, and nothing was read
pub record Unheld (words : List (List ℕ)) (s : Streams) (place : ℕ) : Type 0 where
  pub word : command_of words ≡ Err place
  pub unread : Keeps s.left s.left_after
  pub read_faults : s.read_faults_after ≡ s.read_faults
  pub tells : OnlyTells s (Word place)

-- the words hold, but the one at that place does not fit the module that the input is
pub record Misfit (words : List (List ℕ)) (s : Streams) (place : ℕ) : Type 0 where
  pub reads_all : ReadsAll words s
  pub word : IfSome s.left (λ bytes. (m : Module) × Accepts bytes m × (result_of reads_all.command m ≡ Err place))
  pub tells : OnlyTells s (Word place)

-- a read failed
pub record ReadFailed (words : List (List ℕ)) (s : Streams) : Type 0 where
  pub command : Command
  pub says : command_of words ≡ Ok command
  pub rose : Rose s.read_faults s.read_faults_after
  pub tells : OnlyTells s ReadFault

-- a write failed: `out` took a front of the text, for it was not sure of room for all
pub record WriteFailed (words : List (List ℕ)) (s : Streams) : Type 0 where
  pub reads_all : ReadsAll words s
  pub front : IfSome s.left (λ bytes.
      (m : Module) × (text : List ℕ) × Accepts bytes m × (result_of reads_all.command m ≡ Ok text) × AppendsFront s.out s.out_after text
      × IfSome s.room (λ k. k < length text))
  pub rose : Rose s.out_faults s.out_faults_after
  pub err : Tells s.err s.err_after s.err_faults s.err_faults_after (told WriteFault)

-- more bytes came than the limit
pub record PassesLimit (words : List (List ℕ)) (s : Streams) : Type 0 where
  pub command : Command
  pub says : command_of words ≡ Ok command
  pub read_faults : s.read_faults_after ≡ s.read_faults
  pub long : IfSome s.left (λ bytes. byte_limit < length bytes)
  pub tells : OnlyTells s TooLong

-- there was no memory, which is free
pub record Starved (s : Streams) : Type 0 where
  pub read_faults : s.read_faults_after ≡ s.read_faults
  pub tells : OnlyTells s NoMemory

-- what stands after each reply: none, where all was done, or a fault
abbrev pub Replies : List (List ℕ) → Streams → Option Fault → Type 0
Replies words s None = Done words s
Replies words s (Some (Refused cause)) = IsRefused words s cause
Replies words s (Some (Word place)) = Unheld words s place ⊎ Misfit words s place
Replies words s (Some ReadFault) = ReadFailed words s
Replies words s (Some WriteFault) = WriteFailed words s
Replies words s (Some TooLong) = PassesLimit words s
Replies words s (Some NoMemory) = Starved s

-- the exit status of a reply
abbrev pub exit_status : Option Fault → ℕ
exit_status None = 0
exit_status (Some f) = status_of f
