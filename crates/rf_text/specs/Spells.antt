-- Every text that is accepted spells its module; a text that spells a formed module reads as it; and it spells one at most.
use Rattle.std.specs.Prelude.{◌≡◌, ℕ, Ok, None, List}
use Rattle.ir_types.specs.declared.module.Module.{Module}
use Rattle.ir_types.specs.Formed.{IsFormed}
use Rattle.ir_draft.specs.declared.draft.Draft.{Draft}
use Rattle.ir_read.specs.Draft.{draft_of}
use Rattle.ir_types_check.specs.declared.resolved.Resolved.{Resolved}
use Rattle.ir_types_check.specs.Resolved.{resolved_of}
use Rattle.rf_text.specs.Reads.{Reads}
use Rattle.rf_text.specs.Spelled.{Spelled}

-- a text that is a draft, whose names and types resolve to a module with the low byte first, spells that module
abbrev pub AcceptedTextsSpell : Type 0
AcceptedTextsSpell = (bytes : List ℕ) (d : Draft) (r : Resolved) → draft_of bytes ≡ Ok d → resolved_of d ≡ Ok r → r.«module».big_endian_line ≡ None → Spelled bytes r.«module»

-- a text that spells a formed module reads as that module
abbrev pub SpelledTextsRead : Type 0
SpelledTextsRead = (bytes : List ℕ) (m : Module) → Spelled bytes m → IsFormed m → Reads bytes m

-- no text spells two formed modules
abbrev pub SpelledOnce : Type 0
SpelledOnce = (bytes : List ℕ) (m n : Module) → Spelled bytes m → Spelled bytes n → IsFormed m → IsFormed n → m ≡ n
