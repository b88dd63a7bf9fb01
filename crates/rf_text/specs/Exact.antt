-- What reading and resolving give: exactly the module that a text reads as, where the limits hold and types hold.
use Rattle.std.specs.Prelude.{◌≡◌, ℕ, None, Ok, List}
use Rattle.ir_types.specs.declared.module.Module.{Module}
use Rattle.ir_draft.specs.declared.draft.Draft.{Draft}
use Rattle.ir_read.specs.Draft.{draft_of}
use Rattle.ir_read.specs.Limits.{passed}
use Rattle.ir_read.specs.Sizes.{size_of}
use Rattle.ir_types_check.specs.declared.resolved.Resolved.{Resolved}
use Rattle.ir_types_check.specs.Resolved.{resolved_of}
use Rattle.ir_types_check.specs.Typed.{items_typed}
use Rattle.ir_types.specs.Formed.{IsFormed}
use Rattle.rf_text.specs.Limits.{IsWithinLimits}
use Rattle.rf_text.specs.Reads.{Reads}
use Rattle.rf_text.specs.Spelled.{Spelled}

-- the text is a draft that resolves to the module
pub record Gives (bytes : List ℕ) (m : Module) : Type 0 where
  pub draft : Draft
  pub drafted : draft_of bytes ≡ Ok draft
  pub resolved : Resolved
  pub resolves : resolved_of draft ≡ Ok resolved
  pub is : resolved.«module» ≡ m

-- the text reads as the module, its items pass no limit, and their lines are well typed
pub record IsExact (bytes : List ℕ) (m : Module) : Type 0 where
  pub reads : Reads bytes m
  pub limits : passed (size_of reads.items) ≡ None
  pub types : items_typed reads.named.tops.scope reads.items ≡ Ok tt

abbrev pub ReadAndResolved : Type 0
ReadAndResolved = (bytes : List ℕ) (m : Module) → Gives bytes m → IsExact bytes m

abbrev pub ResolvedAsRead : Type 0
ResolvedAsRead = (bytes : List ℕ) (m : Module) → IsExact bytes m → Gives bytes m

-- a text that spells a formed module within the limits gives it, and one that spells a formed module and gives it is within them
abbrev pub SpelledTextsAreGiven : Type 0
SpelledTextsAreGiven = (bytes : List ℕ) (m : Module) → Spelled bytes m → IsFormed m → IsWithinLimits m → Gives bytes m

abbrev pub GivenModulesAreWithin : Type 0
GivenModulesAreWithin = (bytes : List ℕ) (m : Module) → Spelled bytes m → IsFormed m → Gives bytes m → IsWithinLimits m
