-- What a verdict says: that all is available, or which use misses its definition, or nothing for want of memory.
use Rattle.std.specs.Prelude.{ℕ, List}
use Rattle.std.specs.declared.result.Result.{Result}
use Rattle.std.specs.declared.result.Result.TheVariants.{Ok, Err}
use Rattle.ir_types.specs.declared.id.Id.{Id}
use Rattle.ir_types.specs.declared.module.Module.{Module}
use Rattle.ir_types.specs.Available.{IsFirstMiss}
use Rattle.ir_avail.specs.declared.refusal.AvailRefusal.{AvailRefusal}
use Rattle.ir_avail.specs.declared.refusal.AvailRefusal.TheVariants.{NotAvailable, OutOfMemory}

-- what a refusal says of a part: the use and the walk that it names, or nothing for want of memory
abbrev pub Blames : (Id → ℕ → List ℕ → Type 0) → AvailRefusal → Type 0
Blames Misses (NotAvailable user slot walk) = Misses user slot walk
Blames Misses OutOfMemory = Unit {0}

-- all is available, or the refusal blames what is not
abbrev pub Judges : {T : Type 0} → Type 0 → (Id → ℕ → List ℕ → Type 0) → Result T AvailRefusal → Type 0
Judges Fine Misses (Ok _) = Fine
Judges Fine Misses (Err refusal) = Blames Misses refusal

-- the refusal names the first use of the module that is not available, and its least walk
abbrev pub BlamesFirst : Module → AvailRefusal → Type 0
BlamesFirst m refusal = Blames (λ user slot walk. IsFirstMiss user slot walk m) refusal
