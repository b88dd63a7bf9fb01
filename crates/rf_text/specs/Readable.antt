-- Every module that was read can be printed and read again, as long as its layout has the low byte first.
use Rattle.std.specs.Prelude.{◌≡◌, ℕ, None, List}
use Rattle.ir_types.specs.declared.module.Module.{Module}
use Rattle.ir_types.specs.Formed.{IsPlain}
use Rattle.rf_text.specs.Printable.{IsPrintable, IsNumbered}
use Rattle.rf_text.specs.Reads.{Reads}

-- its items and kept parts are such as text can have, and its ids are 0, 1 and so on
abbrev pub ReadModulesArePrintable : Type 0
ReadModulesArePrintable = (bytes : List ℕ) (m : Module) → Reads bytes m → m.big_endian_line ≡ None → IsPrintable m × IsNumbered m

-- its ids are so whatever its layout
abbrev pub ReadModulesAreNumbered : Type 0
ReadModulesAreNumbered = (bytes : List ℕ) (m : Module) → Reads bytes m → IsNumbered m

-- and its names, results and literals of pointers are those of a formed module
abbrev pub ReadModulesArePlain : Type 0
ReadModulesArePlain = (bytes : List ℕ) (m : Module) → Reads bytes m → IsPlain m
