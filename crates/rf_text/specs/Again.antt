-- What is printed is read again: the text of a module that was read, is formed and has the low byte first spells that module with its
-- ids given anew and reads as it, and that is formed.
use Rattle.ir_types.specs.declared.module.Module.{Module}
use Rattle.ir_types.specs.Formed.{IsFormed}
use Rattle.ir_print.specs.Text.{text_of}
use Rattle.rf_text.specs.Printable.{IsPrintable, IsNumbered, IsCounted}
use Rattle.rf_text.specs.Reads.{Reads}
use Rattle.rf_text.specs.Spelled.{Spelled}
use Rattle.ir_types.specs.Renumbered.{renumbered}

-- the module's text reads as the module with its ids given anew, which is formed
pub record IsReadAgain (m : Module) : Type 0 where
  pub reads : Reads (text_of m) (renumbered m)
  -- each line says what that module has there; so no type, name or flag is printed wrong
  pub spells : Spelled (text_of m) (renumbered m)
  pub formed : IsFormed (renumbered m)

-- so it is of each module that is formed and printable, and whose ids are those of a module that was read
abbrev pub TextsAreReadAgain : Type 0
TextsAreReadAgain = (m : Module) → IsFormed m → IsPrintable m → IsNumbered m → IsCounted m → IsReadAgain m

-- and of each module that is formed and printable, whatever its ids are
abbrev pub AnyTextsAreReadAgain : Type 0
AnyTextsAreReadAgain = (m : Module) → IsFormed m → IsPrintable m → IsCounted m → IsReadAgain m
