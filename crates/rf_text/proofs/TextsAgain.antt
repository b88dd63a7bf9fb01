-- The text of a module spells it, and so reads as it.
use Rattle.std.proofs.Common.{◌≡◌, sym, subst}
use Rattle.ir_types.specs.declared.module.Module.{Module}
use Rattle.ir_types.specs.Formed.{IsFormed}
use Rattle.ir_types.specs.Renumbered.{renumbered}
use Rattle.ir_print.specs.Text.{text_of}
use Rattle.rf_text.specs.Printable.{IsPrintable, IsNumbered, IsCounted}
use Rattle.rf_text.specs.Reads.{Reads}
use Rattle.rf_text.specs.Spelled.{Spelled}
use Rattle.rf_text.specs.Again.{IsReadAgain}
use Rattle.rf_text.proofs.PrintedSpells.{printed_spells}
use Rattle.rf_text.proofs.Renumbering.{numbered_stays}
use Rattle.rf_text.proofs.Spelling.Reads.{spelled_reads}

pub texts_again : (m : Module) → IsFormed m → IsPrintable m → IsNumbered m → IsCounted m → IsReadAgain m
texts_again m f p n c =
    let same : renumbered m ≡ m = numbered_stays m n in
    let spells : Spelled (text_of m) m = printed_spells m f p n c in
    record {
      reads = subst (λ (x : Module). Reads (text_of m) x) (sym same) (spelled_reads (text_of m) m spells f);
      spells = subst (λ (x : Module). Spelled (text_of m) x) (sym same) spells;
      formed = subst (λ (x : Module). IsFormed x) (sym same) f;
    }
