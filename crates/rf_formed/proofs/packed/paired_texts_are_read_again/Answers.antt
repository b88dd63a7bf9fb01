use Rattle.rf_formed.proofs.packed.paired_texts_are_read_again.Goals as goal
use Rattle.rf_formed.proofs.PairedPrintable.{pair_printable, pair_again}

pub returns : goal.returns
returns c = record { printable = pair_printable; again = pair_again }
