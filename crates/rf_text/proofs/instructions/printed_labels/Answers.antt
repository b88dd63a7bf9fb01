-- Labels are read again.
use Rattle.rf_text.proofs.Insts.Labels.{label_printed}
use Rattle.rf_text.proofs.instructions.printed_labels.Goals as goal

pub returns : goal.returns
returns c = label_printed
