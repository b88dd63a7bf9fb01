-- Braces and empty lines are read again.
use Rattle.rf_text.proofs.Insts.Labels.{brace_printed, empty_printed}
use Rattle.rf_text.proofs.instructions.printed_braces.Goals as goal

pub returns : goal.returns
returns c = record { brace = brace_printed; gap = empty_printed }
