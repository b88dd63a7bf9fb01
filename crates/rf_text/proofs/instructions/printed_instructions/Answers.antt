-- Instructions are read again.
use Rattle.rf_text.proofs.Insts.All.{inst_printed}
use Rattle.rf_text.proofs.instructions.printed_instructions.Goals as goal

pub returns : goal.returns
returns c = inst_printed
