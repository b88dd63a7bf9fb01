use Rattle.rf_text.proofs.readable.read_modules_are_printable.Goals as goal
use Rattle.rf_text.proofs.Showable.Module.{read_back}

pub returns : goal.returns
returns c = read_back
