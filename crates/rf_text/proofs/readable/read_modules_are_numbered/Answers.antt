use Rattle.rf_text.proofs.readable.read_modules_are_numbered.Goals as goal
use Rattle.rf_text.proofs.Showable.Module.{read_numbered}

pub returns : goal.returns
returns c = read_numbered
