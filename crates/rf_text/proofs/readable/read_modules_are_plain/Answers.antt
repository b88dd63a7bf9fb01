use Rattle.rf_text.proofs.readable.read_modules_are_plain.Goals as goal
use Rattle.rf_text.proofs.Showable.Module.{read_plain}

pub returns : goal.returns
returns c = read_plain
