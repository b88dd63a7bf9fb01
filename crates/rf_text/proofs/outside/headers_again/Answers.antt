use Rattle.rf_text.proofs.outside.headers_again.Goals as goal
use Rattle.rf_text.proofs.Heads.Again.{header_again}

pub returns : goal.returns
returns c = header_again
