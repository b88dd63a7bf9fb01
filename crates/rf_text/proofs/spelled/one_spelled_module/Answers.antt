use Rattle.rf_text.proofs.spelled.one_spelled_module.Goals as goal
use Rattle.rf_text.proofs.Spelling.Reads.{spelled_once}

pub returns : goal.returns
returns c = spelled_once
