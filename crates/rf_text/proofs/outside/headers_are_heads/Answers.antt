use Rattle.rf_text.proofs.outside.headers_are_heads.Goals as goal
use Rattle.rf_text.proofs.Heads.Found.{header_is_head}

pub returns : goal.returns
returns c = header_is_head
