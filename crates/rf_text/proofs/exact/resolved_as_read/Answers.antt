use Rattle.rf_text.proofs.Given.{exact_given}
use Rattle.rf_text.proofs.exact.resolved_as_read.Goals as goal

pub returns : goal.returns
returns c = exact_given
