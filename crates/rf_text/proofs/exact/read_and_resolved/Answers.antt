use Rattle.rf_text.proofs.Given.{read_exact}
use Rattle.rf_text.proofs.exact.read_and_resolved.Goals as goal

pub returns : goal.returns
returns c = read_exact
