use Rattle.rf_text.proofs.Given.{given_within}
use Rattle.rf_text.proofs.exact.given_modules_are_within.Goals as goal

pub returns : goal.returns
returns c = given_within
