use Rattle.rf_text.proofs.Given.{spelled_given}
use Rattle.rf_text.proofs.exact.spelled_texts_are_given.Goals as goal

pub returns : goal.returns
returns c = spelled_given
