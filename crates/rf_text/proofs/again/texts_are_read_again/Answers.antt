use Rattle.rf_text.proofs.again.texts_are_read_again.Goals as goal
use Rattle.rf_text.proofs.TextsAgain.{texts_again}

pub returns : goal.returns
returns c = texts_again
