use Rattle.rf_text.proofs.spelled.spelled_texts_read.Goals as goal
use Rattle.rf_text.proofs.Spelling.Reads.{spelled_reads}

pub returns : goal.returns
returns c = spelled_reads
