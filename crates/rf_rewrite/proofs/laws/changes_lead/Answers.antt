use Rattle.rf_rewrite.proofs.laws.changes_lead.Goals as goal
use Rattle.rf_rewrite.proofs.Law.{changes_do_lead}

pub returns : goal.returns
returns c = changes_do_lead
