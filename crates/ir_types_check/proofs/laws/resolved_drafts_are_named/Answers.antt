use Rattle.ir_types_check.proofs.NamesHold.{names_hold}
use Rattle.ir_types_check.proofs.laws.resolved_drafts_are_named.Goals as goal

pub returns : goal.returns
returns c = names_hold
