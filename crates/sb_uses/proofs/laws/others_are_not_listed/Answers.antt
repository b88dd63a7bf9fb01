use Rattle.sb_uses.proofs.laws.others_are_not_listed.Goals as goal
use Rattle.sb_uses.proofs.Exact.{not_listed, not_listed_then, slot_not_listed_then}

pub returns-clause-new : goal.returns-clause-new
returns-clause-new c = not_listed

pub returns-clause-taken : goal.returns-clause-taken
returns-clause-taken c = not_listed_then

pub returns-clause-slot : goal.returns-clause-slot
returns-clause-slot c = slot_not_listed_then
