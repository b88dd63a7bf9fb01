use Rattle.sb_uses.proofs.laws.slots_are_counted.Goals as goal
use Rattle.sb_uses.proofs.Counted.{slots_counted, slots_part}

pub returns-clause-changed : goal.returns-clause-changed
returns-clause-changed c = slots_counted

pub returns-clause-part : goal.returns-clause-part
returns-clause-part c = slots_part
