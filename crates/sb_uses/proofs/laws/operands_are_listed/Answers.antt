use Rattle.sb_uses.proofs.laws.operands_are_listed.Goals as goal
use Rattle.sb_uses.proofs.Exact.{listed, slot_listed}

pub returns-clause-all : goal.returns-clause-all
returns-clause-all c = listed

pub returns-clause-one : goal.returns-clause-one
returns-clause-one c = slot_listed
