use Rattle.vx_legal.proofs.Finding.{there_is, all_are}
use Rattle.vx_legal.proofs.laws.found_lanes_are_there.Goals as goal

pub returns-clause-insts : goal.returns-clause-insts
returns-clause-insts c block lanes = there_is block lanes

pub returns-clause-all : goal.returns-clause-all
returns-clause-all c block lanes = all_are block lanes
