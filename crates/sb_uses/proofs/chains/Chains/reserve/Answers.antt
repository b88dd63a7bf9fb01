-- Room changes the order of entries at most.
use Rattle.sb_uses.proofs.Entered.{entered-found}
use Rattle.sb_uses.proofs.chains.Chains.reserve.Goals as goal

pub returns-clause-entered : goal.returns-clause-entered
returns-clause-entered c = entered-found c.args.self.now (record { heads = c.reserve.new.self; slots = c.reserve-2.new.self }) (c.reserve.ensures.entries.2) (c.reserve-2.ensures.entries.2)
