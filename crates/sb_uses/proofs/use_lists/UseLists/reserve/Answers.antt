-- Room changes no list.
use Rattle.sb_uses.proofs.Steps.{entered-list, same-lists}
use Rattle.sb_uses.proofs.use_lists.UseLists.reserve.Goals as goal

pub invariant_of-self : goal.invariant_of-self
invariant_of-self c = λ v. (entered-list c.self.inside.chains c.reserve.new.self c.self.invariant c.reserve.ensures.entered v).1

pub returns-clause-same : goal.returns-clause-same
returns-clause-same c = same-lists c.self.inside.chains c.args.self.now c.reserve.new.self c.self.view_is c.self.invariant c.reserve.ensures.entered
