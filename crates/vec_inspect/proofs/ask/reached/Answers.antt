use Rattle.std.proofs.Common.{◌∙◌, sym}
use Rattle.vec_inspect.proofs.ask.reached.Goals as goal

pub returns-clause-near : goal.returns-clause-near
returns-clause-near g c = λ ids there. (c.args.stores.now, λ m stands formed. sym (c.in_ok-given.ensures.is m stands formed) ∙ there)
