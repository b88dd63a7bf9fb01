-- The head names the first use of the list.
use Rattle.std.proofs.Common.{◌∙◌, ap, is_some}
use Rattle.sb_uses.specs.declared.chains.Chains.{Chains}
use Rattle.sb_uses.specs.Chains.{lists}
use Rattle.sb_uses.specs.Places.{is_some_use}
use Rattle.sb_uses.proofs.Steps.{used}
use Rattle.sb_uses.proofs.use_lists.UseLists.is_used.Goals as goal

pub returns : goal.returns
returns c =
    c.is_some.ensures ∙ ap is_some c.older.ensures ∙ used c.self.inside.chains c.args.value (c.self.invariant c.args.value)
    ∙ ap (λ (s : Chains). is_some_use (lists s c.args.value)) c.self.view_is
