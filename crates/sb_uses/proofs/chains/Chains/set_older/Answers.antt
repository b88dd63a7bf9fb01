-- Each slot that was there is there.
use Rattle.std.specs.HashMap.{get}
use Rattle.sb_uses.specs.Chains.{same_held}
use Rattle.sb_uses.proofs.Writes.{there-kept, known-kept}
use Rattle.std.proofs.Common.{◌≡◌, true, sym, ap, ◌∙◌, subst}
use Rattle.sb_uses.specs.Chains.{there, known}
use Rattle.sb_uses.proofs.chains.Chains.set_older.Goals as goal

pub returns-in-Some-clause-known : goal.returns-in-Some-clause-known
returns-in-Some-clause-known c =
    known-kept c.args.self.now c.set_links.new.self c.set_links.ensures.heads
    (λ q. ap there (c.set_links.ensures.now q) ∙ there-kept (get same_held c.args.self.now.slots) c.slot_of.result _ (subst (λ x. there (get same_held c.args.self.now.slots x) ≡ true) (sym c.slot_of.ensures) (subst (λ a. known c.args.self.now c.args.value a ≡ true) c.in-Some.is c.requires)) q)
