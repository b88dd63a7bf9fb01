-- Each slot that was there is there, and the older neighbour is the same.
use Rattle.std.specs.HashMap.{get}
use Rattle.sb_uses.specs.Chains.{same_held}
use Rattle.sb_uses.proofs.Writes.{there-kept, older-kept, known-kept, next-kept}
use Rattle.std.proofs.Common.{◌≡◌, true, sym, ap, ◌∙◌, subst, Some, IfSome}
use Rattle.sb_uses.specs.Chains.{there, known, older_of}
use Rattle.sb_uses.proofs.chains.Chains.set_newer.Goals as goal

pub returns-in-Some-clause-known : goal.returns-in-Some-clause-known
returns-in-Some-clause-known c =
    known-kept c.args.self.now c.set_links.new.self c.set_links.ensures.heads
    (λ q. ap there (c.set_links.ensures.now q) ∙ there-kept (get same_held c.args.self.now.slots) c.slot_of.result _ (subst (λ x. there (get same_held c.args.self.now.slots x) ≡ true) (sym c.slot_of.ensures) (subst (λ a. IfSome a (λ u. known c.args.self.now c.args.value (Some u) ≡ true)) c.in-Some.is c.requires)) q)

pub returns-in-Some-clause-next : goal.returns-in-Some-clause-next
returns-in-Some-clause-next c =
    next-kept c.args.self.now c.set_links.new.self c.set_links.ensures.heads
    (λ q. ap older_of (c.set_links.ensures.now q) ∙ older-kept (get same_held c.args.self.now.slots) c.slot_of.result _ (c.older-older.ensures ∙ ap (λ x. older_of (get same_held c.args.self.now.slots x)) (sym c.slot_of.ensures)) q)
