-- What is there stays there, write after write.
use Rattle.std.proofs.Common.{◌≡◌, true, sym, ◌∙◌, subst, Some, IfSome}
use Rattle.sb_uses.specs.Chains.{known}
use Rattle.sb_uses.proofs.Writes.{known-after}
use Rattle.sb_uses.proofs.chains.Chains.link.Goals as goal

pub set_newer-requires : goal.set_newer-requires
set_newer-requires c = c.set_older.ensures.known c.args.value (Some c.args.used) ∙ c.requires.slot

pub set_newer-requires-2 : goal.set_newer-requires-2
set_newer-requires-2 c =
    known-after c.args.self.now c.set_older-2.new.self c.args.value c.older-older.result
    (λ x. c.set_older-2.ensures.known c.args.value x ∙ c.set_newer.ensures.known c.args.value x ∙ c.set_older.ensures.known c.args.value x)
    (subst (λ o. IfSome o (λ u. known c.args.self.now c.args.value (Some u) ≡ true)) (sym c.older-older.ensures) c.requires.after)
