-- What is there stays there.
use Rattle.std.proofs.Common.{◌≡◌, true, sym, subst, Some, IfSome}
use Rattle.sb_uses.specs.Chains.{known}
use Rattle.sb_uses.proofs.Writes.{known-after}
use Rattle.sb_uses.proofs.chains.Chains.unlink.Goals as goal

pub set_newer-requires : goal.set_newer-requires
set_newer-requires c =
    known-after c.args.self.now c.set_older.new.self c.args.value c.older-older.result
    (λ x. c.set_older.ensures.known c.args.value x)
    (subst (λ o. IfSome o (λ u. known c.args.self.now c.args.value (Some u) ≡ true)) (sym c.older-older.ensures) c.requires.after)
