-- A slot that was not there has no neighbours.
use Rattle.std.proofs.Common.{rules, ◌≡◌, refl, None}
use Rattle.std.specs.HashMap.{get}
use Rattle.sb_uses.specs.Chains.{same_held, older_of, newer_of}
use Rattle.sb_uses.proofs.Writes.{held-is}
use Rattle.sb_uses.proofs.Entered.{names-same, stays-there}
use Rattle.sb_uses.proofs.chains.Chains.enter_slot.Goals as goal

pub returns-in_ok-insert-clause-older : goal.returns-in_ok-insert-clause-older
returns-in_ok-insert-clause-older c =
    let absent : get same_held c.args.self.now.slots c.args.slot ≡ None = search (rules) in
    names-same same_held held-is older_of (get same_held c.args.self.now.slots) (get same_held c.insert.new.self) c.args.slot (record { newer = None; older = None }) refl absent (c.in_ok-insert.ensures.updates.0)

pub returns-in_ok-insert-clause-newer : goal.returns-in_ok-insert-clause-newer
returns-in_ok-insert-clause-newer c =
    let absent : get same_held c.args.self.now.slots c.args.slot ≡ None = search (rules) in
    names-same same_held held-is newer_of (get same_held c.args.self.now.slots) (get same_held c.insert.new.self) c.args.slot (record { newer = None; older = None }) refl absent (c.in_ok-insert.ensures.updates.0)

pub returns-in_ok-insert-clause-keeps : goal.returns-in_ok-insert-clause-keeps
returns-in_ok-insert-clause-keeps c =
    stays-there same_held (get same_held c.args.self.now.slots) (get same_held c.insert.new.self) c.args.slot (record { newer = None; older = None }) (c.in_ok-insert.ensures.updates.0)
