-- The slot was in no list, and there is space to keep it.
use Rattle.std.proofs.Common.{arith, ◌+◌, sym, subst, reverse}
use Rattle.std.specs.Prelude.{vec_capacity}
use Rattle.sb_uses.specs.Stock.{Holding, LacksSlots}
use Rattle.vx_view.specs.Uses.{Lists}
use Rattle.sb_uses.specs.Chains.{lists}
use Rattle.sb_uses.proofs.Stocks.{still-lacks}
use Rattle.sb_uses.proofs.Holdings.{added-holds}
use Rattle.sb_uses.proofs.slots.Slots.add_one.Goals as goal

pub invariant_of-self : goal.invariant_of-self
invariant_of-self c =
    let h : Holding = record { chains = c.self.inside.lists; kept = reverse c.self.inside.kept.items; space = vec_capacity c.self.inside.kept; held = c.self.inside.held } in
    added-holds h c.args.self.now c.add_slot.new.self c.args.user c.args.slot c.args.opd.now c.self.view_is c.self.invariant c.requires.lacks c.requires.room c.add_slot.ensures.now c.add_slot.ensures.keeps

pub returns-clause-later : goal.returns-clause-later
returns-clause-later c os h =
    subst (λ (l : Lists). LacksSlots c.args.user (c.args.slot + 1) os l) (sym (c.add_slot.ensures.now))
    (still-lacks c.args.user c.args.slot (c.args.slot + 1) c.args.opd.now os (lists c.self.inside.lists) (omega (arith)) (subst (λ (x : Holding). LacksSlots c.args.user (c.args.slot + 1) os (lists x.chains)) (sym c.self.view_is) h))
