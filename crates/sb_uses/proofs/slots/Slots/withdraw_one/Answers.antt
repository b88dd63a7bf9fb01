-- What goes leaves space.
use Rattle.std.proofs.Common.{arith, ◌+◌, sym, subst, reverse}
use Rattle.std.specs.Prelude.{vec_capacity}
use Rattle.sb_uses.specs.Stock.{Holding, HasSlots}
use Rattle.vx_view.specs.Uses.{Lists}
use Rattle.sb_uses.specs.Chains.{lists}
use Rattle.sb_uses.proofs.Stocks.{still-has}
use Rattle.sb_uses.proofs.Holdings.{withdrawn-holds}
use Rattle.sb_uses.proofs.slots.Slots.withdraw_one.Goals as goal

pub invariant_of-self : goal.invariant_of-self
invariant_of-self c =
    let h : Holding = record { chains = c.self.inside.lists; kept = reverse c.self.inside.kept.items; space = vec_capacity c.self.inside.kept; held = c.self.inside.held } in
    withdrawn-holds h c.take_slot.new.self c.args.user c.args.slot c.args.opd.now c.self.invariant c.take_slot.ensures.now c.take_slot.ensures.keeps

pub returns-clause-later : goal.returns-clause-later
returns-clause-later c os h =
    subst (λ (l : Lists). HasSlots c.args.user (c.args.slot + 1) os l) (sym (c.take_slot.ensures.now))
    (still-has c.args.user c.args.slot (c.args.slot + 1) c.args.opd.now os (lists c.self.inside.lists) (omega (arith)) (subst (λ (x : Holding). HasSlots c.args.user (c.args.slot + 1) os (lists x.chains)) (sym c.self.view_is) h))
