-- What was held can be kept.
use Rattle.std.proofs.Common.{arith, rules, ◌≡◌, refl, ◌≤◌, ◌<◌, sym, subst, ◌+◌, [], ◌∷◌, ◌++◌, reverse}
use Rattle.std.specs.Prelude.{vec_capacity}
use Rattle.sb_uses.specs.Stock.{Holding, HasSlots}
use Rattle.vx_view.specs.Uses.{Lists}
use Rattle.sb_uses.specs.Chains.{lists}
use Rattle.sb_uses.proofs.Stocks.{still-has}
use Rattle.sb_uses.proofs.Holdings.{taken-holds}
use Rattle.sb_uses.proofs.slots.Slots.take_one.Goals as goal

pub invariant_of-self : goal.invariant_of-self
invariant_of-self c =
    let h : Holding = record { chains = c.self.inside.lists; kept = reverse c.self.inside.kept.items; space = vec_capacity c.self.inside.kept; held = c.self.inside.held } in
    let pos : 0 < c.self.inside.held = subst (λ (x : Holding). 0 < x.held) (sym c.self.view_is) c.requires.held in
    let items : c.push.new.self.items ≡ c.self.inside.kept.items ++ c.take_slot-kept.result ∷ [] = search rules in
    let room : vec_capacity c.self.inside.kept ≤ vec_capacity c.push.new.self = search rules in
    taken-holds h c.take_slot-kept.new.self c.args.user c.args.slot c.args.opd.now c.take_slot-kept.result c.self.inside.kept.items c.push.new.self.items (vec_capacity c.push.new.self) c.self.invariant pos
    c.take_slot-kept.ensures.now c.take_slot-kept.ensures.keeps c.take_slot-kept.ensures.known refl items room

pub returns-clause-later : goal.returns-clause-later
returns-clause-later c os h =
    subst (λ (l : Lists). HasSlots c.args.user (c.args.slot + 1) os l) (sym (c.take_slot-kept.ensures.now))
    (still-has c.args.user c.args.slot (c.args.slot + 1) c.args.opd.now os (lists c.self.inside.lists) (omega (arith)) (subst (λ (x : Holding). HasSlots c.args.user (c.args.slot + 1) os (lists x.chains)) (sym c.self.view_is) h))
