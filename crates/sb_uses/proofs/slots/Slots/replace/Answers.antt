-- What came goes, and what went comes back.
use Rattle.std.proofs.Common.{◌∙◌, sym, ap, subst}
use Rattle.sb_uses.specs.Chains.{lists}
use Rattle.sb_uses.specs.Stock.{Holding, Stock, AllApart, stock, set_back, slot_added, CanSetBack}
use Rattle.sb_uses.proofs.Stocks.{replaced-back, replaced-can}
use Rattle.sb_uses.proofs.slots.Slots.replace.Goals as goal

pub returns-clause-back : goal.returns-clause-back
returns-clause-back c =
    let apart : AllApart (lists c.args.self.now.chains) = subst (λ (x : Holding). AllApart (lists x.chains)) c.self.view_is c.self.invariant.apart in
    ap (set_back c.args.user c.args.slot c.args.new.now) (c.add_one.ensures.now ∙ ap (slot_added c.args.user c.args.slot c.args.new.now) c.take_one.ensures.now)
    ∙ replaced-back c.args.user c.args.slot c.args.old.now c.args.new.now (stock c.args.self.now) apart c.requires.has

pub returns-clause-can : goal.returns-clause-can
returns-clause-can c =
    let apart : AllApart (lists c.args.self.now.chains) = subst (λ (x : Holding). AllApart (lists x.chains)) c.self.view_is c.self.invariant.apart in
    subst (λ (s : Stock). CanSetBack c.args.user c.args.slot c.args.new.now s) (sym (c.add_one.ensures.now ∙ ap (slot_added c.args.user c.args.slot c.args.new.now) c.take_one.ensures.now))
    (replaced-can c.args.user c.args.slot c.args.old.now c.args.new.now (stock c.args.self.now) apart c.requires.has)
