-- What went comes back, the last slot first.
use Rattle.std.proofs.Common.{◌≡◌, ◌∙◌, sym, ap, subst}
use Rattle.sb_uses.specs.Chains.{lists}
use Rattle.sb_uses.specs.Stock.{Holding, Stock, AllApart, stock, taken, restored, CanRestore}
use Rattle.sb_uses.proofs.Stocks.{nothing-left, taken-back, taken-can}
use Rattle.sb_uses.proofs.slots.Slots.take.Goals as goal

pub returns-clause-back : goal.returns-clause-back
returns-clause-back c =
    let none = nothing-left c.loop-left.left.now c.in_default.len_below in
    let now : stock c.loop-left.self ≡ taken c.args.user 0 c.args.opds.now (stock c.args.self.now) = sym (ap (λ os. taken c.args.user c.loop-left.slot os (stock c.loop-left.self)) none) ∙ c.loop-left.invariant.now in
    let apart : AllApart (lists c.args.self.now.chains) = subst (λ (x : Holding). AllApart (lists x.chains)) c.self.view_is c.self.invariant.apart in
    ap (restored c.args.opds.now) now ∙ taken-back c.args.user 0 c.args.opds.now (stock c.args.self.now) apart c.requires.has

pub returns-clause-can : goal.returns-clause-can
returns-clause-can c =
    let none = nothing-left c.loop-left.left.now c.in_default.len_below in
    let now : stock c.loop-left.self ≡ taken c.args.user 0 c.args.opds.now (stock c.args.self.now) = sym (ap (λ os. taken c.args.user c.loop-left.slot os (stock c.loop-left.self)) none) ∙ c.loop-left.invariant.now in
    let apart : AllApart (lists c.args.self.now.chains) = subst (λ (x : Holding). AllApart (lists x.chains)) c.self.view_is c.self.invariant.apart in
    subst (λ (s : Stock). CanRestore c.args.opds.now s) (sym now) (taken-can c.args.user 0 c.args.opds.now (stock c.args.self.now) apart c.requires.has)
