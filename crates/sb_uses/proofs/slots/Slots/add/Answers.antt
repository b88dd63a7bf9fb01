-- What came is in its lists, and goes again.
use Rattle.std.proofs.Common.{◌≡◌, ◌∙◌, sym, ap, subst}
use Rattle.sb_uses.specs.Stock.{Stock, stock, HasSlots, added, withdrawn}
use Rattle.sb_uses.proofs.Stocks.{nothing-left, added-back, added-has}
use Rattle.sb_uses.proofs.slots.Slots.add.Goals as goal

pub returns-clause-back : goal.returns-clause-back
returns-clause-back c =
    let none = nothing-left c.loop-left.left.now c.in_default.len_below in
    let now : stock c.loop-left.self ≡ added c.args.user 0 c.args.opds.now (stock c.args.self.now) = sym (ap (λ os. added c.args.user c.loop-left.slot os (stock c.loop-left.self)) none) ∙ c.loop-left.invariant.now in
    ap (withdrawn c.args.user 0 c.args.opds.now) now ∙ added-back c.args.user 0 c.args.opds.now (stock c.args.self.now)

pub returns-clause-can : goal.returns-clause-can
returns-clause-can c =
    let none = nothing-left c.loop-left.left.now c.in_default.len_below in
    let now : stock c.loop-left.self ≡ added c.args.user 0 c.args.opds.now (stock c.args.self.now) = sym (ap (λ os. added c.args.user c.loop-left.slot os (stock c.loop-left.self)) none) ∙ c.loop-left.invariant.now in
    subst (λ (s : Stock). HasSlots c.args.user 0 c.args.opds.now s.lists) (sym now) (added-has c.args.user 0 c.args.opds.now (stock c.args.self.now))
