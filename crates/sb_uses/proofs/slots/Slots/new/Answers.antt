-- No list has a use.
use Rattle.std.proofs.Common.{rules, sym, subst, reverse}
use Rattle.sb_uses.specs.Whole.{Apart}
use Rattle.sb_uses.specs.Stock.{AllKnown}
use Rattle.sb_uses.proofs.slots.Slots.new.Goals as goal

pub invariant_of-result : goal.invariant_of-result
invariant_of-result c = record {
  apart = λ v. subst Apart (sym (c.new.ensures v)) tt;
  known = subst (λ l. AllKnown c.new.result (reverse l)) (sym c.new-2.ensures.items) tt;
  space = search rules;
}
