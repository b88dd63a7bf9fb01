-- What was kept fits back, and was held.
use Rattle.std.proofs.Common.{rules, ◌≡◌, refl, ◌∙◌, sym, ap, subst, ◌≤◌, [], ◌∷◌, ◌++◌, reverse, List}
use Rattle.std.specs.Prelude.{vec_capacity}
use Rattle.std.specs.declared.option.Option.{Option}
use Rattle.std.proofs.lemmas.List.{reverse-append}
use Rattle.sb_uses.specs.Chains.{lists}
use Rattle.sb_uses.specs.declared.kept.Kept.{Kept}
use Rattle.sb_uses.specs.Stock.{Holding, FirstFits, FitsBack, CanRestoreSlot, stock}
use Rattle.sb_uses.proofs.Holdings.{restored-holds}
use Rattle.sb_uses.proofs.slots.Slots.restore_one.Goals as goal

pub invariant_of-self : goal.invariant_of-self
invariant_of-self c =
    let h : Holding = record { chains = c.self.inside.lists; kept = reverse c.self.inside.kept.items; space = vec_capacity c.self.inside.kept; held = c.self.inside.held } in
    let items : c.self.inside.kept.items ≡ c.pop.new.self.items ++ c.in-Some.kept ∷ [] = search rules in
    let room : vec_capacity c.self.inside.kept ≤ vec_capacity c.pop.new.self = search rules in
    let can : FirstFits (reverse c.self.inside.kept.items) (lists c.self.inside.lists) = subst (λ (x : Holding). CanRestoreSlot (stock x)) (sym c.self.view_is) c.requires.can in
    let fits : FitsBack c.in-Some.kept (lists c.self.inside.lists) = subst (λ (ks : List (Option Kept)). FirstFits ks (lists c.self.inside.lists)) (ap reverse items ∙ reverse-append c.pop.new.self.items (c.in-Some.kept ∷ [])) can in
    restored-holds h c.put_slot.new.self c.in-Some.kept c.self.inside.kept.items c.pop.new.self.items (vec_capacity c.pop.new.self) c.self.invariant refl items room fits c.put_slot.ensures.now c.put_slot.ensures.keeps
