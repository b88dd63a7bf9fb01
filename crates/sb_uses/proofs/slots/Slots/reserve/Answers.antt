-- Room changes no list.
use Rattle.std.proofs.Common.{refl, ◌∙◌, ap, reverse}
use Rattle.std.specs.Prelude.{vec_capacity}
use Rattle.std.proofs.Math.Path.{fun_ext}
use Rattle.sb_uses.specs.Chains.{lists}
use Rattle.sb_uses.specs.Stock.{Holding, stock}
use Rattle.sb_uses.proofs.Stocks.{stock-is}
use Rattle.sb_uses.proofs.Holdings.{reserved-holds}
use Rattle.sb_uses.proofs.slots.Slots.reserve.Goals as goal

pub invariant_of-self : goal.invariant_of-self
invariant_of-self c =
    let h : Holding = record { chains = c.self-2.inside.lists; kept = reverse c.self-2.inside.kept.items; space = vec_capacity c.self-2.inside.kept; held = c.self-2.inside.held } in
    reserved-holds h c.reserve.new.self c.self-2.invariant (fun_ext c.reserve.ensures.same) c.reserve.ensures.keeps

pub returns-clause-same : goal.returns-clause-same
returns-clause-same c =
    stock-is (fun_ext c.reserve.ensures.same) refl ∙ ap stock c.self-2.view_is ∙ stock-is (ap lists c.reserve_kept.ensures.chains) c.reserve_kept.ensures.kept
