-- The total so far and the costs to come make the price.
use Rattle.std.proofs.Common.{◌≡◌, ◌+◌, ◌-◌, ◌^◌, ◌<◌, drop, min, sum_by}
use Rattle.vx_cost.specs.Prices.{cost_of, price_of}
use Rattle.vx_cost.proofs.prices.price.Given as goal

abbrev pub invariant-loop-inst : goal.invariant-loop-inst
invariant-loop-inst l = record {
  fits : l.total < 2 ^ 64;
  rest : min (l.total + sum_by (cost_of l.t) (drop l.inst-index l.list)) (2 ^ 64 - 1) ≡ price_of l.t l.list;
}
