use Rattle.std.proofs.Common.{◌≡◌, ◌++◌, not, length}
use Rattle.vx_serial.specs.Regions as region
use Rattle.vx_seeds.specs.Spots.{held}
use Rattle.vx_seeds.proofs.chain.without.Given as goal

abbrev pub invariant-loop-left : goal.invariant-loop-left
invariant-loop-left l = held l.others.items ++ region.those (λ t. not (region.is_in (held l.chain) t)) (held l.left) ≡ region.those (λ t. not (region.is_in (held l.chain) t)) (held l.spots)

abbrev pub decreases-loop-left : goal.decreases-loop-left
decreases-loop-left l = length l.left
