use Rattle.std.proofs.Common.{◌≡◌, ◌++◌}
use Rattle.vx_serial.specs.Regions as region
use Rattle.vx_seeds.specs.Spots.{as_spot, held}
use Rattle.vx_seeds.proofs.chain.chain.Given as goal

abbrev pub invariant-loop-bound : goal.invariant-loop-bound
invariant-loop-bound l = held l.chain.items ++ region.chain_after l.bound (as_spot l.last) (held l.spots) ≡ region.chain (as_spot l.first) (held l.spots)

abbrev pub decreases-loop-bound : goal.decreases-loop-bound
decreases-loop-bound l = l.bound
