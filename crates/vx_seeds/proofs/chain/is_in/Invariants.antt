use Rattle.std.proofs.Common.{◌≡◌, length}
use Rattle.vx_serial.specs.Regions as region
use Rattle.vx_seeds.specs.Spots.{as_spot, held}
use Rattle.vx_seeds.proofs.chain.is_in.Given as goal

abbrev pub invariant-loop-left : goal.invariant-loop-left
invariant-loop-left l = region.is_in (held l.left) (as_spot l.spot) ≡ region.is_in (held l.chain) (as_spot l.spot)

abbrev pub decreases-loop-left : goal.decreases-loop-left
decreases-loop-left l = length l.left
