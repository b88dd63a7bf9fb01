use Rattle.std.proofs.Common.{◌≡◌, length}
use Rattle.vx_serial.specs.Regions as region
use Rattle.vx_seeds.specs.Spots.{as_spot, held}
use Rattle.vx_seeds.proofs.chain.next.Given as goal

abbrev pub invariant-loop-left : goal.invariant-loop-left
invariant-loop-left l = region.first_of (region.follows (as_spot l.last)) (held l.left) ≡ region.first_of (region.follows (as_spot l.last)) (held l.spots)

abbrev pub decreases-loop-left : goal.decreases-loop-left
decreases-loop-left l = length l.left
