use Rattle.std.proofs.Common.{◌≡◌, length}
use Rattle.vx_serial.specs.Regions as region
use Rattle.vx_seeds.specs.Spots.{as_spot, held}
use Rattle.vx_seeds.proofs.chain.least_from.Given as goal

abbrev pub invariant-loop-left : goal.invariant-loop-left
invariant-loop-left l = region.least_from (as_spot l.best) (held l.left) ≡ region.least_from (as_spot l.first) (held l.others)

abbrev pub decreases-loop-left : goal.decreases-loop-left
decreases-loop-left l = length l.left
