use Rattle.std.proofs.Common.{◌≡◌, ◌++◌, length}
use Rattle.vx_serial.specs.Regions as region
use Rattle.vx_seeds.specs.Spots.{as_spot, held}
use Rattle.vx_seeds.proofs.group.alike.Given as goal

abbrev pub invariant-loop-left : goal.invariant-loop-left
invariant-loop-left l = held l.group.items ++ region.those (region.is_alike (as_spot l.first)) (held l.left) ≡ region.those (region.is_alike (as_spot l.first)) (held l.spots)

abbrev pub decreases-loop-left : goal.decreases-loop-left
decreases-loop-left l = length l.left
