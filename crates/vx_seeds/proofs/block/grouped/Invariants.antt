use Rattle.std.proofs.Common.{◌≡◌, ◌++◌, length}
use Rattle.vx_serial.specs.Regions as region
use Rattle.vx_seeds.specs.Spots.{held}
use Rattle.vx_seeds.proofs.block.grouped.Given as goal

abbrev pub invariant-loop-bound : goal.invariant-loop-bound
invariant-loop-bound l = l.regions.items ++ region.grouped l.bound l.width (held l.left.items) ≡ region.grouped (length l.spots) l.width (held l.spots)

abbrev pub decreases-loop-bound : goal.decreases-loop-bound
decreases-loop-bound l = l.bound
