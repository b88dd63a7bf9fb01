use Rattle.std.proofs.Common.{◌≡◌, ◌++◌}
use Rattle.vx_serial.specs.Regions as region
use Rattle.vx_seeds.specs.Spots.{held}
use Rattle.vx_seeds.proofs.block.add_group.Given as goal

abbrev pub invariant-loop-bound : goal.invariant-loop-bound
invariant-loop-bound l = l.regions.items ++ region.group_regions l.bound l.width (held l.left.items) ≡ l.fn.regions.items ++ region.group_regions l.fn.bound l.width (held l.fn.group.items)

abbrev pub decreases-loop-bound : goal.decreases-loop-bound
decreases-loop-bound l = l.bound
