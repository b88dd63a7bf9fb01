use Rattle.std.proofs.Common.{◌≡◌, ◌++◌, length}
use Rattle.vx_serial.specs.Regions as region
use Rattle.vx_seeds.proofs.module.add_seeds.Given as goal

abbrev pub invariant-loop-left : goal.invariant-loop-left
invariant-loop-left l = l.seeds.items ++ region.at_place l.place l.left ≡ l.fn.seeds.items ++ region.at_place l.place l.regions

abbrev pub decreases-loop-left : goal.decreases-loop-left
decreases-loop-left l = length l.left
