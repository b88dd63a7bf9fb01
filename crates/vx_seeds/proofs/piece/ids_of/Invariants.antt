use Rattle.std.proofs.Common.{◌≡◌, ◌++◌, length}
use Rattle.vx_serial.specs.Regions as region
use Rattle.vx_seeds.specs.Spots.{held}
use Rattle.vx_seeds.proofs.piece.ids_of.Given as goal

abbrev pub invariant-loop-left : goal.invariant-loop-left
invariant-loop-left l = l.ids.items ++ region.ids_of (held l.left) ≡ region.ids_of (held l.chain)

abbrev pub decreases-loop-left : goal.decreases-loop-left
decreases-loop-left l = length l.left
