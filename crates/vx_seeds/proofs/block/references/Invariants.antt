use Rattle.std.proofs.Common.{◌≡◌, ◌++◌, length}
use Rattle.vx_seeds.specs.Spots.{as_spots, held}
use Rattle.vx_seeds.proofs.block.references.Given as goal

abbrev pub invariant-loop-left : goal.invariant-loop-left
invariant-loop-left l = held l.references.items ++ as_spots l.left ≡ as_spots l.spots

abbrev pub decreases-loop-left : goal.decreases-loop-left
decreases-loop-left l = length l.left
