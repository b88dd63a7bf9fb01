use Rattle.std.proofs.Common.{◌≡◌, ◌++◌, length}
use Rattle.vx_serial.specs.Regions as region
use Rattle.vx_seeds.proofs.piece.add_pieces.Given as goal

abbrev pub invariant-loop-bound : goal.invariant-loop-bound
invariant-loop-bound l = l.pieces.items ++ region.pieces l.bound l.lanes l.left ≡ l.fn.pieces.items ++ region.pieces (length l.fn.ids) l.lanes l.fn.ids

abbrev pub decreases-loop-bound : goal.decreases-loop-bound
decreases-loop-bound l = l.bound
