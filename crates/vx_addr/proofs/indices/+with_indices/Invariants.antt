use Rattle.std.proofs.Common.{length}
use Rattle.vx_addr.proofs.indices.+with_indices.Given as goal

abbrev pub decreases-with_indices : goal.decreases-with_indices
decreases-with_indices l = length l.indices.now
