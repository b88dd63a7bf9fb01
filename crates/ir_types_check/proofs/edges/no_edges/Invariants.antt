-- So many blocks as were counted.
use Rattle.std.proofs.Common.{◌≡◌, [], replicate}
use Rattle.ir_types_check.proofs.edges.no_edges.Given as goal

abbrev pub invariant-loop-block : goal.invariant-loop-block
invariant-loop-block l = l.sources ≡ replicate l._block []
