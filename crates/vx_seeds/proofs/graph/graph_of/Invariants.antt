use Rattle.std.proofs.Common.{◌≡◌, map, take}
use Rattle.ir_types.specs.Available.{block_targets}
use Rattle.vx_seeds.proofs.graph.graph_of.Given as goal

abbrev pub invariant-loop-block : goal.invariant-loop-block
invariant-loop-block l = l.graph ≡ map block_targets (take l.block-index l.block-items)
