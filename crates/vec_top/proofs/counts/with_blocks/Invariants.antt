-- What is counted, with the blocks that are left, is the whole.
use Rattle.std.proofs.Common.{◌≡◌, ◌+◌, ◌≤◌, drop}
use Rattle.std.specs.Prelude.{min}
use Rattle.vec_top.specs.Counts.{blocks_size}
use Rattle.vec_top.proofs.counts.with_blocks.Given as goal

abbrev pub invariant-loop-block : goal.invariant-loop-block
invariant-loop-block l = record {
  few : l.count ≤ 18446744073709551615;
  whole : min (l.count + blocks_size (drop l.block-index l.blocks)) 18446744073709551615 ≡ min (l.start + blocks_size l.blocks) 18446744073709551615;
}
