-- After the last block all are counted.
use Rattle.std.proofs.Common.{rules}
use Rattle.vec_top.proofs.Counting.{counted_whole}
use Rattle.vec_top.proofs.counts.with_blocks.Goals as goal

pub returns : goal.returns
returns c = counted_whole c.loop-block.count c.args.start 18446744073709551615 c.args.blocks.now c.loop-block.block-index c.loop-block.invariant.few (search rules) c.loop-block.invariant.whole
