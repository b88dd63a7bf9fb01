-- What is in, with what is left to come, is the whole.
use Rattle.std.proofs.Common.{◌≡◌, ◌+◌, length}
use Rattle.sb_uses.specs.Stock.{stock}
use Rattle.sb_uses.specs.Totals.{width, total_of_blocks}
use Rattle.sb_uses.specs.Lifting.{blocks_added, CanAddBlocks}
use Rattle.sb_uses.proofs.slots.Slots.lift_blocks.Given as goal

abbrev pub invariant-loop-left : goal.invariant-loop-left
invariant-loop-left l = record {
  now : blocks_added l.left (stock l.self) ≡ blocks_added l.blocks (stock l.fn.self);
  can : CanAddBlocks l.left (stock l.self);
  held : l.self.held + total_of_blocks width l.left ≡ l.fn.self.held + total_of_blocks width l.blocks;
}

abbrev pub decreases-loop-left : goal.decreases-loop-left
decreases-loop-left l = length l.left
