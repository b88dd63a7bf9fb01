-- What is in, with what is left to come, is the whole.
use Rattle.std.proofs.Common.{◌≡◌, ◌+◌, length}
use Rattle.sb_uses.specs.Stock.{stock}
use Rattle.sb_uses.specs.Totals.{width, total_in}
use Rattle.sb_uses.specs.Lifting.{insts_added, CanAddInsts}
use Rattle.sb_uses.proofs.slots.Slots.lift_insts.Given as goal

abbrev pub invariant-loop-left : goal.invariant-loop-left
invariant-loop-left l = record {
  now : insts_added l.left (stock l.self) ≡ insts_added l.insts (stock l.fn.self);
  can : CanAddInsts l.left (stock l.self);
  held : l.self.held + total_in width l.left ≡ l.fn.self.held + total_in width l.insts;
}

abbrev pub decreases-loop-left : goal.decreases-loop-left
decreases-loop-left l = length l.left
