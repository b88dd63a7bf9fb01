-- What is done, with what is left to do, is the whole.
use Rattle.std.proofs.Common.{◌≡◌, ◌≤◌, ◌+◌, length}
use Rattle.sb_uses.specs.Stock.{HasSlots, stock, spare, withdrawn}
use Rattle.sb_uses.proofs.slots.Slots.withdraw.Given as goal

abbrev pub invariant-loop-left : goal.invariant-loop-left
invariant-loop-left l = record {
  now : withdrawn l.user l.slot l.left (stock l.self) ≡ withdrawn l.user 0 l.opds (stock l.fn.self);
  has : HasSlots l.user l.slot l.left (stock l.self).lists;
  held : l.fn.self.held + length l.left ≡ l.self.held + length l.opds;
  room : spare l.fn.self ≤ spare l.self;
  slot : l.slot + length l.left ≡ length l.opds;
}

abbrev pub decreases-loop-left : goal.decreases-loop-left
decreases-loop-left l = length l.left
