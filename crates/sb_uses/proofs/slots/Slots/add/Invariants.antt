-- What is done, with what is left to do, is the whole.
use Rattle.std.proofs.Common.{◌≡◌, ◌≤◌, ◌+◌, length}
use Rattle.sb_uses.specs.Stock.{LacksSlots, stock, spare, added}
use Rattle.sb_uses.proofs.slots.Slots.add.Given as goal

abbrev pub invariant-loop-left : goal.invariant-loop-left
invariant-loop-left l = record {
  now : added l.user l.slot l.left (stock l.self) ≡ added l.user 0 l.opds (stock l.fn.self);
  lacks : LacksSlots l.user l.slot l.left (stock l.self).lists;
  held : l.self.held + length l.left ≡ l.fn.self.held + length l.opds;
  room : spare l.fn.self + length l.left ≤ spare l.self + length l.opds;
  slot : l.slot + length l.left ≡ length l.opds;
}

abbrev pub decreases-loop-left : goal.decreases-loop-left
decreases-loop-left l = length l.left
