-- What is back, with what is left to come back, is the whole.
use Rattle.std.proofs.Common.{◌≡◌, ◌≤◌, ◌+◌, length}
use Rattle.sb_uses.specs.Stock.{CanRestore, stock, spare, restored}
use Rattle.sb_uses.proofs.slots.Slots.restore.Given as goal

abbrev pub invariant-loop-left : goal.invariant-loop-left
invariant-loop-left l = record {
  now : restored l.left (stock l.self) ≡ restored l.opds (stock l.fn.self);
  can : CanRestore l.left (stock l.self);
  held : l.self.held + length l.left ≡ l.fn.self.held + length l.opds;
  room : spare l.fn.self + length l.left ≤ spare l.self + length l.opds;
}

abbrev pub decreases-loop-left : goal.decreases-loop-left
decreases-loop-left l = length l.left
