-- What is in, with what is left to come, is the whole.
use Rattle.std.proofs.Common.{◌≡◌, ◌+◌, length}
use Rattle.vx_view.specs.Answers.{funcs_of}
use Rattle.sb_uses.specs.Stock.{stock}
use Rattle.sb_uses.specs.Totals.{width, total_of_funcs}
use Rattle.sb_uses.specs.Lifting.{funcs_added, CanAddFuncs}
use Rattle.sb_uses.proofs.slots.Slots.lift_items.Given as goal

abbrev pub invariant-loop-left : goal.invariant-loop-left
invariant-loop-left l = record {
  now : funcs_added (funcs_of l.left) (stock l.self) ≡ funcs_added (funcs_of l.items) (stock l.fn.self);
  can : CanAddFuncs (funcs_of l.left) (stock l.self);
  held : l.self.held + total_of_funcs width (funcs_of l.left) ≡ l.fn.self.held + total_of_funcs width (funcs_of l.items);
}

abbrev pub decreases-loop-left : goal.decreases-loop-left
decreases-loop-left l = length l.left
