-- Among those that are left is what is among all.
use Rattle.std.proofs.Common.{◌≡◌, drop}
use Rattle.vec_top.specs.Accepts.{operand_in}
use Rattle.vec_top.proofs.accept.operand_in.Given as goal

abbrev pub invariant-loop-item : goal.invariant-loop-item
invariant-loop-item l = operand_in l.id l.slot (drop l.item-index l.items) ≡ operand_in l.id l.slot l.items
