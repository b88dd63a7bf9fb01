-- What is copied so far, with what is left, is the whole list.
use Rattle.std.proofs.Common.{◌≡◌, ◌++◌, drop}
use Rattle.vx_list.proofs.copying.TryClone.clone_all.Given as goal

abbrev pub invariant-loop-item : goal.invariant-loop-item
invariant-loop-item g l = l.copy.items ++ drop l.item-index l.items ≡ l.items
