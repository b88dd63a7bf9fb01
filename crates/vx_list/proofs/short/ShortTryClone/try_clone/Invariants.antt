-- What is copied so far, with what is left, is the whole list.
use Rattle.std.proofs.Common.{◌≡◌, ◌++◌, drop}
use Rattle.vx_list.proofs.short.ShortTryClone.try_clone.Given as goal

abbrev pub invariant-loop-item : goal.invariant-loop-item
invariant-loop-item g l = l.copy ++ drop l.item-index l.item-items ≡ l.self
