use Rattle.ir_types.specs.Available.{EachBefore, IsAvailableItem}
use Rattle.ir_avail.proofs.check.Given as goal

abbrev pub invariant-loop-number : goal.invariant-loop-number
invariant-loop-number l = EachBefore IsAvailableItem l.m.items l.number
