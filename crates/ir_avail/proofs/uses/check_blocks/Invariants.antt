use Rattle.ir_types.specs.Available.{EachBefore, IsAvailableBlock}
use Rattle.ir_avail.proofs.uses.check_blocks.Given as goal

abbrev pub invariant-loop-number : goal.invariant-loop-number
invariant-loop-number l = EachBefore (IsAvailableBlock l.func) l.func.blocks l.number
