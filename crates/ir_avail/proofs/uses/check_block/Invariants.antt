use Rattle.ir_types.specs.Available.{EachBefore, IsAvailableInst}
use Rattle.ir_avail.proofs.uses.check_block.Given as goal

abbrev pub invariant-loop-position : goal.invariant-loop-position
invariant-loop-position l = EachBefore (IsAvailableInst l.func l.number) l.block.insts l.position
