use Rattle.ir_types.specs.Available.{EachBefore, IsAvailableOpd}
use Rattle.ir_avail.proofs.uses.check_inst.Given as goal

abbrev pub invariant-loop-slot : goal.invariant-loop-slot
invariant-loop-slot l = EachBefore (IsAvailableOpd l.func l.site.block l.site.position l.inst) l.inst.opds l.slot
