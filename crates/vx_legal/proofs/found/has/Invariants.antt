use Rattle.std.proofs.Common.{◌≡◌, length}
use Rattle.std.specs.List.{list_any}
use Rattle.ir_types.specs.Available.{same_id}
use Rattle.ir_types.specs.declared.inst.Inst.{Inst}
use Rattle.vx_legal.specs.Found.{there}
use Rattle.vx_legal.proofs.found.has.Given as goal

abbrev pub invariant-loop-left : goal.invariant-loop-left
invariant-loop-left l = list_any (λ (j : Inst). same_id j.id l.id) (there l.left) ≡ list_any (λ (j : Inst). same_id j.id l.id) (there l.fn.found)

abbrev pub decreases-loop-left : goal.decreases-loop-left
decreases-loop-left l = length l.left
