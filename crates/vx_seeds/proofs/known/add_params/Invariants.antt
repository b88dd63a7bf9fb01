use Rattle.std.proofs.Common.{◌≡◌, length}
use Rattle.ir_types.specs.declared.id.Id.{Id}
use Rattle.ir_types.specs.IdTable.{found}
use Rattle.vx_view.specs.declared.answer.Answer.{Answer}
use Rattle.vx_seeds.specs.Known.{or_answer, params_then}
use Rattle.vx_seeds.proofs.known.add_params.Given as goal

abbrev pub invariant-loop-left : goal.invariant-loop-left
invariant-loop-left l =
    (q : Id) (rest : Answer) → or_answer (found l.table q) (params_then q l.left rest) ≡ or_answer (found l.fn.table q) (params_then q l.fn.params rest)

abbrev pub decreases-loop-left : goal.decreases-loop-left
decreases-loop-left l = length l.left
