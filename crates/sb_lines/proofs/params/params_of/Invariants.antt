use Rattle.std.proofs.Common.{◌≡◌, ℕ, drop}
use Rattle.ir_types.specs.declared.id.Id.{Id}
use Rattle.ir_types.specs.IdTable.{found}
use Rattle.vx_view.specs.Answers.{either}
use Rattle.sb_lines.specs.Params.{of_func, spots_at}
use Rattle.sb_lines.proofs.params.params_of.Given as goal

abbrev pub invariant-loop-item : goal.invariant-loop-item
invariant-loop-item l = (id : Id) (k : ℕ) → either (of_func k (found l.params id)) (spots_at id k l.number (drop l.item-index l.items)) ≡ spots_at id k 0 l.items
