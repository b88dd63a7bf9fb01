use Rattle.std.proofs.Common.{◌≡◌, drop}
use Rattle.std.specs.List.{list_any}
use Rattle.ir_model.specs.Run.{names}
use Rattle.ir_interp.proofs.noalias.any_names.Given as goal

abbrev pub invariant-loop-value : goal.invariant-loop-value
invariant-loop-value l = list_any (names l.object) (drop l.value-index l.values) ≡ list_any (names l.object) l.values
