use Rattle.std.proofs.Common.{◌≡◌, ℕ, ◌<◌, length, get_or}
use Rattle.std.specs.declared.option.Option.TheVariants.{Some}
use Rattle.ir_types.specs.Walks.{targets_at}
use Rattle.ir_avail.specs.Avoids.{distance_at}
use Rattle.ir_avail.proofs.distances.leads_to.Given as goal

abbrev pub invariant-loop-target : goal.invariant-loop-target
invariant-loop-target l =
    (k : ℕ) → k < l.target-index → get_or (targets_at l.graph l.number) k 0 < length l.graph
    → distance_at l.distances (get_or (targets_at l.graph l.number) k 0) ≡ Some l.distance → ⊥
