use Rattle.std.proofs.Common.{◌≡◌, ℕ, ◌<◌, ◌≤◌, length, get_or}
use Rattle.std.specs.Prelude.{MatchOption}
use Rattle.std.specs.declared.option.Option.TheVariants.{Some}
use Rattle.ir_types.specs.Walks.{targets_at}
use Rattle.ir_avail.specs.Avoids.{distance_at, IsTargetAt}
use Rattle.ir_avail.proofs.least.least_target.Given as goal

abbrev pub invariant-loop-target : goal.invariant-loop-target
invariant-loop-target l = record {
  some : MatchOption l.least (Unit {0}) (λ b. IsTargetAt l.graph l.distances l.at l.distance b);
  low : (k : ℕ) → k < l.target-index → get_or (targets_at l.graph l.at) k 0 < length l.graph
      → distance_at l.distances (get_or (targets_at l.graph l.at) k 0) ≡ Some l.distance
      → MatchOption l.least ⊥ (λ b. b ≤ get_or (targets_at l.graph l.at) k 0);
}
