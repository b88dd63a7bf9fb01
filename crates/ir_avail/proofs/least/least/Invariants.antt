use Rattle.std.proofs.Common.{◌≡◌, ℕ, Bool}
use Rattle.std.specs.declared.option.Option.TheVariants.{Some}
use Rattle.ir_avail.specs.Avoids.{distance_at, AreDistances}
use Rattle.ir_avail.proofs.Leasts.{Leads}
use Rattle.ir_avail.proofs.least.least.Given as goal

abbrev pub invariant-down : goal.invariant-down
invariant-down l =
    (barred : ℕ → Bool) (end : ℕ) → AreDistances l.graph barred end l.distances → distance_at l.distances 0 ≡ Some l.len
    → (distance_at l.distances l.at ≡ Some l.left) × Leads l.graph barred end l.len l.walk l.at l.left

abbrev pub decreases-down : goal.decreases-down
decreases-down l = l.left
