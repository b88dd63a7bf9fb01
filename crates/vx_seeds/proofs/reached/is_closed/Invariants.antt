use Rattle.std.proofs.Common.{◌≡◌, ℕ, ◌<◌, ◌-◌, true, length}
use Rattle.std.specs.List.{list_all}
use Rattle.ir_types.specs.Walks.{targets_at}
use Rattle.vx_seeds.specs.Reached.{is_marked}
use Rattle.vx_seeds.proofs.reached.is_closed.Given as goal

abbrev pub invariant-loop-number : goal.invariant-loop-number
invariant-loop-number l = (y : ℕ) → y < l.number → is_marked l.marks y ≡ true → list_all (is_marked l.marks) (targets_at l.graph y) ≡ true

abbrev pub decreases-loop-number : goal.decreases-loop-number
decreases-loop-number l = length l.graph - l.number
