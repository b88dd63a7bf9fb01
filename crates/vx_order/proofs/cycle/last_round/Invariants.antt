-- The round so far and the trail that is left make the trail.
use Rattle.std.proofs.Common.{◌≡◌, ℕ, true, List, ◌∷◌, ◌++◌, reverse, length}
use Rattle.vx_order.specs.Groups.{has}
use Rattle.vx_order.proofs.cycle.last_round.Given as goal

abbrev pub invariant-loop-node : goal.invariant-loop-node
invariant-loop-node l = (front : List ℕ) × (l.round ≡ l.at ∷ front) × (reverse l.fn.trail.items ≡ front ++ reverse l.trail.items) × (has l.trail.items l.at ≡ true)

abbrev pub decreases-loop-node : goal.decreases-loop-node
decreases-loop-node l = length l.trail.items
