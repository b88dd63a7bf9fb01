-- The trail so far, and what was met on it.
use Rattle.std.proofs.Common.{◌≡◌, ℕ, ◌<◌, true, false, not, length, reverse, count_by, get_or, slice_index}
use Rattle.vx_order.specs.Groups.{has}
use Rattle.vx_order.specs.Backward.{IsTrail}
use Rattle.vx_order.proofs.cycle.find_cycle.Given as goal

abbrev pub invariant-loop-met : goal.invariant-loop-met
invariant-loop-met l = record {
  len : length l.met.items ≡ length l.counts;
  within : l.at < length l.counts;
  is_open : 0 < slice_index l.counts l.at;
  trail : IsTrail l.links l.at (reverse l.trail.items);
  met : (v : ℕ) → get_or l.met.items v false ≡ true → has l.trail.items v ≡ true;
  all_open : (v : ℕ) → has l.trail.items v ≡ true → 0 < slice_index l.counts v;
}

abbrev pub decreases-loop-met : goal.decreases-loop-met
decreases-loop-met l = count_by not l.met.items
