-- The links so far and those to come are all.
use Rattle.std.proofs.Common.{◌≡◌, ℕ, ◌+◌, ◌==◌, drop, count_by, length, slice_index}
use Rattle.vx_order.proofs.order.open_counts.Given as goal

abbrev pub invariant-loop-to : goal.invariant-loop-to
invariant-loop-to l = record {
  len : length l.counts.items ≡ l.bound;
  each : (v : ℕ) → slice_index l.counts.items v + count_by (λ e. e.1 == v) (drop l.to-index l.links) ≡ count_by (λ e. e.1 == v) l.links;
}
