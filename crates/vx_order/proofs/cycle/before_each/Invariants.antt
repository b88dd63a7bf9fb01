-- Each number to which a link from an open number was passed has such a number.
use Rattle.std.proofs.Common.{◌≡◌, ℕ, ◌<◌, Some, length, slice_get, slice_index}
use Rattle.vx_order.specs.Backward.{IsOpenBefore}
use Rattle.vx_order.proofs.cycle.before_each.Given as goal

abbrev pub invariant-loop-from : goal.invariant-loop-from
invariant-loop-from l = record {
  len : length l.before.items ≡ length l.counts;
  found : (k u v : ℕ) → k < l.from-index → slice_get l.links k ≡ Some (u, v) → 0 < slice_index l.counts u → IsOpenBefore l.links l.counts (slice_index l.before.items v) v;
}
