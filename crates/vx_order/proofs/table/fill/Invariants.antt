-- The places that were passed have the value.
use Rattle.std.proofs.Common.{◌≡◌, ℕ, ◌<◌, cond, take, length, slice_index}
use Rattle.vx_order.specs.Groups.{has}
use Rattle.vx_order.proofs.table.fill.Given as goal

abbrev pub invariant-loop-place : goal.invariant-loop-place
invariant-loop-place l = record {
  len : length l.table.items ≡ length l.fn.table.items;
  values : (p : ℕ) → p < length l.fn.table.items → slice_index l.table.items p ≡ cond (has (take l.place-index l.group) p) l.value (slice_index l.fn.table.items p);
}
