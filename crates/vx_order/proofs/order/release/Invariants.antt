-- What holds at the end, for the ends so far.
use Rattle.std.proofs.Common.{◌≡◌, ℕ, ◌+◌, ◌==◌, ◌&&◌, ◌||◌, take, length, slice_index}
use Rattle.std.specs.Prelude.{nat_lt}
use Rattle.std.specs.Ordering.{nat_cmp}
use Rattle.std.specs.BTreeSet.{contains}
use Rattle.vx_order.specs.Walks.{tally}
use Rattle.vx_order.proofs.order.release.Given as goal

abbrev pub invariant-loop-end : goal.invariant-loop-end
invariant-loop-end l = record {
  len : length l.counts.items ≡ length l.fn.counts.items;
  counted : (v : ℕ) → slice_index l.counts.items v + tally v (take l.end-index l.ends) ≡ slice_index l.fn.counts.items v;
  ready : (v : ℕ) → contains nat_cmp l.ready v ≡ (contains nat_cmp l.fn.ready v || (nat_lt 0 (tally v (take l.end-index l.ends)) && (slice_index l.counts.items v == 0)));
}
