-- The links so far and those to come are all.
use Rattle.std.proofs.Common.{◌≡◌, ℕ, [], ◌++◌, drop, length, get_or}
use Rattle.vx_order.specs.Walks.{ends_from}
use Rattle.vx_order.proofs.order.ends.Given as goal

abbrev pub invariant-rows : goal.invariant-rows
invariant-rows l = record {
  len : length l.ends.items ≡ l._row;
  none : (v : ℕ) → get_or l.ends.items v [] ≡ [];
}

abbrev pub invariant-loop-from : goal.invariant-loop-from
invariant-loop-from l = record {
  len : length l.ends.items ≡ l.bound;
  each : (v : ℕ) → get_or l.ends.items v [] ++ ends_from v (drop l.from-index l.links) ≡ ends_from v l.links;
}
