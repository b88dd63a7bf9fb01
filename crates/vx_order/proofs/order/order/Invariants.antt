-- The nodes so far are the front of the order, and the counts and the set say what may come next.
use Rattle.std.proofs.Common.{◌≡◌, ◌<◌, All, drop, length}
use Rattle.std.specs.Ordering.{nat_cmp}
use Rattle.std.specs.BTreeSet.{contains}
use Rattle.vx_order.specs.Order.{place, order_on}
use Rattle.vx_order.proofs.Placing.{IsUnderWay}
use Rattle.vx_order.proofs.order.order.Given as goal

abbrev pub invariant-each : goal.invariant-each
invariant-each l = record {
  len : length l.counts.items ≡ l.bound;
  under : IsUnderWay l.nodes l.links l.placed.items l.counts.items (contains nat_cmp l.ready);
  rest : place l.nodes l.links l.placed.items (drop l._node-index l.nodes) ≡ order_on l.nodes l.links;
  below : All (λ v. v < l.bound) l.placed.items;
  many : length l.placed.items ≡ l._node-index;
}
