-- The set has those of the nodes so far whose count is 0.
use Rattle.std.proofs.Common.{◌≡◌, ℕ, ◌==◌, ◌&&◌, take, slice_index}
use Rattle.std.specs.Ordering.{nat_cmp}
use Rattle.std.specs.BTreeSet.{contains}
use Rattle.vx_order.specs.Groups.{has}
use Rattle.vx_order.proofs.order.starts.Given as goal

abbrev pub invariant-loop-node : goal.invariant-loop-node
invariant-loop-node l = (v : ℕ) → contains nat_cmp l.ready v ≡ (has (take l.node-index l.nodes) v && (slice_index l.counts v == 0))
