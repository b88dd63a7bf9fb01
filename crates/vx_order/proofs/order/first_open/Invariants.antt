-- The nodes that were passed have the count 0.
use Rattle.std.proofs.Common.{ℕ, ◌<◌, ◌≤◌, slice_index}
use Rattle.vx_order.proofs.order.first_open.Given as goal

abbrev pub invariant-loop-node : goal.invariant-loop-node
invariant-loop-node l = (k : ℕ) → k < l.node-index → slice_index l.counts (slice_index l.nodes k) ≤ 0
