-- The links so far and those to come are all.
use Rattle.std.proofs.Common.{◌≡◌, ◌++◌, map, drop, slice_index}
use Rattle.vx_order.proofs.table.Table.links.Given as goal

abbrev pub invariant-loop-from : goal.invariant-loop-from
invariant-loop-from l = l.links.items ++ map (λ e. (slice_index l.self.positions.items e.0, slice_index l.self.positions.items e.1)) (drop l.from-index l.edges)
    ≡ map (λ e. (slice_index l.self.positions.items e.0, slice_index l.self.positions.items e.1)) l.edges
