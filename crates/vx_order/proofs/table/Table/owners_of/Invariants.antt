-- The owners so far and those to come are all.
use Rattle.std.proofs.Common.{◌≡◌, ◌++◌, map, drop, slice_index}
use Rattle.vx_order.proofs.table.Table.owners_of.Given as goal

abbrev pub invariant-loop-place : goal.invariant-loop-place
invariant-loop-place l = l.owners.items ++ map (slice_index l.self.owners.items) (drop l.place-index l.places) ≡ map (slice_index l.self.owners.items) l.places
