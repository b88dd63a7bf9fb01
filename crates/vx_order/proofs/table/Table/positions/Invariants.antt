-- The positions so far and those to come are all.
use Rattle.std.proofs.Common.{◌≡◌, ◌++◌, drop}
use Rattle.vx_order.specs.Fixed.{fixed_points}
use Rattle.vx_order.proofs.table.Table.positions.Given as goal

abbrev pub invariant-loop-place : goal.invariant-loop-place
invariant-loop-place l = l.nodes.items ++ fixed_points l.place (drop l.place l.self.positions.items) ≡ fixed_points 0 l.self.positions.items
