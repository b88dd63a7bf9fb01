use Rattle.std.proofs.Common.{◌≡◌, ◌++◌, length, map}
use Rattle.vx_deps.specs.Graphs.{as_node}
use Rattle.vx_deps.specs.Rows.{row, row_ids}
use Rattle.vx_deps.proofs.window.ids_of.Given as goal

abbrev pub invariant-loop-left : goal.invariant-loop-left
invariant-loop-left l = l.ids ++ row_ids (row (map as_node l.left)) ≡ row_ids (row (map as_node l.fn.window))

abbrev pub decreases-loop-left : goal.decreases-loop-left
decreases-loop-left l = length l.left
