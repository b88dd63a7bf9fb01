use Rattle.std.proofs.Common.{◌≡◌, ◌+◌, ◌++◌, length, map}
use Rattle.vx_deps.specs.Graphs.{as_node}
use Rattle.vx_deps.specs.Rows.{row, edges_of}
use Rattle.vx_deps.proofs.window.push_edges.Given as goal

abbrev pub invariant-loop-left : goal.invariant-loop-left
invariant-loop-left l = record {
  edges : l.edges.items ++ edges_of l.from (as_node l.first) l.at (row (map as_node l.left)) ≡ l.fn.edges.items ++ edges_of l.from (as_node l.first) (l.from + 1) (row (map as_node l.fn.later));
  count : l.at + length l.left ≡ l.from + 1 + length l.fn.later;
}

abbrev pub decreases-loop-left : goal.decreases-loop-left
decreases-loop-left l = length l.left
