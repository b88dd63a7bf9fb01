use Rattle.std.proofs.Common.{◌≡◌, ◌+◌, ◌++◌, length, map}
use Rattle.vx_deps.specs.Graphs.{as_node}
use Rattle.vx_deps.specs.Rows.{row, edges_between}
use Rattle.vx_deps.proofs.window.edges_between.Given as goal

abbrev pub invariant-loop-left : goal.invariant-loop-left
invariant-loop-left l = record {
  edges : l.edges.items ++ edges_between l.at (row (map as_node l.left)) ≡ edges_between 0 (row (map as_node l.fn.window));
  count : l.at + length l.left ≡ length l.fn.window;
}

abbrev pub decreases-loop-left : goal.decreases-loop-left
decreases-loop-left l = length l.left
