use Rattle.std.proofs.Common.{◌≡◌, length, map}
use Rattle.vx_deps.specs.Graphs.{kept_of, held, as_node}
use Rattle.vx_deps.proofs.graph.Graph.node.Given as goal

abbrev pub invariant-loop-left : goal.invariant-loop-left
invariant-loop-left l = kept_of l.id (map as_node l.left) ≡ kept_of l.id (held l.fn.self)

abbrev pub decreases-loop-left : goal.decreases-loop-left
decreases-loop-left l = length l.left
