use Rattle.std.proofs.Common.{◌≡◌, length, map}
use Rattle.vx_deps.specs.Graphs.{as_node}
use Rattle.vx_deps.specs.Rows.{row, from_member}
use Rattle.vx_deps.proofs.window.from_member.Given as goal

abbrev pub invariant-loop-first : goal.invariant-loop-first
invariant-loop-first l = from_member l.bundles (row (map as_node l.left)) ≡ from_member l.bundles (row (map as_node l.fn.nodes))

abbrev pub decreases-loop-first : goal.decreases-loop-first
decreases-loop-first l = length l.left
