use Rattle.std.proofs.Common.{◌≡◌, ◌++◌, length}
use Rattle.sb_lines.specs.Nodes.{held, next, lines}
use Rattle.sb_lines.proofs.arena.Arena.insts_from.Given as goal

-- what was copied and what is left are all
abbrev pub invariant-loop-left : goal.invariant-loop-left
invariant-loop-left l =
    l.insts ++ lines (held l.self.nodes.items) (next l.self.nodes.items) l.left l.at ≡ lines (held l.self.nodes.items) (next l.self.nodes.items) (length l.self.nodes.items) l.mark

abbrev pub decreases-loop-left : goal.decreases-loop-left
decreases-loop-left l = l.left
