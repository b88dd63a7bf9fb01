use Rattle.std.proofs.Common.{◌≡◌, ◌+◌, length}
use Rattle.vx_view.specs.Answers.{funcs_of}
use Rattle.sb_lines.proofs.params.count_funcs.Given as goal

abbrev pub invariant-loop-left : goal.invariant-loop-left
invariant-loop-left l = l.number + length (funcs_of l.left) ≡ length (funcs_of l.items)

abbrev pub decreases-loop-left : goal.decreases-loop-left
decreases-loop-left l = length l.left
