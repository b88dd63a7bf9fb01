use Rattle.std.proofs.Common.{◌≡◌, length}
use Rattle.vx_view.specs.Answers.{after}
use Rattle.vx_view.proofs.scan.after.Given as goal

abbrev pub invariant-loop-left : goal.invariant-loop-left
invariant-loop-left l = after l.id l.left ≡ after l.id l.fn.insts

abbrev pub decreases-loop-left : goal.decreases-loop-left
decreases-loop-left l = length l.left
