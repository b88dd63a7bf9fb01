use Rattle.std.proofs.Common.{◌≡◌, None, length}
use Rattle.vx_view.specs.Answers.{before}
use Rattle.vx_view.proofs.scan.before.Given as goal

abbrev pub invariant-loop-left : goal.invariant-loop-left
invariant-loop-left l = before l.id l.last l.left ≡ before l.id None l.fn.insts

abbrev pub decreases-loop-left : goal.decreases-loop-left
decreases-loop-left l = length l.left
