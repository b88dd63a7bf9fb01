use Rattle.std.proofs.Common.{◌≡◌, length}
use Rattle.vx_view.specs.Answers.{find}
use Rattle.vx_view.proofs.scan.find.Given as goal

abbrev pub invariant-loop-left : goal.invariant-loop-left
invariant-loop-left l = find l.id l.left ≡ find l.id l.fn.insts

abbrev pub decreases-loop-left : goal.decreases-loop-left
decreases-loop-left l = length l.left
