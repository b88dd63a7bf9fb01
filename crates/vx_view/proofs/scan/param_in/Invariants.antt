use Rattle.std.proofs.Common.{◌≡◌, length}
use Rattle.vx_view.specs.Answers.{param_in}
use Rattle.vx_view.proofs.scan.param_in.Given as goal

abbrev pub invariant-loop-left : goal.invariant-loop-left
invariant-loop-left l = param_in l.id l.left ≡ param_in l.id l.fn.params

abbrev pub decreases-loop-left : goal.decreases-loop-left
decreases-loop-left l = length l.left
