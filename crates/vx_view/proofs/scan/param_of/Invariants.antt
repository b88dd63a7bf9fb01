use Rattle.std.proofs.Common.{◌≡◌, length}
use Rattle.vx_view.specs.Answers.{param_of, funcs_of}
use Rattle.vx_view.proofs.scan.param_of.Given as goal

abbrev pub invariant-loop-left : goal.invariant-loop-left
invariant-loop-left l = param_of l.id (funcs_of l.left) ≡ param_of l.id (funcs_of l.fn.items)

abbrev pub decreases-loop-left : goal.decreases-loop-left
decreases-loop-left l = length l.left
