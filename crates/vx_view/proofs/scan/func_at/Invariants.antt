use Rattle.std.proofs.Common.{◌≡◌, length}
use Rattle.std.proofs.Common.{slice_get}
use Rattle.vx_view.specs.Answers.{funcs_of}
use Rattle.vx_view.proofs.scan.func_at.Given as goal

abbrev pub invariant-loop-left : goal.invariant-loop-left
invariant-loop-left l = slice_get (funcs_of l.left) l.number ≡ slice_get (funcs_of l.fn.items) l.fn.number

abbrev pub decreases-loop-left : goal.decreases-loop-left
decreases-loop-left l = length l.left
