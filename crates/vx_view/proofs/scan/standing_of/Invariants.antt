use Rattle.std.proofs.Common.{◌≡◌, length}
use Rattle.vx_view.specs.Answers.{standing_of, funcs_of}
use Rattle.vx_view.proofs.scan.standing_of.Given as goal

abbrev pub invariant-loop-left : goal.invariant-loop-left
invariant-loop-left l = standing_of l.id l.number (funcs_of l.left) ≡ standing_of l.id 0 (funcs_of l.fn.items)

abbrev pub decreases-loop-left : goal.decreases-loop-left
decreases-loop-left l = length l.left
