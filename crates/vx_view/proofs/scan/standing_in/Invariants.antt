use Rattle.std.proofs.Common.{◌≡◌, length}
use Rattle.vx_view.specs.Answers.{standing_in}
use Rattle.vx_view.proofs.scan.standing_in.Given as goal

abbrev pub invariant-loop-left : goal.invariant-loop-left
invariant-loop-left l = standing_in l.id l.func l.number l.left ≡ standing_in l.id l.func 0 l.fn.blocks

abbrev pub decreases-loop-left : goal.decreases-loop-left
decreases-loop-left l = length l.left
