use Rattle.std.proofs.Common.{◌≡◌, length}
use Rattle.vec_inspect.specs.Members.{first_outside}
use Rattle.vec_inspect.proofs.bundles.first_outside.Given as goal

abbrev pub invariant-loop-left : goal.invariant-loop-left
invariant-loop-left l = first_outside l.ids l.left ≡ first_outside l.ids l.fn.members

abbrev pub decreases-loop-left : goal.decreases-loop-left
decreases-loop-left l = length l.left
