use Rattle.std.proofs.Common.{◌≡◌, ◌++◌, length}
use Rattle.vx_serial.specs.Window.{joined}
use Rattle.vec_inspect.proofs.bundles.joined.Given as goal

abbrev pub invariant-loop-left : goal.invariant-loop-left
invariant-loop-left l = l.members ++ joined l.left ≡ joined l.bundles

abbrev pub decreases-loop-left : goal.decreases-loop-left
decreases-loop-left l = length l.left
