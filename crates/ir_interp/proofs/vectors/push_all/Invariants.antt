use Rattle.std.proofs.Common.{◌≡◌, ◌++◌, drop}
use Rattle.ir_interp.proofs.vectors.push_all.Given as goal

abbrev pub invariant-loop-lane : goal.invariant-loop-lane
invariant-loop-lane l = l.lanes ++ drop l.lane-index l.more ≡ l.initial.lanes ++ l.more
