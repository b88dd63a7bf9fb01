use Rattle.std.proofs.Common.{◌≡◌, length}
use Rattle.std.specs.List.{list_all}
use Rattle.vx_serial.specs.Legal.{may_widen}
use Rattle.vx_legal.specs.Found.{there}
use Rattle.vx_legal.proofs.found.all_may_widen.Given as goal

abbrev pub invariant-loop-left : goal.invariant-loop-left
invariant-loop-left l = list_all (may_widen l.is_root) (there l.left) ≡ list_all (may_widen l.is_root) (there l.fn.found)

abbrev pub decreases-loop-left : goal.decreases-loop-left
decreases-loop-left l = length l.left
