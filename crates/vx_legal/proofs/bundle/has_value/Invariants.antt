use Rattle.std.proofs.Common.{◌≡◌, length}
use Rattle.std.specs.List.{list_any}
use Rattle.vx_serial.specs.Legal.{same_value}
use Rattle.vx_legal.proofs.bundle.has_value.Given as goal

abbrev pub invariant-loop-left : goal.invariant-loop-left
invariant-loop-left l = list_any (same_value l.lane) l.left ≡ list_any (same_value l.lane) l.fn.lanes

abbrev pub decreases-loop-left : goal.decreases-loop-left
decreases-loop-left l = length l.left
