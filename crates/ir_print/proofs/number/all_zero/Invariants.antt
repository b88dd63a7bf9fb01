-- What is left decides.
use Rattle.std.proofs.Common.{◌≡◌, drop}
use Rattle.std.specs.List.{list_all}
use Rattle.ir_print.specs.Literals.{is_zero}
use Rattle.ir_print.proofs.number.all_zero.Given as goal

abbrev pub invariant-loop-lane : goal.invariant-loop-lane
invariant-loop-lane l = list_all is_zero (drop l.lane-index l.lanes) ≡ list_all is_zero l.lanes
