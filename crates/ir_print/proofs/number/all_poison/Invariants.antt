-- What is left decides.
use Rattle.std.proofs.Common.{◌≡◌, drop}
use Rattle.std.specs.List.{list_all}
use Rattle.ir_print.specs.Literals.{is_poison}
use Rattle.ir_print.proofs.number.all_poison.Given as goal

abbrev pub invariant-loop-lane : goal.invariant-loop-lane
invariant-loop-lane l = list_all is_poison (drop l.lane-index l.lanes) ≡ list_all is_poison l.lanes
