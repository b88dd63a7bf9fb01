-- The members so far and those to come are all.
use Rattle.std.proofs.Common.{◌≡◌, ◌+◌, drop, length, sum_by}
use Rattle.vx_order.proofs.table.size.Given as goal

abbrev pub invariant-loop-group : goal.invariant-loop-group
invariant-loop-group l = l.places + sum_by length (drop l.group-index l.groups) ≡ sum_by length l.groups
