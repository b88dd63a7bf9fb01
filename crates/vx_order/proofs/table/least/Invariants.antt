-- The least so far and the members to come give the least.
use Rattle.std.proofs.Common.{◌≡◌, drop}
use Rattle.vx_order.specs.Groups.{least, least_from}
use Rattle.vx_order.proofs.table.least.Given as goal

abbrev pub invariant-loop-place : goal.invariant-loop-place
invariant-loop-place l = least_from l.found (drop l.place-index l.more) ≡ least l.group
