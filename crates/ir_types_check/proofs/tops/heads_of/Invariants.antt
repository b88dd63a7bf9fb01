-- The names so far, with those of the items that are left, are the whole.
use Rattle.std.proofs.Common.{◌≡◌, [], length}
use Rattle.ir_types_check.specs.InOrder.{with_heads}
use Rattle.ir_types_check.proofs.tops.heads_of.Given as goal

abbrev pub invariant-each : goal.invariant-each
invariant-each l = with_heads l.tops l.rest ≡ with_heads (record { scope = []; globals = [] }) l.items

abbrev pub decreases-each : goal.decreases-each
decreases-each l = length l.rest
