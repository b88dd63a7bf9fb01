-- The names so far, with those of the items that are left, are the whole.
use Rattle.std.proofs.Common.{◌≡◌, length}
use Rattle.ir_types_check.specs.Tops.{with_items, tops_of}
use Rattle.ir_types_check.proofs.tops.tops_of.Given as goal

abbrev pub invariant-each : goal.invariant-each
invariant-each l = with_items l.tops l.rest ≡ tops_of l.items

abbrev pub decreases-each : goal.decreases-each
decreases-each l = length l.rest
