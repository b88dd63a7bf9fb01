-- The first of the rest is the first of all.
use Rattle.std.proofs.Common.{◌≡◌, length}
use Rattle.ir_types_check.specs.Resolved.{big_endian_line}
use Rattle.ir_types_check.proofs.resolved.big_endian_line.Given as goal

abbrev pub invariant-each : goal.invariant-each
invariant-each l = big_endian_line l.rest ≡ big_endian_line l.items

abbrev pub decreases-each : goal.decreases-each
decreases-each l = length l.rest
