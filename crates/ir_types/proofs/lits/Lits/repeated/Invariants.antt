-- So many lanes as were counted.
use Rattle.std.proofs.Common.{◌≡◌, replicate}
use Rattle.ir_types.proofs.lits.Lits.repeated.Given as goal

abbrev pub invariant-each : goal.invariant-each
invariant-each l = l.lanes ≡ replicate l.counter l.lane
