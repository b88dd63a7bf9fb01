use Rattle.std.proofs.Common.{◌≡◌, ◌++◌, ◌-◌}
use Rattle.ir_model.specs.Accesses.{lanes_from}
use Rattle.ir_interp.proofs.bytes.lanes_from.Given as goal

abbrev pub invariant-loop : goal.invariant-loop
invariant-loop l = l.lanes ++ lanes_from (l.count - l.counter) l.size l.rest ≡ lanes_from l.count l.size l.bytes
