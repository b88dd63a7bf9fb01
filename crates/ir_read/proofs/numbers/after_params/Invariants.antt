-- The counter so far, with the parameters that are left, is the whole.
use Rattle.std.proofs.Common.{◌≡◌, length}
use Rattle.ir_read.specs.Numbers.{after_params}
use Rattle.ir_read.proofs.numbers.after_params.Given as goal

abbrev pub invariant-each : goal.invariant-each
invariant-each l = after_params l.line l.next l.rest ≡ after_params l.line 0 l.params

abbrev pub decreases-each : goal.decreases-each
decreases-each l = length l.rest
