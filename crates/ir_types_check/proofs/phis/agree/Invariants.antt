-- The rest agrees with what was brought exactly where all agree.
use Rattle.std.proofs.Common.{◌≡◌, [], length}
use Rattle.ir_types_check.specs.Typed.{agree}
use Rattle.ir_types_check.proofs.phis.agree.Given as goal

abbrev pub invariant-each : goal.invariant-each
invariant-each l = agree l.brought l.labels l.args ≡ agree [] l.fn.labels l.fn.args

abbrev pub decreases-each : goal.decreases-each
decreases-each l = length l.labels
