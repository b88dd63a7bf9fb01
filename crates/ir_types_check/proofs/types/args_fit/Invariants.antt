-- The rest fits exactly where all do.
use Rattle.std.proofs.Common.{◌≡◌, length}
use Rattle.std.specs.List.{list_all}
use Rattle.ir_types_check.specs.Typed.{arg_fits}
use Rattle.ir_types_check.proofs.types.args_fit.Given as goal

abbrev pub invariant-each : goal.invariant-each
invariant-each l = list_all (arg_fits l.locals) l.rest ≡ list_all (arg_fits l.locals) l.args

abbrev pub decreases-each : goal.decreases-each
decreases-each l = length l.rest
