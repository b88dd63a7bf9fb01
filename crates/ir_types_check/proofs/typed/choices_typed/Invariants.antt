-- The cases that are left, after those seen, are typed as all are.
use Rattle.std.proofs.Common.{◌≡◌, [], length}
use Rattle.ir_types_check.specs.Links.{choices}
use Rattle.ir_types_check.specs.Typed.{choices_typed}
use Rattle.ir_types_check.proofs.typed.choices_typed.Given as goal

abbrev pub invariant-each : goal.invariant-each
invariant-each l = choices_typed l.locals l.ty l.seen (choices l.rest) ≡ choices_typed l.locals l.ty [] (choices l.lines)

abbrev pub decreases-each : goal.decreases-each
decreases-each l = length l.rest
