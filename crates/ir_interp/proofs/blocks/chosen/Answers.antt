use Rattle.std.proofs.Common.{sym, ◌∙◌, drop, arith}
use Rattle.ir_interp.proofs.Edges.{chosen-short}
use Rattle.ir_interp.proofs.blocks.chosen.Goals as goal

pub returns-in_default : goal.returns-in_default
returns-in_default c =
    sym (chosen-short c.args.number c.args.other (drop c.loop-case.case-index c.args.cases.now) c.loop-case.rest.now (omega arith)) ∙ c.loop-case.invariant
