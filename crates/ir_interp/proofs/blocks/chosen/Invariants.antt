use Rattle.std.proofs.Common.{◌≡◌, drop}
use Rattle.ir_model.specs.Run.{chosen}
use Rattle.ir_interp.proofs.blocks.chosen.Given as goal

abbrev pub invariant-loop-case : goal.invariant-loop-case
invariant-loop-case l = chosen l.number l.other (drop l.case-index l.cases) l.rest ≡ chosen l.number l.other l.cases l.to
