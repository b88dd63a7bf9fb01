use Rattle.std.proofs.Common.{◌≡◌, drop}
use Rattle.ir_model.specs.Run.{arm_from}
use Rattle.ir_interp.proofs.blocks.arm_from.Given as goal

abbrev pub invariant-loop-block : goal.invariant-loop-block
invariant-loop-block l = arm_from l.from (drop l.block-index l.blocks) l.rest ≡ arm_from l.from l.blocks l.opds
