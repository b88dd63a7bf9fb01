use Rattle.std.proofs.Common.{sym, ◌∙◌, drop, arith}
use Rattle.ir_interp.proofs.Edges.{arm_from-short}
use Rattle.ir_interp.proofs.blocks.arm_from.Goals as goal

pub returns-in_default : goal.returns-in_default
returns-in_default c =
    sym (arm_from-short c.args.from (drop c.loop-block.block-index c.args.blocks.now) c.loop-block.rest.now (omega arith)) ∙ c.loop-block.invariant
