use Rattle.std.proofs.Common.{◌≡◌, drop}
use Rattle.ir_model.specs.Run.{typed_blocks}
use Rattle.ir_interp.specs.Slots.{over}
use Rattle.ir_interp.proofs.environment.Types.add_blocks.Given as goal

abbrev pub invariant-loop-block : goal.invariant-loop-block
invariant-loop-block l =
    over l.self.types.items (typed_blocks (drop l.block-index l.blocks)) ≡ over l.initial.self.types.items (typed_blocks l.blocks)
