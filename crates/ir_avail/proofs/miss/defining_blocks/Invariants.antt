use Rattle.std.proofs.Common.{◌≡◌, map, take}
use Rattle.ir_types.specs.declared.func.Block.{Block}
use Rattle.ir_types.specs.Available.{defines}
use Rattle.ir_avail.proofs.miss.defining_blocks.Given as goal

abbrev pub invariant-loop-block : goal.invariant-loop-block
invariant-loop-block l = l.bars.items ≡ map (λ (b : Block). defines l.value b.insts) (take l.block-index l.block-items)
