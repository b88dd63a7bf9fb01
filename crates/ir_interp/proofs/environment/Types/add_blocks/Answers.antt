use Rattle.std.proofs.Common.{◌+◌, ap, sym, ◌∙◌, drop, arith}
use Rattle.ir_model.specs.Run.{typed_insts, typed_blocks}
use Rattle.ir_interp.specs.Slots.{over}
use Rattle.ir_interp.proofs.Items.{item-next, items-end}
use Rattle.ir_interp.proofs.environment.Types.add_blocks.Goals as goal

pub loop-block-preserved : goal.loop-block-preserved
loop-block-preserved c =
    let rest = typed_blocks (drop (c.loop-block.block-index + 1) c.args.blocks.now) in
    c.in_ok-add_insts.ensures rest
    ∙ ap (λ l. over c.loop-block.self.types.items (typed_insts l rest)) c.as_slice.ensures
    ∙ ap (λ l. over c.loop-block.self.types.items (typed_blocks l)) (item-next c.args.blocks.now c.loop-block.block-index c.block-item.result (omega arith) c.block-item.is)
    ∙ c.loop-block.invariant

pub returns : goal.returns
returns c =
    ap (λ l. over c.loop-block.self.types.items (typed_blocks l)) (sym (items-end c.args.blocks.now c.loop-block.block-index (omega arith)))
    ∙ c.loop-block.invariant
