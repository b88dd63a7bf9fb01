use Rattle.std.proofs.Common.{◌+◌, ap, sym, ◌∙◌, drop, arith}
use Rattle.ir_model.specs.Run.{typed_insts}
use Rattle.ir_interp.specs.Slots.{over}
use Rattle.ir_interp.proofs.Items.{item-next, items-end}
use Rattle.ir_interp.proofs.environment.Types.add_insts.Goals as goal

pub loop-inst-preserved : goal.loop-inst-preserved
loop-inst-preserved c = λ rest.
    c.in_ok-add.ensures (typed_insts (drop (c.loop-inst.inst-index + 1) c.args.insts.now) rest)
    ∙ ap (λ l. over c.loop-inst.self.types.items (typed_insts l rest)) (item-next c.args.insts.now c.loop-inst.inst-index c.inst-item.result (omega arith) c.inst-item.is)
    ∙ c.loop-inst.invariant rest

pub returns : goal.returns
returns c = λ rest.
    ap (λ l. over c.loop-inst.self.types.items (typed_insts l rest)) (sym (items-end c.args.insts.now c.loop-inst.inst-index (omega arith)))
    ∙ c.loop-inst.invariant rest
