use Rattle.std.proofs.Common.{◌≡◌, false, sym, ◌∙◌, arith}
use Rattle.ir_model.specs.Run.{is_terminator}
use Rattle.ir_interp.specs.Slots.{types_in}
use Rattle.ir_interp.specs.Effects.{state_in}
use Rattle.ir_interp.proofs.Items.{item-next}
use Rattle.ir_interp.proofs.Steps.{run_insts-more}
use Rattle.ir_interp.proofs.blocks.run_insts.Goals as goal

pub loop-inst-preserved : goal.loop-inst-preserved
loop-inst-preserved c =
    let inst = c.inst-item.result in
    let goes_on : is_terminator inst.op ≡ false = sym c.if-is_terminator.ensures in
    run_insts-more (types_in c.args.types.now.types.items) c.args.insts.now c.loop-inst.inst-index inst c.in_ok-step.field-0
    (state_in c.loop-inst.state.env.values.items c.loop-inst.state.memory) (state_in c.step.new.state.env.values.items c.step.new.state.memory)
    (item-next c.args.insts.now c.loop-inst.inst-index inst (omega arith) c.inst-item.is) goes_on c.if-not-branch.false c.in_ok-step.ensures
    ∙ c.loop-inst.invariant
