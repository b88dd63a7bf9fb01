use Rattle.std.proofs.Common.{◌+◌, ap, sym, ◌∙◌, drop, arith}
use Rattle.ir_model.specs.Run.{typed_params}
use Rattle.ir_interp.specs.Slots.{over}
use Rattle.ir_interp.proofs.Items.{item-next, items-end}
use Rattle.ir_interp.proofs.environment.Types.add_params.Goals as goal

pub loop-param-preserved : goal.loop-param-preserved
loop-param-preserved c = λ rest.
    c.in_ok-add.ensures (typed_params (drop (c.loop-param.param-index + 1) c.args.params.now) rest)
    ∙ ap (λ l. over c.loop-param.self.types.items (typed_params l rest)) (item-next c.args.params.now c.loop-param.param-index c.param-item.result (omega arith) c.param-item.is)
    ∙ c.loop-param.invariant rest

pub returns : goal.returns
returns c = λ rest.
    ap (λ l. over c.loop-param.self.types.items (typed_params l rest)) (sym (items-end c.args.params.now c.loop-param.param-index (omega arith)))
    ∙ c.loop-param.invariant rest
