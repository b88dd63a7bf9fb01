use Rattle.std.proofs.Common.{ap, sym, ◌∙◌, map}
use Rattle.ir_model.specs.Values.{value_of, type_of}
use Rattle.ir_interp.specs.Slots.{env_in, types_in}
use Rattle.ir_interp.specs.Effects.{effect_in}
use Rattle.ir_interp.proofs.Steps.{step_of-result}
use Rattle.ir_interp.proofs.step.step.Goals as goal

pub returns-in-Result : goal.returns-in-Result
returns-in-Result c =
    let types = types_in c.args.types.now.types.items in
    let env = env_in c.args.state.now.env.values.items in
    step_of-result types env (env_in c.set.new.self.values.items) c.args.inst.now c.args.state.now.memory c.effect_of.new.memory c.in-Result.value _ _
    (c.as_slice.ensures.value ∙ c.in_ok-opd_types.ensures ∙ ap (map (type_of types)) c.as_slice-opds.ensures)
    (c.as_slice-2.ensures.value ∙ c.in_ok-values.ensures ∙ ap (map (value_of env)) c.as_slice-opds.ensures)
    (ap (λ e. effect_in e c.effect_of.new.memory) (sym c.in-Result.is) ∙ c.in_ok-effect.ensures)
    c.in_ok-set-in-Result.ensures
