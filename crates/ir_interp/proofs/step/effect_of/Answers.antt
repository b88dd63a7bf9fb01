use Rattle.std.proofs.Common.{ap, sym, ◌∙◌}
use Rattle.ir_model.specs.Step.{effect_of}
use Rattle.ir_interp.proofs.step.effect_of.Goals as goal

pub returns-in_ok-load-in-Load : goal.returns-in_ok-load-in-Load
returns-in_ok-load-in-Load c =
    c.in_ok-load-in-Load.ensures c.args.types.now
    ∙ ap (λ op. effect_of op c.args.ty c.args.types.now c.args.values.now c.args.memory.now) (sym c.in-Load.is)

pub returns-in_ok-store-in-Store : goal.returns-in_ok-store-in-Store
returns-in_ok-store-in-Store c =
    c.in_ok-store-in-Store.ensures c.args.types.now
    ∙ ap (λ op. effect_of op c.args.ty c.args.types.now c.args.values.now c.args.memory.now) (sym c.in-Store.is)

pub returns-in_ok-allocated-in-Alloca : goal.returns-in_ok-allocated-in-Alloca
returns-in_ok-allocated-in-Alloca c =
    c.in_ok-allocated-in-Alloca.ensures c.args.types.now c.in-Alloca.align
    ∙ ap (λ op. effect_of op c.args.ty c.args.types.now c.args.values.now c.args.memory.now) (sym c.in-Alloca.is)
