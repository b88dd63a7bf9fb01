use Rattle.std.proofs.Common.{◌∙◌, ap, ◌∷◌}
use Rattle.vx_view.specs.Answers.{funcs_of}
use Rattle.vx_seeds.proofs.Modules.{rest_left}
use Rattle.vx_seeds.proofs.module.add_item.Goals as goal

pub returns-in_ok-more-in-Func-clause-left : goal.returns-in_ok-more-in-Func-clause-left
returns-in_ok-more-in-Func-clause-left c = λ items fs e.
    rest_left c.args.number c.in_ok-more-in-Func.more fs (funcs_of items) c.in-Func.func c.in_ok-more-in-Func.ensures (e ∙ ap (λ i. funcs_of (i ∷ items)) c.in-Func.is)
