use Rattle.std.proofs.Common.{◌∙◌, ap}
use Rattle.vx_view.specs.declared.answer.Answer.TheVariants as says
use Rattle.vx_view.specs.Answers.{funcs_of}
use Rattle.vx_seeds.specs.Known.{or_answer, all_params_then, funcs_then}
use Rattle.vx_seeds.proofs.Answering.{scans_answer}
use Rattle.vx_seeds.proofs.known.Table.new.Goals as goal

-- nothing is known at first
pub returns-clause-is : goal.returns-clause-is
returns-clause-is c = λ q.
    let fs = funcs_of c.as_slice-2.result.now in
    c.in_ok-add_funcs.ensures q says.Nothing
    ∙ c.in_ok-add_all_params.ensures q (funcs_then q 0 fs says.Nothing)
    ∙ ap (λ u. or_answer u (all_params_then q (funcs_of c.as_slice.result.now) (funcs_then q 0 fs says.Nothing))) (c.new-known.ensures q)
    ∙ ap (λ x. all_params_then q (funcs_of x) (funcs_then q 0 fs says.Nothing)) c.as_slice.ensures
    ∙ ap (λ x. all_params_then q (funcs_of c.args.asked.now.items) (funcs_then q 0 (funcs_of x) says.Nothing)) c.as_slice-2.ensures
    ∙ scans_answer q c.args.asked.now
