use Rattle.std.proofs.Common.{◌∙◌}
use Rattle.vx_view.specs.declared.question.Question.TheVariants as ask
use Rattle.vx_view.proofs.Asking.{asks_one}
use Rattle.vx_deps.proofs.Standings.{prev_is}
use Rattle.vx_deps.proofs.lookup.before.Goals as goal

pub returns-clause-is : goal.returns-clause-is
returns-clause-is g c m t h place e = c.id_answered.ensures ∙ prev_is m h place c.args.id e.0 e.1 c.in_ok-answer.answer (c.in_ok-answer.ensures.answers m t)

pub returns-clause-asks : goal.returns-clause-asks
returns-clause-asks g c =
    asks_one (ask.Prev c.args.id) c.in_ok-answer.answer (g.V.View.seen c.args.view.now) (g.V.View.seen c.ask.new.self) c.in_ok-answer.ensures.noted c.in_ok-answer.ensures.own
