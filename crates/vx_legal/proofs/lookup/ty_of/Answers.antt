use Rattle.std.proofs.Common.{ap, ◌∙◌}
use Rattle.ir_types.proofs.Among.{same_itself}
use Rattle.vx_view.specs.declared.question.Question.TheVariants as ask
use Rattle.vx_view.specs.Answers.{is_value}
use Rattle.vx_view.proofs.Asking.{asks_one}
use Rattle.vx_addr.proofs.Lookups.{asks_named}
use Rattle.vx_legal.proofs.lookup.ty_of.Goals as goal

pub returns-in_ok-answer-in-Val-clause-asks : goal.returns-in_ok-answer-in-Val-clause-asks
returns-in_ok-answer-in-Val-clause-asks g c =
    let asked = c.in_ok-answer-in-Val.ensures in
    asks_named (λ m x. is_value x c.args.opd.now) c.in-Val.id (g.V.View.seen c.args.view.now) (g.V.View.seen c.ask.new.self)
    (asks_one (ask.Inst c.in-Val.id) c.in_ok-answer-in-Val.answer (g.V.View.seen c.args.view.now) (g.V.View.seen c.ask.new.self) asked.noted asked.own)
    (λ m t f. ap (is_value c.in-Val.id) c.in-Val.is ∙ same_itself c.in-Val.id)
