use Rattle.std.proofs.Common.{ap, sym, ◌∙◌}
use Rattle.ir_types.proofs.Among.{same_itself}
use Rattle.vx_view.specs.declared.question.Question.TheVariants as ask
use Rattle.vx_view.specs.Answers.{is_value}
use Rattle.vx_view.specs.Blocks.{block_at}
use Rattle.vx_view.proofs.Asking.{asks_one}
use Rattle.vx_addr.proofs.Lookups.{asks_named, placed}
use Rattle.vx_serial.specs.Legal.{inst_of}
use Rattle.vx_legal.proofs.lookup.inst_of.Goals as goal

pub returns-in_ok-answer-in-Val-clause-is : goal.returns-in_ok-answer-in-Val-clause-is
returns-in_ok-answer-in-Val-clause-is g c m t h =
    c.in_place.ensures ∙ placed m c.args.place c.in-Val.id c.in_ok-answer-in-Val.answer h (c.in_ok-answer-in-Val.ensures.answers m t) ∙ ap (inst_of (block_at m c.args.place)) (sym c.in-Val.is)

pub returns-in_ok-answer-in-Val-clause-asks : goal.returns-in_ok-answer-in-Val-clause-asks
returns-in_ok-answer-in-Val-clause-asks g c =
    let asked = c.in_ok-answer-in-Val.ensures in
    asks_named (λ m x. is_value x c.args.lane.now) c.in-Val.id (g.V.View.seen c.args.view.now) (g.V.View.seen c.ask.new.self)
    (asks_one (ask.Inst c.in-Val.id) c.in_ok-answer-in-Val.answer (g.V.View.seen c.args.view.now) (g.V.View.seen c.ask.new.self) asked.noted asked.own)
    (λ m t f. ap (is_value c.in-Val.id) c.in-Val.is ∙ same_itself c.in-Val.id)
