use Rattle.std.proofs.Common.{◌≡◌, ◌∙◌, ap, ◌||◌, Bool, option_map}
use Rattle.ir_types.specs.declared.id.Id.{Id}
use Rattle.ir_types.specs.Available.{same_id}
use Rattle.ir_types.proofs.Among.{same_itself}
use Rattle.vx_view.specs.declared.question.Question.TheVariants as ask
use Rattle.vx_view.specs.Answers.{found}
use Rattle.vx_view.proofs.Asking.{asks_then}
use Rattle.vx_addr.specs.Parts.{where_of, paired}
use Rattle.vx_addr.specs.Walks.{Names}
use Rattle.vx_addr.proofs.Lookups.{asks_named, names_one}
use Rattle.vx_addr.proofs.Steps.{or_left, or_right}
use Rattle.vx_addr.proofs.conflicts.both.Goals as goal

pub returns-in_err-first-clause-asks : goal.returns-in_err-first-clause-asks
returns-in_err-first-clause-asks g c =
    asks_named (λ m x. same_id c.args.i x || same_id c.args.j x) c.args.i (g.V.View.seen c.args.view.now) (g.V.View.seen c.standing.new.view) c.in_err-first.ensures.asks
    (λ m t f. or_left (same_id c.args.i c.args.i) (same_id c.args.j c.args.i) (same_itself c.args.i))

pub returns-in_err-second-clause-asks : goal.returns-in_err-second-clause-asks
returns-in_err-second-clause-asks g c =
    let on : Id → Bool = λ x. same_id c.args.i x || same_id c.args.j x in
    asks_then (λ m q. q ≡ ask.Inst c.args.i) (λ m q. q ≡ ask.Inst c.args.j) (λ m. Names on) (g.V.View.seen c.args.view.now) (g.V.View.seen c.standing.new.view) (g.V.View.seen c.standing-2.new.view)
    c.in_ok-first.ensures.asks c.in_err-second.ensures.asks
    (λ m t f. names_one on c.args.i (or_left (same_id c.args.i c.args.i) (same_id c.args.j c.args.i) (same_itself c.args.i)))
    (λ m t f. names_one on c.args.j (or_right (same_id c.args.i c.args.j) (same_id c.args.j c.args.j) (same_itself c.args.j)))

pub returns-clause-is : goal.returns-clause-is
returns-clause-is g c m t f =
    c.paired.ensures
    ∙ ap (λ u. paired u c.in_ok-second.second) (c.in_ok-first.ensures.is m (c.in_ok-second.ensures.asks.narrows m t) f)
    ∙ ap (paired (option_map where_of (found m c.args.i))) (c.in_ok-second.ensures.is m t f)

pub returns-clause-asks : goal.returns-clause-asks
returns-clause-asks g c =
    let on : Id → Bool = λ x. same_id c.args.i x || same_id c.args.j x in
    asks_then (λ m q. q ≡ ask.Inst c.args.i) (λ m q. q ≡ ask.Inst c.args.j) (λ m. Names on) (g.V.View.seen c.args.view.now) (g.V.View.seen c.standing.new.view) (g.V.View.seen c.standing-2.new.view)
    c.in_ok-first.ensures.asks c.in_ok-second.ensures.asks
    (λ m t f. names_one on c.args.i (or_left (same_id c.args.i c.args.i) (same_id c.args.j c.args.i) (same_itself c.args.i)))
    (λ m t f. names_one on c.args.j (or_right (same_id c.args.i c.args.j) (same_id c.args.j c.args.j) (same_itself c.args.j)))
