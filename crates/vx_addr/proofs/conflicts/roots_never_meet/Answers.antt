use Rattle.std.proofs.Common.{◌||◌, Bool}
use Rattle.ir_types.specs.declared.id.Id.{Id}
use Rattle.vx_view.specs.Answers.{is_value}
use Rattle.vx_view.proofs.Asking.{asks_then, asks_more}
use Rattle.vx_addr.specs.Walks.{Names}
use Rattle.vx_addr.proofs.Lookups.{names_more}
use Rattle.vx_addr.proofs.Steps.{or_left, or_right}
use Rattle.vx_addr.proofs.conflicts.roots_never_meet.Goals as goal

pub returns-in_err-a-clause-asks : goal.returns-in_err-a-clause-asks
returns-in_err-a-clause-asks g c =
    let a : Id → Bool = λ x. is_value x c.args.a.now in
    let b : Id → Bool = λ x. is_value x c.args.b.now in
    asks_more (λ m. Names a) (λ m. Names (λ x. a x || b x)) (g.V.View.seen c.args.view.now) (g.V.View.seen c.kind_of.new.view) c.in_err-a.ensures.asks
    (λ m t f. names_more a (λ x. a x || b x) (λ x h. or_left (a x) (b x) h))

pub returns-in_err-b-clause-asks : goal.returns-in_err-b-clause-asks
returns-in_err-b-clause-asks g c =
    let a : Id → Bool = λ x. is_value x c.args.a.now in
    let b : Id → Bool = λ x. is_value x c.args.b.now in
    asks_then (λ m. Names a) (λ m. Names b) (λ m. Names (λ x. a x || b x)) (g.V.View.seen c.args.view.now) (g.V.View.seen c.kind_of.new.view) (g.V.View.seen c.kind_of-2.new.view)
    c.in_ok-a.ensures.asks c.in_err-b.ensures.asks
    (λ m t f. names_more a (λ x. a x || b x) (λ x h. or_left (a x) (b x) h)) (λ m t f. names_more b (λ x. a x || b x) (λ x h. or_right (a x) (b x) h))

pub returns-clause-asks : goal.returns-clause-asks
returns-clause-asks g c =
    let a : Id → Bool = λ x. is_value x c.args.a.now in
    let b : Id → Bool = λ x. is_value x c.args.b.now in
    asks_then (λ m. Names a) (λ m. Names b) (λ m. Names (λ x. a x || b x)) (g.V.View.seen c.args.view.now) (g.V.View.seen c.kind_of.new.view) (g.V.View.seen c.kind_of-2.new.view)
    c.in_ok-a.ensures.asks c.in_ok-b.ensures.asks
    (λ m t f. names_more a (λ x. a x || b x) (λ x h. or_left (a x) (b x) h)) (λ m t f. names_more b (λ x. a x || b x) (λ x h. or_right (a x) (b x) h))
