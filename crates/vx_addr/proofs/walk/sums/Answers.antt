use Rattle.std.proofs.Common.{subst}
use Rattle.ir_types.specs.declared.module.Module.{Module}
use Rattle.vx_view.specs.declared.question.Question.{Question}
use Rattle.vx_view.specs.Blocks.{block_at}
use Rattle.vx_view.proofs.Asking.{asks_then}
use Rattle.vx_addr.specs.Parts.{as_walked}
use Rattle.vx_addr.specs.Walks.{Names, on_rest, IsSumStep}
use Rattle.vx_addr.proofs.Lookups.{names_more}
use Rattle.vx_addr.proofs.Steps.{sum_leads_on}
use Rattle.vx_addr.proofs.walk.sums.Goals as goal

pub returns-in_err-sum_step-clause-asks : goal.returns-in_err-sum_step-clause-asks
returns-in_err-sum_step-clause-asks g c =
    let P : Module → Question → Type 0 = λ m. Names (on_rest (block_at m c.args.place) (as_walked c.args.walk)) in
    let Q : Module → Question → Type 0 = λ m. Names (on_rest (block_at m c.args.place) (as_walked c.loop-walk.walk)) in
    let step = c.in_err-sum_step.ensures.asks in
    asks_then P Q P (g.V.View.seen c.args.view.now) (g.V.View.seen c.loop-walk.view) (g.V.View.seen c.sum_step.new.view) c.loop-walk.invariant.asks step (λ m t f q n. n)
    (λ m t f.
    names_more (on_rest (block_at m c.args.place) (as_walked c.loop-walk.walk)) (on_rest (block_at m c.args.place) (as_walked c.args.walk))
    (c.loop-walk.invariant.leads m (step.narrows m t) f).1)

pub loop-walk-preserved : goal.loop-walk-preserved
loop-walk-preserved g c =
    let P : Module → Question → Type 0 = λ m. Names (on_rest (block_at m c.args.place) (as_walked c.args.walk)) in
    let Q : Module → Question → Type 0 = λ m. Names (on_rest (block_at m c.args.place) (as_walked c.loop-walk.walk)) in
    let step = c.in_ok-sum_step.ensures.asks in
    record {
      asks =
          asks_then P Q P (g.V.View.seen c.args.view.now) (g.V.View.seen c.loop-walk.view) (g.V.View.seen c.sum_step.new.view) c.loop-walk.invariant.asks step (λ m t f q n. n)
          (λ m t f.
          names_more (on_rest (block_at m c.args.place) (as_walked c.loop-walk.walk)) (on_rest (block_at m c.args.place) (as_walked c.args.walk))
          (c.loop-walk.invariant.leads m (step.narrows m t) f).1);
      leads = λ m t f.
          sum_leads_on (block_at m c.args.place) (as_walked c.args.walk) (as_walked c.loop-walk.walk) (as_walked c.sum_step.new.self) (c.loop-walk.invariant.leads m (step.narrows m t) f)
          (subst (λ on. IsSumStep (block_at m c.args.place) (as_walked c.loop-walk.walk) (as_walked c.sum_step.new.self) on) c.if-branch.true (c.in_ok-sum_step.ensures.is m t f));
    }

pub returns-clause-asks : goal.returns-clause-asks
returns-clause-asks g c =
    let P : Module → Question → Type 0 = λ m. Names (on_rest (block_at m c.args.place) (as_walked c.args.walk)) in
    let Q : Module → Question → Type 0 = λ m. Names (on_rest (block_at m c.args.place) (as_walked c.loop-walk.walk)) in
    let step = c.in_ok-sum_step.ensures.asks in
    asks_then P Q P (g.V.View.seen c.args.view.now) (g.V.View.seen c.loop-walk.view) (g.V.View.seen c.sum_step.new.view) c.loop-walk.invariant.asks step (λ m t f q n. n)
    (λ m t f.
    names_more (on_rest (block_at m c.args.place) (as_walked c.loop-walk.walk)) (on_rest (block_at m c.args.place) (as_walked c.args.walk))
    (c.loop-walk.invariant.leads m (step.narrows m t) f).1)
