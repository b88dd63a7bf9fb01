use Rattle.std.proofs.Common.{subst}
use Rattle.vx_view.specs.Blocks.{block_at}
use Rattle.vx_view.proofs.Asking.{asks_then}
use Rattle.vx_deps.specs.Trails.{NamesBack, IsStep}
use Rattle.vx_deps.proofs.Steps.{Backs, asks_back, leads_on, led}
use Rattle.vx_deps.proofs.trail.back.Goals as goal

pub returns-in_err-step-clause-asks : goal.returns-in_err-step-clause-asks
returns-in_err-step-clause-asks g c =
    asks_then (Backs c.args.id) (λ m. NamesBack c.loop-trail.trail) (Backs c.args.id) (g.V.View.seen c.args.view.now) (g.V.View.seen c.loop-trail.view) (g.V.View.seen c.step.new.view)
    c.loop-trail.invariant.asks c.in_err-step.ensures.asks (λ m t f q n. n)
    (λ m t f. asks_back c.args.id m c.loop-trail.trail (c.loop-trail.invariant.leads m (c.in_err-step.ensures.asks.narrows m t) f))

pub loop-trail-preserved : goal.loop-trail-preserved
loop-trail-preserved g c =
    let step = c.in_ok-step.ensures.asks in
    record {
      asks =
          asks_then (Backs c.args.id) (λ m. NamesBack c.loop-trail.trail) (Backs c.args.id) (g.V.View.seen c.args.view.now) (g.V.View.seen c.loop-trail.view) (g.V.View.seen c.step.new.view)
          c.loop-trail.invariant.asks step (λ m t f q n. n)
          (λ m t f. asks_back c.args.id m c.loop-trail.trail (c.loop-trail.invariant.leads m (step.narrows m t) f));
      leads = λ m t f.
          leads_on c.args.id m c.loop-trail.trail c.step.new.self (c.loop-trail.invariant.leads m (step.narrows m t) f)
          (λ place h. subst (λ on. IsStep (block_at m place) c.loop-trail.trail c.step.new.self on) c.if-branch.true (c.in_ok-step.ensures.is m t f place h));
    }

pub returns-clause-is : goal.returns-clause-is
returns-clause-is g c m t f =
    let step = c.in_ok-step.ensures.asks in
    led c.args.id m c.loop-trail.trail c.step.new.self (c.loop-trail.invariant.leads m (step.narrows m t) f)
    (λ place h. subst (λ on. IsStep (block_at m place) c.loop-trail.trail c.step.new.self on) c.if-branch.false (c.in_ok-step.ensures.is m t f place h))

pub returns-clause-asks : goal.returns-clause-asks
returns-clause-asks g c =
    let step = c.in_ok-step.ensures.asks in
    asks_then (Backs c.args.id) (λ m. NamesBack c.loop-trail.trail) (Backs c.args.id) (g.V.View.seen c.args.view.now) (g.V.View.seen c.loop-trail.view) (g.V.View.seen c.step.new.view)
    c.loop-trail.invariant.asks step (λ m t f q n. n)
    (λ m t f. asks_back c.args.id m c.loop-trail.trail (c.loop-trail.invariant.leads m (step.narrows m t) f))
