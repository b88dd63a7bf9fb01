use Rattle.std.proofs.Common.{◌≡◌, ◌∙◌, sym, inl, inr}
use Rattle.vx_view.specs.declared.question.Question.TheVariants as ask
use Rattle.vx_view.proofs.Asking.{asks_then, asks_more}
use Rattle.vx_deps.specs.Reach.{LooksAt}
use Rattle.vx_deps.proofs.Steps.{Backs, looked, looks}
use Rattle.vx_deps.proofs.trail.looked_at.Goals as goal

pub returns-in_err-ids-clause-asks : goal.returns-in_err-ids-clause-asks
returns-in_err-ids-clause-asks g c =
    let more = c.in_err-ids.ensures.asks in
    asks_then (λ m q. q ≡ ask.Inst c.args.store) (Backs c.args.store) (λ m. LooksAt m c.args.store) (g.V.View.seen c.args.view.now) (g.V.View.seen c.is_there.new.view) (g.V.View.seen c.back.new.view)
    c.in_ok-is_there.ensures.asks more (λ m t f q e. inl e)
    (λ m t f q b. inr (looks m f c.args.store (sym (c.in_ok-is_there.ensures.is m (more.narrows m t) f) ∙ c.if-not-branch.false) q b))

pub returns-clause-is : goal.returns-clause-is
returns-clause-is g c m t f =
    c.reversed.ensures
    ∙ looked m f c.args.store c.in_ok-ids.ids.items (sym (c.in_ok-is_there.ensures.is m (c.in_ok-ids.ensures.asks.narrows m t) f) ∙ c.if-not-branch.false) (c.in_ok-ids.ensures.is m t f)

pub returns-clause-asks : goal.returns-clause-asks
returns-clause-asks g c =
    let more = c.in_ok-ids.ensures.asks in
    asks_then (λ m q. q ≡ ask.Inst c.args.store) (Backs c.args.store) (λ m. LooksAt m c.args.store) (g.V.View.seen c.args.view.now) (g.V.View.seen c.is_there.new.view) (g.V.View.seen c.back.new.view)
    c.in_ok-is_there.ensures.asks more (λ m t f q e. inl e)
    (λ m t f q b. inr (looks m f c.args.store (sym (c.in_ok-is_there.ensures.is m (more.narrows m t) f) ∙ c.if-not-branch.false) q b))

pub returns-in_err-is_there-clause-asks : goal.returns-in_err-is_there-clause-asks
returns-in_err-is_there-clause-asks g c =
    asks_more (λ m q. q ≡ ask.Inst c.args.store) (λ m. LooksAt m c.args.store) (g.V.View.seen c.args.view.now) (g.V.View.seen c.is_there.new.view)
    c.in_err-is_there.ensures.asks (λ m t f q e. inl e)

pub returns-then-not-branch-clause-asks : goal.returns-then-not-branch-clause-asks
returns-then-not-branch-clause-asks g c =
    asks_more (λ m q. q ≡ ask.Inst c.args.store) (λ m. LooksAt m c.args.store) (g.V.View.seen c.args.view.now) (g.V.View.seen c.is_there.new.view)
    c.in_ok-is_there.ensures.asks (λ m t f q e. inl e)
