use Rattle.std.proofs.Common.{◌≡◌, subst, Some}
use Rattle.vx_view.specs.declared.question.Question.TheVariants as ask
use Rattle.vx_view.specs.Blocks.{block_at}
use Rattle.vx_view.proofs.Asking.{asks_more}
use Rattle.vx_deps.specs.Reach.{IsIn}
use Rattle.vx_deps.specs.Trails.{NamesBack}
use Rattle.vx_deps.proofs.Standings.{block_once}
use Rattle.vx_deps.proofs.Steps.{stepped, some_left}
use Rattle.vx_deps.proofs.trail.Trail.step.Goals as goal

pub returns-in_err-before-in-Some-clause-asks : goal.returns-in_err-before-in-Some-clause-asks
returns-in_err-before-in-Some-clause-asks g c =
    asks_more (λ m q. q ≡ ask.Prev c.in-Some.id) (λ m. NamesBack c.args.self.now) (g.V.View.seen c.args.view.now) (g.V.View.seen c.before-in-Some.new.view) c.in_err-before-in-Some.ensures.asks
    (λ m t f q e. (c.in-Some.id, e, c.in-Some.is, some_left c.args.self.now.left c.if-self-gt0.true))

pub returns-in_err-pass-in-Some-clause-asks : goal.returns-in_err-pass-in-Some-clause-asks
returns-in_err-pass-in-Some-clause-asks g c =
    asks_more (λ m q. q ≡ ask.Prev c.in-Some.id) (λ m. NamesBack c.args.self.now) (g.V.View.seen c.args.view.now) (g.V.View.seen c.before-in-Some.new.view) c.in_ok-before-in-Some.ensures.asks
    (λ m t f q e. (c.in-Some.id, e, c.in-Some.is, some_left c.args.self.now.left c.if-self-gt0.true))

pub returns-in_ok-pass-in-Some-clause-is : goal.returns-in_ok-pass-in-Some-clause-is
returns-in_ok-pass-in-Some-clause-is g c m t f place h =
    let there : IsIn (block_at m place) (Some c.in-Some.id) = subst (IsIn (block_at m place)) c.in-Some.is h in
    stepped (block_at m place) c.in-Some.id c.in_ok-before-in-Some.before c.args.self.now c.pass.new.self (block_once m f place) c.in-Some.is there
    (c.in_ok-before-in-Some.ensures.is m t f place there) c.in_ok-pass-in-Some.ensures

pub returns-in_ok-pass-in-Some-clause-asks : goal.returns-in_ok-pass-in-Some-clause-asks
returns-in_ok-pass-in-Some-clause-asks g c =
    asks_more (λ m q. q ≡ ask.Prev c.in-Some.id) (λ m. NamesBack c.args.self.now) (g.V.View.seen c.args.view.now) (g.V.View.seen c.before-in-Some.new.view) c.in_ok-before-in-Some.ensures.asks
    (λ m t f q e. (c.in-Some.id, e, c.in-Some.is, some_left c.args.self.now.left c.if-self-gt0.true))
