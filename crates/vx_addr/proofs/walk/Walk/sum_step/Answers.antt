use Rattle.std.proofs.Common.{◌≡◌, sym, ◌∙◌, Some}
use Rattle.vx_view.specs.Answers.{find}
use Rattle.vx_view.specs.Blocks.{block_at}
use Rattle.vx_addr.specs.Parts.{as_walked}
use Rattle.vx_addr.specs.Walks.{on_rest}
use Rattle.vx_addr.proofs.Lookups.{asks_named}
use Rattle.vx_addr.proofs.Steps.{sum_starts, sum_followed}
use Rattle.vx_addr.proofs.walk.Walk.sum_step.Goals as goal

pub returns-in_err-inst-in-Some-clause-asks : goal.returns-in_err-inst-in-Some-clause-asks
returns-in_err-inst-in-Some-clause-asks g c =
    asks_named (λ m. on_rest (block_at m c.args.place) (as_walked c.args.self.now)) c.in-Some.id (g.V.View.seen c.args.view.now) (g.V.View.seen c.definition.new.view)
    c.in_err-inst-in-Some.ensures.asks (λ m t f. sum_starts (block_at m c.args.place) c.in-Some.id c.in-Some.scale (as_walked c.args.self.now) c.in-Some.is)

pub returns-in-Some-2-clause-is : goal.returns-in-Some-2-clause-is
returns-in-Some-2-clause-is g c m t f =
    let e : Some c.in-Some-2.inst ≡ find c.in-Some.id (block_at m c.args.place) = sym c.in-Some-2.is ∙ c.in_ok-inst-in-Some.ensures.is m t f in
    sum_followed (block_at m c.args.place) c.in-Some.id c.in-Some.scale c.in-Some-2.inst (as_walked c.args.self.now) (as_walked c.follow_sum.new.self) c.follow_sum.result
    c.in-Some.is e c.follow_sum.ensures.is

pub returns-in-Some-2-clause-asks : goal.returns-in-Some-2-clause-asks
returns-in-Some-2-clause-asks g c =
    asks_named (λ m. on_rest (block_at m c.args.place) (as_walked c.args.self.now)) c.in-Some.id (g.V.View.seen c.args.view.now) (g.V.View.seen c.definition.new.view)
    c.in_ok-inst-in-Some.ensures.asks (λ m t f. sum_starts (block_at m c.args.place) c.in-Some.id c.in-Some.scale (as_walked c.args.self.now) c.in-Some.is)

pub returns-in-None-clause-asks : goal.returns-in-None-clause-asks
returns-in-None-clause-asks g c =
    asks_named (λ m. on_rest (block_at m c.args.place) (as_walked c.args.self.now)) c.in-Some.id (g.V.View.seen c.args.view.now) (g.V.View.seen c.definition.new.view)
    c.in_ok-inst-in-Some.ensures.asks (λ m t f. sum_starts (block_at m c.args.place) c.in-Some.id c.in-Some.scale (as_walked c.args.self.now) c.in-Some.is)
