use Rattle.std.proofs.Common.{◌≡◌, sym, ◌∙◌, Some, Bool}
use Rattle.ir_types.specs.declared.module.Module.{Module}
use Rattle.ir_types.specs.Formed.{IsFormed}
use Rattle.vx_view.specs.Addresses.{led_op}
use Rattle.vx_view.specs.Answers.{find}
use Rattle.vx_view.specs.Blocks.{block_at}
use Rattle.vx_view.specs.Views.{StandsFor}
use Rattle.vx_addr.specs.Parts.{as_offset, as_walked, IsPlain}
use Rattle.vx_addr.specs.Walks.{on_from, IsStep, Follows}
use Rattle.vx_addr.proofs.Lookups.{asks_named, if_ok}
use Rattle.vx_addr.proofs.Steps.{starts, followed, plain_of}
use Rattle.vx_addr.proofs.walk.Walk.step.Goals as goal

pub returns-in_err-inst-in-Val-clause-asks : goal.returns-in_err-inst-in-Val-clause-asks
returns-in_err-inst-in-Val-clause-asks g c =
    asks_named (λ m. on_from (block_at m c.args.place) (as_walked c.args.self.now)) c.in-Val.id (g.V.View.seen c.args.view.now) (g.V.View.seen c.definition.new.view)
    c.in_err-inst-in-Val.ensures.asks (λ m t f. starts (block_at m c.args.place) c.in-Val.id (as_walked c.args.self.now) c.in-Val.is)

pub returns-in-Some-clause-is : goal.returns-in-Some-clause-is
returns-in-Some-clause-is g c =
    let inst = c.in-Some.inst in
    let old = as_walked c.args.self.now in
    let new = as_walked c.follow.new.self in
    let P : Bool → Type 0 = λ on. IsPlain inst → Follows (led_op inst.op inst.opds (as_offset c.args.self.now.offset)) old new on in
    let Q : Bool → Type 0 = λ on. (m : Module) → StandsFor (g.V.View.seen c.definition.new.view) m → IsFormed m → IsStep (block_at m c.args.place) old new on in
    if_ok c.follow.result P Q
    (λ on h m t f.
    let e : Some inst ≡ find c.in-Val.id (block_at m c.args.place) = sym c.in-Some.is ∙ c.in_ok-inst-in-Val.ensures.is m t f in
    followed (block_at m c.args.place) c.in-Val.id inst old new on c.in-Val.is e (h (plain_of m f c.args.place c.in-Val.id inst e)))
    c.follow.ensures.is

pub returns-in-Some-clause-asks : goal.returns-in-Some-clause-asks
returns-in-Some-clause-asks g c =
    asks_named (λ m. on_from (block_at m c.args.place) (as_walked c.args.self.now)) c.in-Val.id (g.V.View.seen c.args.view.now) (g.V.View.seen c.definition.new.view)
    c.in_ok-inst-in-Val.ensures.asks (λ m t f. starts (block_at m c.args.place) c.in-Val.id (as_walked c.args.self.now) c.in-Val.is)

pub returns-in-None-clause-asks : goal.returns-in-None-clause-asks
returns-in-None-clause-asks g c =
    asks_named (λ m. on_from (block_at m c.args.place) (as_walked c.args.self.now)) c.in-Val.id (g.V.View.seen c.args.view.now) (g.V.View.seen c.definition.new.view)
    c.in_ok-inst-in-Val.ensures.asks (λ m t f. starts (block_at m c.args.place) c.in-Val.id (as_walked c.args.self.now) c.in-Val.is)
