use Rattle.std.proofs.Common.{◌∙◌, sym, ap, Bool}
use Rattle.ir_types.specs.declared.id.Id.{Id}
use Rattle.ir_types.specs.declared.module.Module.{Module}
use Rattle.vx_view.specs.Blocks.{block_at}
use Rattle.vx_view.specs.Conflicts.{access_of}
use Rattle.vx_view.proofs.Asking.{asks_more}
use Rattle.vx_addr.specs.Walks.{Names, on_walks, on_access}
use Rattle.vx_addr.proofs.Lookups.{names_more}
use Rattle.vx_addr.proofs.effects.touch_of.Goals as goal

pub returns-in_err-touch-in-Some-clause-asks : goal.returns-in_err-touch-in-Some-clause-asks
returns-in_err-touch-in-Some-clause-asks g c =
    let walks : Module → Id → Bool = λ m. on_walks (block_at m c.args.place) c.in-Some.access.pointer.now in
    let on : Module → Id → Bool = λ m. on_access (block_at m c.args.place) (access_of c.args.inst.now) in
    asks_more (λ m. Names (walks m)) (λ m. Names (on m)) (g.V.View.seen c.args.view.now) (g.V.View.seen c.touch.new.view) c.in_err-touch-in-Some.ensures.asks
    (λ m t f. names_more (walks m) (on m) (λ x h. ap (λ u. on_access (block_at m c.args.place) u x) (sym c.in-Some.ensures) ∙ h))

pub returns-in_ok-touch-in-Some-clause-asks : goal.returns-in_ok-touch-in-Some-clause-asks
returns-in_ok-touch-in-Some-clause-asks g c =
    let walks : Module → Id → Bool = λ m. on_walks (block_at m c.args.place) c.in-Some.access.pointer.now in
    let on : Module → Id → Bool = λ m. on_access (block_at m c.args.place) (access_of c.args.inst.now) in
    asks_more (λ m. Names (walks m)) (λ m. Names (on m)) (g.V.View.seen c.args.view.now) (g.V.View.seen c.touch.new.view) c.in_ok-touch-in-Some.ensures.asks
    (λ m t f. names_more (walks m) (on m) (λ x h. ap (λ u. on_access (block_at m c.args.place) u x) (sym c.in-Some.ensures) ∙ h))
