use Rattle.std.proofs.Common.{◌∙◌, sym, ap, Bool}
use Rattle.ir_types.specs.declared.id.Id.{Id}
use Rattle.ir_types.specs.declared.module.Module.{Module}
use Rattle.vx_view.specs.Addresses.{Form}
use Rattle.vx_view.specs.Answers.{is_value}
use Rattle.vx_view.specs.Blocks.{block_at}
use Rattle.vx_view.proofs.Asking.{asks_then}
use Rattle.vx_addr.specs.Walks.{Names, on_walks}
use Rattle.vx_addr.proofs.Lookups.{names_more}
use Rattle.vx_addr.proofs.Steps.{root_on}
use Rattle.vx_addr.proofs.effects.touch.Goals as goal

pub returns-in_err-kind-clause-asks : goal.returns-in_err-kind-clause-asks
returns-in_err-kind-clause-asks g c =
    let walks : Module → Id → Bool = λ m. on_walks (block_at m c.args.place) c.args.access.now.pointer.now in
    let root : Id → Bool = λ x. is_value x c.in_ok-form.form.root in
    let kind = c.in_err-kind.ensures.asks in
    asks_then (λ m. Names (walks m)) (λ m. Names root) (λ m. Names (walks m)) (g.V.View.seen c.args.view.now) (g.V.View.seen c.form_at.new.view) (g.V.View.seen c.kind_of.new.view)
    c.in_ok-form.ensures.asks kind (λ m t f q n. n)
    (λ m t f.
    names_more root (walks m)
    (λ x h. root_on (block_at m c.args.place) c.args.access.now.pointer.now x (ap (λ (k : Form). is_value x k.root) (sym (c.in_ok-form.ensures.is m (kind.narrows m t) f)) ∙ h)))

pub returns-clause-asks : goal.returns-clause-asks
returns-clause-asks g c =
    let walks : Module → Id → Bool = λ m. on_walks (block_at m c.args.place) c.args.access.now.pointer.now in
    let root : Id → Bool = λ x. is_value x c.in_ok-form.form.root in
    let kind = c.in_ok-kind.ensures.asks in
    asks_then (λ m. Names (walks m)) (λ m. Names root) (λ m. Names (walks m)) (g.V.View.seen c.args.view.now) (g.V.View.seen c.form_at.new.view) (g.V.View.seen c.kind_of.new.view)
    c.in_ok-form.ensures.asks kind (λ m t f q n. n)
    (λ m t f.
    names_more root (walks m)
    (λ x h. root_on (block_at m c.args.place) c.args.access.now.pointer.now x (ap (λ (k : Form). is_value x k.root) (sym (c.in_ok-form.ensures.is m (kind.narrows m t) f)) ∙ h)))
