use Rattle.std.proofs.Common.{◌≡◌, ◌∙◌, sym, ap, Bool, option_map}
use Rattle.ir_types.specs.declared.id.Id.{Id}
use Rattle.ir_types.specs.declared.module.Module.{Module}
use Rattle.ir_types.specs.Available.{same_id}
use Rattle.ir_types.specs.Formed.{IsFormed}
use Rattle.ir_types.proofs.Among.{same_itself}
use Rattle.vx_view.specs.declared.question.Question.TheVariants as ask
use Rattle.vx_view.specs.Addresses.{form, form_in, block_of}
use Rattle.vx_view.specs.Answers.{found}
use Rattle.vx_view.specs.Blocks.{block_at}
use Rattle.vx_view.specs.Views.{StandsFor}
use Rattle.vx_view.proofs.Asking.{asks_then}
use Rattle.vx_addr.specs.declared.address.Form.{Form}
use Rattle.vx_addr.specs.Parts.{as_form, only_place}
use Rattle.vx_addr.specs.Walks.{Names, on_walks, form_names, bare}
use Rattle.vx_addr.proofs.Lookups.{asks_named, names_one, names_more, if_ok}
use Rattle.vx_addr.proofs.Pairs.{placed_form, placed_names, bare_form}
use Rattle.vx_addr.proofs.Steps.{or_left}
use Rattle.vx_addr.proofs.forms.form.Goals as goal

pub returns-in_err-found-clause-asks : goal.returns-in_err-found-clause-asks
returns-in_err-found-clause-asks g c =
    asks_named (λ m. form_names m c.args.user c.args.pointer.now) c.args.user (g.V.View.seen c.args.view.now) (g.V.View.seen c.standing.new.view) c.in_err-found.ensures.asks
    (λ m t f. or_left (same_id c.args.user c.args.user) (on_walks (block_of (found m c.args.user)) c.args.pointer.now c.args.user) (same_itself c.args.user))

pub returns-in-Some-clause-is : goal.returns-in-Some-clause-is
returns-in-Some-clause-is g c =
    let P : Form → Type 0 = λ r. (m : Module) → StandsFor (g.V.View.seen c.form_at.new.view) m → IsFormed m → as_form r ≡ form_in (block_at m c.in-Some.place) c.args.pointer.now in
    let Q : Form → Type 0 = λ r. (m : Module) → StandsFor (g.V.View.seen c.form_at.new.view) m → IsFormed m → as_form r ≡ form m c.args.user c.args.pointer.now in
    if_ok c.form_at.result P Q
    (λ r h m t f.
    placed_form m c.args.user c.args.pointer.now c.in-Some.place
    (sym c.in-Some.is ∙ c.only_place.ensures ∙ ap (option_map only_place) (c.in_ok-found.ensures.is m (c.form_at.ensures.asks.narrows m t) f)) (as_form r) (h m t f))
    c.form_at.ensures.is

pub returns-in-Some-clause-asks : goal.returns-in-Some-clause-asks
returns-in-Some-clause-asks g c =
    let walks : Module → Id → Bool = λ m. on_walks (block_at m c.in-Some.place) c.args.pointer.now in
    asks_then (λ m q. q ≡ ask.Inst c.args.user) (λ m. Names (walks m)) (λ m. Names (form_names m c.args.user c.args.pointer.now))
    (g.V.View.seen c.args.view.now) (g.V.View.seen c.standing.new.view) (g.V.View.seen c.form_at.new.view) c.in_ok-found.ensures.asks c.form_at.ensures.asks
    (λ m t f.
    names_one (form_names m c.args.user c.args.pointer.now) c.args.user
    (or_left (same_id c.args.user c.args.user) (on_walks (block_of (found m c.args.user)) c.args.pointer.now c.args.user) (same_itself c.args.user)))
    (λ m t f.
    names_more (walks m) (form_names m c.args.user c.args.pointer.now)
    (placed_names m c.args.user c.args.pointer.now c.in-Some.place
    (sym c.in-Some.is ∙ c.only_place.ensures ∙ ap (option_map only_place) (c.in_ok-found.ensures.is m (c.form_at.ensures.asks.narrows m t) f))))

pub returns-in-None-clause-is : goal.returns-in-None-clause-is
returns-in-None-clause-is g c =
    let P : Form → Type 0 = λ r. as_form r ≡ bare c.args.pointer.now in
    let Q : Form → Type 0 = λ r. (m : Module) → StandsFor (g.V.View.seen c.standing.new.view) m → IsFormed m → as_form r ≡ form m c.args.user c.args.pointer.now in
    if_ok c.form_alone.result P Q
    (λ r h m t f.
    bare_form m c.args.user c.args.pointer.now
    (sym c.in-None.is ∙ c.only_place.ensures ∙ ap (option_map only_place) (c.in_ok-found.ensures.is m t f)) (as_form r) h)
    c.form_alone.ensures

pub returns-in-None-clause-asks : goal.returns-in-None-clause-asks
returns-in-None-clause-asks g c =
    asks_named (λ m. form_names m c.args.user c.args.pointer.now) c.args.user (g.V.View.seen c.args.view.now) (g.V.View.seen c.standing.new.view) c.in_ok-found.ensures.asks
    (λ m t f. or_left (same_id c.args.user c.args.user) (on_walks (block_of (found m c.args.user)) c.args.pointer.now c.args.user) (same_itself c.args.user))
