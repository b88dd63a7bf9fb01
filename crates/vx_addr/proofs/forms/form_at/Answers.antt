use Rattle.std.proofs.Common.{◌∙◌}
use Rattle.ir_types.specs.declared.opd.Opd.{Opd}
use Rattle.ir_types.specs.declared.module.Module.{Module}
use Rattle.vx_view.specs.declared.question.Question.{Question}
use Rattle.vx_view.specs.Blocks.{block_at}
use Rattle.vx_view.proofs.Asking.{asks_then, asks_more}
use Rattle.vx_addr.specs.Parts.{as_walked, as_form}
use Rattle.vx_addr.specs.Walks.{Names, on_from, on_rest, on_walks, first}
use Rattle.vx_addr.proofs.Lookups.{names_more}
use Rattle.vx_addr.proofs.Steps.{pointers_on, sums_on, form_is}
use Rattle.vx_addr.proofs.forms.form_at.Goals as goal

pub returns-in_err-walk-clause-asks : goal.returns-in_err-walk-clause-asks
returns-in_err-walk-clause-asks g c =
    let copy : Opd = c.in_ok-try_clone.field-0 in
    let P : Module → Question → Type 0 = λ m. Names (on_from (block_at m c.args.place) (first copy)) in
    let R : Module → Question → Type 0 = λ m. Names (on_walks (block_at m c.args.place) c.args.pointer.now) in
    asks_more P R (g.V.View.seen c.args.view.now) (g.V.View.seen c.pointers.new.view) c.in_err-walk.ensures.asks
    (λ m t f.
    names_more (on_from (block_at m c.args.place) (first copy)) (on_walks (block_at m c.args.place) c.args.pointer.now)
    (pointers_on (block_at m c.args.place) c.args.pointer.now copy c.in_ok-try_clone.ensures))

pub returns-in_err-walk-2-clause-asks : goal.returns-in_err-walk-2-clause-asks
returns-in_err-walk-2-clause-asks g c =
    let copy : Opd = c.in_ok-try_clone.field-0 in
    let P : Module → Question → Type 0 = λ m. Names (on_from (block_at m c.args.place) (first copy)) in
    let Q : Module → Question → Type 0 = λ m. Names (on_rest (block_at m c.args.place) (as_walked c.in_ok-walk.walk)) in
    let R : Module → Question → Type 0 = λ m. Names (on_walks (block_at m c.args.place) c.args.pointer.now) in
    let more = c.in_err-walk-2.ensures.asks in
    asks_then P Q R (g.V.View.seen c.args.view.now) (g.V.View.seen c.pointers.new.view) (g.V.View.seen c.sums.new.view) c.in_ok-walk.ensures.asks more
    (λ m t f.
    names_more (on_from (block_at m c.args.place) (first copy)) (on_walks (block_at m c.args.place) c.args.pointer.now)
    (pointers_on (block_at m c.args.place) c.args.pointer.now copy c.in_ok-try_clone.ensures))
    (λ m t f.
    names_more (on_rest (block_at m c.args.place) (as_walked c.in_ok-walk.walk)) (on_walks (block_at m c.args.place) c.args.pointer.now)
    (sums_on (block_at m c.args.place) c.args.pointer.now copy c.in_ok-try_clone.ensures (as_walked c.in_ok-walk.walk) (c.in_ok-walk.ensures.is m (more.narrows m t) f)))

pub returns-clause-is : goal.returns-clause-is
returns-clause-is g c m t f =
    form_is (block_at m c.args.place) c.args.pointer.now c.in_ok-try_clone.field-0 c.in_ok-try_clone.ensures (as_walked c.in_ok-walk.walk) (as_form c.form_there.result)
    (c.in_ok-walk.ensures.is m (c.in_ok-walk-2.ensures.asks.narrows m t) f) (c.form_there.ensures ∙ c.in_ok-walk-2.ensures.is m t f)

pub returns-clause-asks : goal.returns-clause-asks
returns-clause-asks g c =
    let copy : Opd = c.in_ok-try_clone.field-0 in
    let P : Module → Question → Type 0 = λ m. Names (on_from (block_at m c.args.place) (first copy)) in
    let Q : Module → Question → Type 0 = λ m. Names (on_rest (block_at m c.args.place) (as_walked c.in_ok-walk.walk)) in
    let R : Module → Question → Type 0 = λ m. Names (on_walks (block_at m c.args.place) c.args.pointer.now) in
    let more = c.in_ok-walk-2.ensures.asks in
    asks_then P Q R (g.V.View.seen c.args.view.now) (g.V.View.seen c.pointers.new.view) (g.V.View.seen c.sums.new.view) c.in_ok-walk.ensures.asks more
    (λ m t f.
    names_more (on_from (block_at m c.args.place) (first copy)) (on_walks (block_at m c.args.place) c.args.pointer.now)
    (pointers_on (block_at m c.args.place) c.args.pointer.now copy c.in_ok-try_clone.ensures))
    (λ m t f.
    names_more (on_rest (block_at m c.args.place) (as_walked c.in_ok-walk.walk)) (on_walks (block_at m c.args.place) c.args.pointer.now)
    (sums_on (block_at m c.args.place) c.args.pointer.now copy c.in_ok-try_clone.ensures (as_walked c.in_ok-walk.walk) (c.in_ok-walk.ensures.is m (more.narrows m t) f)))
