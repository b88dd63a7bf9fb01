use Rattle.std.proofs.Common.{◌∙◌, ap, ◌||◌, Bool}
use Rattle.ir_types.specs.declared.id.Id.{Id}
use Rattle.ir_types.specs.declared.module.Module.{Module}
use Rattle.vx_view.specs.declared.question.Question.{Question}
use Rattle.vx_view.specs.Answers.{is_value}
use Rattle.vx_view.specs.Addresses.{form_in}
use Rattle.vx_view.specs.Conflicts.{is_apart}
use Rattle.vx_view.specs.Blocks.{block_at}
use Rattle.vx_view.specs.Views.{Asks}
use Rattle.vx_view.proofs.Asking.{asks_then, asks_more}
use Rattle.vx_addr.specs.Parts.{as_form}
use Rattle.vx_addr.specs.Walks.{Names, on_walks}
use Rattle.vx_addr.proofs.Lookups.{names_more}
use Rattle.vx_addr.proofs.Steps.{or_left, or_right, roots_on}
use Rattle.vx_addr.proofs.conflicts.accesses_apart.Goals as goal

pub returns-in_err-one-clause-asks : goal.returns-in_err-one-clause-asks
returns-in_err-one-clause-asks g c =
    let a : Module → Id → Bool = λ m. on_walks (block_at m c.args.place) c.args.a.now.pointer.now in
    let b : Module → Id → Bool = λ m. on_walks (block_at m c.args.place) c.args.b.now.pointer.now in
    let R : Module → Question → Type 0 = λ m. Names (λ x. a m x || b m x) in
    asks_more (λ m. Names (a m)) R (g.V.View.seen c.args.view.now) (g.V.View.seen c.form_at.new.view) c.in_err-one.ensures.asks
    (λ m t f. names_more (a m) (λ x. a m x || b m x) (λ x h. or_left (a m x) (b m x) h))

pub returns-in_err-other-clause-asks : goal.returns-in_err-other-clause-asks
returns-in_err-other-clause-asks g c =
    let a : Module → Id → Bool = λ m. on_walks (block_at m c.args.place) c.args.a.now.pointer.now in
    let b : Module → Id → Bool = λ m. on_walks (block_at m c.args.place) c.args.b.now.pointer.now in
    let R : Module → Question → Type 0 = λ m. Names (λ x. a m x || b m x) in
    asks_then (λ m. Names (a m)) (λ m. Names (b m)) R (g.V.View.seen c.args.view.now) (g.V.View.seen c.form_at.new.view) (g.V.View.seen c.form_at-2.new.view)
    c.in_ok-one.ensures.asks c.in_err-other.ensures.asks
    (λ m t f. names_more (a m) (λ x. a m x || b m x) (λ x h. or_left (a m x) (b m x) h))
    (λ m t f. names_more (b m) (λ x. a m x || b m x) (λ x h. or_right (a m x) (b m x) h))

pub returns-in_err-apart-clause-asks : goal.returns-in_err-apart-clause-asks
returns-in_err-apart-clause-asks g c =
    let a : Module → Id → Bool = λ m. on_walks (block_at m c.args.place) c.args.a.now.pointer.now in
    let b : Module → Id → Bool = λ m. on_walks (block_at m c.args.place) c.args.b.now.pointer.now in
    let R : Module → Question → Type 0 = λ m. Names (λ x. a m x || b m x) in
    let roots : Id → Bool = λ x. is_value x c.in_ok-one.one.root || is_value x c.in_ok-other.other.root in
    let walks : Asks R (g.V.View.seen c.args.view.now) (g.V.View.seen c.form_at-2.new.view) =
    asks_then (λ m. Names (a m)) (λ m. Names (b m)) R (g.V.View.seen c.args.view.now) (g.V.View.seen c.form_at.new.view) (g.V.View.seen c.form_at-2.new.view)
    c.in_ok-one.ensures.asks c.in_ok-other.ensures.asks
    (λ m t f. names_more (a m) (λ x. a m x || b m x) (λ x h. or_left (a m x) (b m x) h))
    (λ m t f. names_more (b m) (λ x. a m x || b m x) (λ x h. or_right (a m x) (b m x) h))
    in
    asks_then R (λ m. Names roots) R (g.V.View.seen c.args.view.now) (g.V.View.seen c.form_at-2.new.view) (g.V.View.seen c.is_apart.new.view) walks c.in_err-apart.ensures.asks (λ m t f q n. n)
    (λ m t f.
    let before = c.in_err-apart.ensures.asks.narrows m t in
    names_more roots (λ x. a m x || b m x)
    (roots_on (block_at m c.args.place) c.args.a.now.pointer.now c.args.b.now.pointer.now (as_form c.in_ok-one.one) (as_form c.in_ok-other.other)
    (c.in_ok-one.ensures.is m (c.in_ok-other.ensures.asks.narrows m before) f) (c.in_ok-other.ensures.is m before f)))

pub returns-clause-is : goal.returns-clause-is
returns-clause-is g c m t f =
    let before = c.in_ok-apart.ensures.asks.narrows m t in
    c.in_ok-apart.ensures.is m t
    ∙ ap (λ u. is_apart m u c.args.a.now.size (as_form c.in_ok-other.other) c.args.b.now.size) (c.in_ok-one.ensures.is m (c.in_ok-other.ensures.asks.narrows m before) f)
    ∙ ap (λ u. is_apart m (form_in (block_at m c.args.place) c.args.a.now.pointer.now) c.args.a.now.size u c.args.b.now.size) (c.in_ok-other.ensures.is m before f)

pub returns-clause-asks : goal.returns-clause-asks
returns-clause-asks g c =
    let a : Module → Id → Bool = λ m. on_walks (block_at m c.args.place) c.args.a.now.pointer.now in
    let b : Module → Id → Bool = λ m. on_walks (block_at m c.args.place) c.args.b.now.pointer.now in
    let R : Module → Question → Type 0 = λ m. Names (λ x. a m x || b m x) in
    let roots : Id → Bool = λ x. is_value x c.in_ok-one.one.root || is_value x c.in_ok-other.other.root in
    let walks : Asks R (g.V.View.seen c.args.view.now) (g.V.View.seen c.form_at-2.new.view) =
    asks_then (λ m. Names (a m)) (λ m. Names (b m)) R (g.V.View.seen c.args.view.now) (g.V.View.seen c.form_at.new.view) (g.V.View.seen c.form_at-2.new.view)
    c.in_ok-one.ensures.asks c.in_ok-other.ensures.asks
    (λ m t f. names_more (a m) (λ x. a m x || b m x) (λ x h. or_left (a m x) (b m x) h))
    (λ m t f. names_more (b m) (λ x. a m x || b m x) (λ x h. or_right (a m x) (b m x) h))
    in
    asks_then R (λ m. Names roots) R (g.V.View.seen c.args.view.now) (g.V.View.seen c.form_at-2.new.view) (g.V.View.seen c.is_apart.new.view) walks c.in_ok-apart.ensures.asks (λ m t f q n. n)
    (λ m t f.
    let before = c.in_ok-apart.ensures.asks.narrows m t in
    names_more roots (λ x. a m x || b m x)
    (roots_on (block_at m c.args.place) c.args.a.now.pointer.now c.args.b.now.pointer.now (as_form c.in_ok-one.one) (as_form c.in_ok-other.other)
    (c.in_ok-one.ensures.is m (c.in_ok-other.ensures.asks.narrows m before) f) (c.in_ok-other.ensures.is m before f)))
