use Rattle.std.proofs.Common.{◌≡◌, ◌∙◌, sym, ap, subst, List, Some}
use Rattle.ir_types.specs.declared.id.Id.{Id}
use Rattle.ir_types.specs.declared.module.Module.{Module}
use Rattle.ir_types.specs.Formed.{IsFormed}
use Rattle.vx_view.specs.UsesAfter.{Contents}
use Rattle.vx_view.specs.Views.{StandsFor}
use Rattle.vx_addr.proofs.Lookups.{if_ok}
use Rattle.vx_deps.specs.Graphs.{Kept, held, ids_of, keeps}
use Rattle.vx_deps.specs.Orders.{from_member, window_ids, order}
use Rattle.vx_deps.specs.Cycles.{Refuses}
use Rattle.vx_deps.specs.Ordered.{FollowOn, order_over, RefusesIn}
use Rattle.vx_deps.proofs.Following.{follow_window, reach_follows}
use Rattle.vx_deps.proofs.Orders.{right_once}
use Rattle.vx_deps.proofs.Telling.{bundles_held, order_is, refusal_in, if_err}
use Rattle.vx_deps.proofs.ordering.order.Goals as goal

pub grown-requires-clause-row : goal.grown-requires-clause-row
grown-requires-clause-row g c =
    let ids : List Id = c.args.reach.now in
    let bundles : List (List Id) = c.args.bundles.now in
    let window : c.from_member-window.result.now ≡ from_member bundles ids =
    c.from_member-window.ensures ∙ ap (λ b. from_member b c.as_slice.result.now) c.as_slice-2.ensures ∙ ap (from_member bundles) c.as_slice.ensures
    in
    let own : Module = (g.V.View.seen c.args.view.now).contents.own in
    let stores = c.requires.reach in
    subst (FollowOn own) (sym window) (follow_window own bundles ids (reach_follows own c.requires.formed stores.0 ids (stores.1 own c.requires.own c.requires.formed)))

pub order-requires-clause-once : goal.order-requires-clause-once
order-requires-clause-once g c =
    let own : Module = (g.V.View.seen c.args.view.now).contents.own in
    let same : (g.V.View.seen c.grown.new.view).contents.own ≡ own = ap (λ (s : Contents). s.own) c.in_ok-graph.ensures.asks.contents in
    let stands : StandsFor (g.V.View.seen c.grown.new.view) own = subst (StandsFor (g.V.View.seen c.grown.new.view)) same (c.in_ok-graph.ensures.asks.own c.requires.own) in
    right_once own c.requires.formed (held c.in_ok-graph.graph) (c.in_ok-graph.ensures.right own stands c.requires.formed)

pub order-requires-clause-bundles : goal.order-requires-clause-bundles
order-requires-clause-bundles g c =
    let ids : List Id = c.args.reach.now in
    let bundles : List (List Id) = c.args.bundles.now in
    let window : c.from_member-window.result.now ≡ from_member bundles ids =
    c.from_member-window.ensures ∙ ap (λ b. from_member b c.as_slice.result.now) c.as_slice-2.ensures ∙ ap (from_member bundles) c.as_slice.ensures
    in
    let kept : List Kept = held c.in_ok-graph.graph in
    let there : ids_of kept ≡ from_member bundles ids = c.in_ok-graph.ensures.ids ∙ window in
    bundles_held kept ids bundles there c.requires.some c.requires.bundles

pub returns-clause-order : goal.returns-clause-order
returns-clause-order g c =
    let ids : List Id = c.args.reach.now in
    let bundles : List (List Id) = c.args.bundles.now in
    let window : c.from_member-window.result.now ≡ from_member bundles ids =
    c.from_member-window.ensures ∙ ap (λ b. from_member b c.as_slice.result.now) c.as_slice-2.ensures ∙ ap (from_member bundles) c.as_slice.ensures
    in
    let kept : List Kept = held c.in_ok-graph.graph in
    let there : ids_of kept ≡ from_member bundles ids = c.in_ok-graph.ensures.ids ∙ window in
    if_ok c.order.result (λ groups. order kept bundles ≡ Some groups) (λ groups. (m : Module) → StandsFor (g.V.View.seen c.grown.new.view) m → IsFormed m → order_over m ids bundles ≡ Some groups)
    (λ groups h m t f. order_is kept ids bundles there c.requires.some c.requires.bundles m f (c.in_ok-graph.ensures.right m t f) ∙ h) c.order.ensures.order

pub returns-clause-refused : goal.returns-clause-refused
returns-clause-refused g c =
    let ids : List Id = c.args.reach.now in
    let bundles : List (List Id) = c.args.bundles.now in
    let window : c.from_member-window.result.now ≡ from_member bundles ids =
    c.from_member-window.ensures ∙ ap (λ b. from_member b c.as_slice.result.now) c.as_slice-2.ensures ∙ ap (from_member bundles) c.as_slice.ensures
    in
    let kept : List Kept = held c.in_ok-graph.graph in
    let there : ids_of kept ≡ from_member bundles ids = c.in_ok-graph.ensures.ids ∙ window in
    if_err c.order.result (Refuses (keeps kept) (window_ids kept bundles) bundles) (λ refusal. (m : Module) → StandsFor (g.V.View.seen c.grown.new.view) m → IsFormed m → RefusesIn m ids bundles refusal)
    (λ refusal h m t f. refusal_in kept ids bundles there c.requires.some c.requires.bundles m f (c.in_ok-graph.ensures.right m t f) refusal h) c.order.ensures.refused
