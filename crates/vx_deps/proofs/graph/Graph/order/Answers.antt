use Rattle.std.proofs.Common.{◌≡◌, ◌∙◌, sym, ap, subst, Some, List, [], map, get_or}
use Rattle.ir_types.specs.declared.id.Id.{Id}
use Rattle.vx_order.specs.Order.{Refuses}
use Rattle.std.specs.List.{All}
use Rattle.vx_deps.specs.Graphs.{Kept, held, as_node, keeps}
use Rattle.vx_deps.specs.Orders.{groups_in, window_ids, ids_at}
use Rattle.vx_deps.specs.Cycles.{IsCycle, IsGroup}
use Rattle.vx_deps.specs.Rows as rows
use Rattle.vx_deps.specs.Rows.{row}
use Rattle.vx_deps.proofs.Posing.{IsPosed, posed_partition, posed_edges, posed_order, posed_refusal}
use Rattle.vx_deps.proofs.graph.Graph.order.Goals as goal

pub schedule-requires-clause-partition : goal.schedule-requires-clause-partition
schedule-requires-clause-partition c =
    let bundles : List (List Id) = c.args.bundles.now in
    let kept : List Kept = held c.args.self.now in
    let r : List Kept = row (map as_node c.from_member-window.result.now) in
    let posed : IsPosed kept bundles r c.in_ok-ids.ids c.in_ok-groups.groups c.as_slice-5.result.now = record {
      once = c.requires.once;
      are = c.requires.bundles;
      row_is = c.from_member-window.ensures ∙ ap (λ b. rows.from_member b (row (map as_node c.as_slice.result.now))) c.as_slice-2.ensures ∙ ap (λ n. rows.from_member bundles (row (map as_node n))) c.as_slice.ensures;
      ids_are = c.in_ok-ids.ensures.ids;
      few = c.in_ok-ids.ensures.few;
      groups_are = c.in_ok-groups.ensures ∙ ap (λ b. groups_in b c.as_slice-3.result.now) c.as_slice-4.ensures ∙ ap (groups_in bundles) c.as_slice-3.ensures;
      edges_are = c.as_slice-5.ensures.value ∙ c.in_ok-edges.ensures;
    } in
    posed_partition kept bundles r c.in_ok-ids.ids c.in_ok-groups.groups c.as_slice-5.result.now posed

pub schedule-requires-clause-named : goal.schedule-requires-clause-named
schedule-requires-clause-named c =
    let bundles : List (List Id) = c.args.bundles.now in
    let kept : List Kept = held c.args.self.now in
    let r : List Kept = row (map as_node c.from_member-window.result.now) in
    let posed : IsPosed kept bundles r c.in_ok-ids.ids c.in_ok-groups.groups c.as_slice-5.result.now = record {
      once = c.requires.once;
      are = c.requires.bundles;
      row_is = c.from_member-window.ensures ∙ ap (λ b. rows.from_member b (row (map as_node c.as_slice.result.now))) c.as_slice-2.ensures ∙ ap (λ n. rows.from_member bundles (row (map as_node n))) c.as_slice.ensures;
      ids_are = c.in_ok-ids.ensures.ids;
      few = c.in_ok-ids.ensures.few;
      groups_are = c.in_ok-groups.ensures ∙ ap (λ b. groups_in b c.as_slice-3.result.now) c.as_slice-4.ensures ∙ ap (groups_in bundles) c.as_slice-3.ensures;
      edges_are = c.as_slice-5.ensures.value ∙ c.in_ok-edges.ensures;
    } in
    posed_edges kept bundles r c.in_ok-ids.ids c.in_ok-groups.groups c.as_slice-5.result.now posed

pub returns-in-Ok-clause-order : goal.returns-in-Ok-clause-order
returns-in-Ok-clause-order c =
    let bundles : List (List Id) = c.args.bundles.now in
    let kept : List Kept = held c.args.self.now in
    let r : List Kept = row (map as_node c.from_member-window.result.now) in
    let posed : IsPosed kept bundles r c.in_ok-ids.ids c.in_ok-groups.groups c.as_slice-5.result.now = record {
      once = c.requires.once;
      are = c.requires.bundles;
      row_is = c.from_member-window.ensures ∙ ap (λ b. rows.from_member b (row (map as_node c.as_slice.result.now))) c.as_slice-2.ensures ∙ ap (λ n. rows.from_member bundles (row (map as_node n))) c.as_slice.ensures;
      ids_are = c.in_ok-ids.ensures.ids;
      few = c.in_ok-ids.ensures.few;
      groups_are = c.in_ok-groups.ensures ∙ ap (λ b. groups_in b c.as_slice-3.result.now) c.as_slice-4.ensures ∙ ap (groups_in bundles) c.as_slice-3.ensures;
      edges_are = c.as_slice-5.ensures.value ∙ c.in_ok-edges.ensures;
    } in
    posed_order kept bundles r c.in_ok-ids.ids c.in_ok-groups.groups c.as_slice-5.result.now posed c.in-Ok.order.items c.in-Ok.ensures.order
    ∙ ap Some (sym (c.in_ok-named-in-Ok.ensures ∙ ap (λ l. map (λ g. ids_at l (get_or c.in_ok-groups.groups g [])) c.as_slice-in-Ok-2.result.now) c.as_slice-in-Ok.ensures
    ∙ ap (map (λ g. ids_at c.in_ok-ids.ids (get_or c.in_ok-groups.groups g []))) c.as_slice-in-Ok-2.ensures.value))

pub returns-in-Err-NoOrder-clause-refused : goal.returns-in-Err-NoOrder-clause-refused
returns-in-Err-NoOrder-clause-refused c =
    let bundles : List (List Id) = c.args.bundles.now in
    let kept : List Kept = held c.args.self.now in
    let r : List Kept = row (map as_node c.from_member-window.result.now) in
    let posed : IsPosed kept bundles r c.in_ok-ids.ids c.in_ok-groups.groups c.as_slice-5.result.now = record {
      once = c.requires.once;
      are = c.requires.bundles;
      row_is = c.from_member-window.ensures ∙ ap (λ b. rows.from_member b (row (map as_node c.as_slice.result.now))) c.as_slice-2.ensures ∙ ap (λ n. rows.from_member bundles (row (map as_node n))) c.as_slice.ensures;
      ids_are = c.in_ok-ids.ensures.ids;
      few = c.in_ok-ids.ensures.few;
      groups_are = c.in_ok-groups.ensures ∙ ap (λ b. groups_in b c.as_slice-3.result.now) c.as_slice-4.ensures ∙ ap (groups_in bundles) c.as_slice-3.ensures;
      edges_are = c.as_slice-5.ensures.value ∙ c.in_ok-edges.ensures;
    } in
    let refused = posed_refusal kept bundles r c.in_ok-ids.ids c.in_ok-groups.groups c.as_slice-5.result.now posed c.in-Err-NoOrder.cycle
    (subst (Refuses c.in_ok-groups.groups c.as_slice-5.result.now) c.in-Err-NoOrder.field-0-is c.in-Err-NoOrder.ensures.refused) in
    let named : map (λ g. ids_at c.in_ok-ids.ids (get_or c.in_ok-groups.groups g [])) c.in-Err-NoOrder.cycle ≡ c.in_ok-named-in-Err-NoOrder.field-0 =
    sym (c.in_ok-named-in-Err-NoOrder.ensures ∙ ap (λ l. map (λ g. ids_at l (get_or c.in_ok-groups.groups g [])) c.as_slice-in-Err-NoOrder-2.result.now) c.as_slice-in-Err-NoOrder.ensures
    ∙ ap (map (λ g. ids_at c.in_ok-ids.ids (get_or c.in_ok-groups.groups g []))) c.as_slice-in-Err-NoOrder-2.ensures)
    in (
      refused.0,
      subst (IsCycle (keeps kept) (window_ids kept bundles)) named refused.1,
      subst (All (IsGroup (window_ids kept bundles) bundles)) named refused.2,
    )
