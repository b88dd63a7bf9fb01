-- The order of positions is the order of groups, and a cycle of positions one of groups.
use Rattle.std.proofs.Common.{◌≡◌, ◌<◌, ◌==◌, ℕ, List, All, Some, arith, ◌∙◌, ap, sym, subst, map, option_map, slice_index}
use Rattle.vx_order.specs.Groups.{owner_of, position_of, positions, links_of, contracted, size}
use Rattle.vx_order.specs.Order.{order_on, IsCycle}
use Rattle.vx_order.specs.Tables.{IsTableOf}
use Rattle.vx_order.specs.Walks.{Ascends, AreLinks, RefusesNodes}
use Rattle.vx_order.specs.declared.refusal.OrderRefusal.TheVariants.{NoOrder}
use Rattle.vx_order.proofs.Holding.{nodes_are, links_are, owners_are, positions_below, members_below, range_ascends, are_links, cycle_edges}
use Rattle.vx_order.proofs.schedule.Goals as goal

pub order-requires-clause-ascending : goal.order-requires-clause-ascending
order-requires-clause-ascending c =
    let table : IsTableOf c.args.groups.now c.in_ok-table.table = subst (λ (xs : List (List ℕ)). IsTableOf xs c.in_ok-table.table) c.as_slice.ensures c.in_ok-table.ensures in
    let nodes : c.as_slice-2.result.now ≡ positions c.args.groups.now = c.as_slice-2.ensures.value ∙ c.in_ok-nodes.ensures ∙ nodes_are c.args.groups.now c.in_ok-table.table table in
    subst (Ascends 0) (sym nodes) (range_ascends (λ p. position_of c.args.groups.now p == p) 0 (size c.args.groups.now) 0 (omega arith))

pub order-requires-clause-below : goal.order-requires-clause-below
order-requires-clause-below c =
    let table : IsTableOf c.args.groups.now c.in_ok-table.table = subst (λ (xs : List (List ℕ)). IsTableOf xs c.in_ok-table.table) c.as_slice.ensures c.in_ok-table.ensures in
    let nodes : c.as_slice-2.result.now ≡ positions c.args.groups.now = c.as_slice-2.ensures.value ∙ c.in_ok-nodes.ensures ∙ nodes_are c.args.groups.now c.in_ok-table.table table in
    subst (λ (n : ℕ). All (λ p. p < n) c.as_slice-2.result.now) (sym (c.len.ensures ∙ table.owners_len))
    (subst (λ (xs : List ℕ). All (λ p. p < size c.args.groups.now) xs) (sym nodes) (positions_below c.args.groups.now))

pub order-requires-clause-links : goal.order-requires-clause-links
order-requires-clause-links c =
    let table : IsTableOf c.args.groups.now c.in_ok-table.table = subst (λ (xs : List (List ℕ)). IsTableOf xs c.in_ok-table.table) c.as_slice.ensures c.in_ok-table.ensures in
    let nodes : c.as_slice-2.result.now ≡ positions c.args.groups.now = c.as_slice-2.ensures.value ∙ c.in_ok-nodes.ensures ∙ nodes_are c.args.groups.now c.in_ok-table.table table in
    let links : c.as_slice-3.result.now ≡ links_of c.args.groups.now c.args.edges.now = c.as_slice-3.ensures.value ∙ c.in_ok-links.ensures ∙ links_are c.args.groups.now c.in_ok-table.table c.args.edges.now table c.requires.named in
    subst (λ (xs : List ℕ). AreLinks xs c.as_slice-3.result.now) (sym nodes)
    (subst (λ (ls : List (ℕ × ℕ)). AreLinks (positions c.args.groups.now) ls) (sym links) (are_links c.args.groups.now c.args.edges.now c.requires.partition c.requires.named))

pub returns-in-Ok-clause-order : goal.returns-in-Ok-clause-order
returns-in-Ok-clause-order c =
    let table : IsTableOf c.args.groups.now c.in_ok-table.table = subst (λ (xs : List (List ℕ)). IsTableOf xs c.in_ok-table.table) c.as_slice.ensures c.in_ok-table.ensures in
    let nodes : c.as_slice-2.result.now ≡ positions c.args.groups.now = c.as_slice-2.ensures.value ∙ c.in_ok-nodes.ensures ∙ nodes_are c.args.groups.now c.in_ok-table.table table in
    let links : c.as_slice-3.result.now ≡ links_of c.args.groups.now c.args.edges.now = c.as_slice-3.ensures.value ∙ c.in_ok-links.ensures ∙ links_are c.args.groups.now c.in_ok-table.table c.args.edges.now table c.requires.named in
    let below : All (λ p. p < size c.args.groups.now) c.in-Ok.order.items
    = subst (λ (n : ℕ). All (λ p. p < n) c.in-Ok.order.items) (c.len.ensures ∙ table.owners_len) c.in-Ok.ensures.below in
    let placed : order_on (positions c.args.groups.now) (links_of c.args.groups.now c.args.edges.now) ≡ Some c.in-Ok.order.items
    = subst (λ (ls : List (ℕ × ℕ)). order_on (positions c.args.groups.now) ls ≡ Some c.in-Ok.order.items) links
    (subst (λ (xs : List ℕ). order_on xs c.as_slice-3.result.now ≡ Some c.in-Ok.order.items) nodes c.in-Ok.ensures.order) in
    let owners : c.in_ok-owners_of-in-Ok.field-0.items ≡ map (owner_of c.args.groups.now) c.in-Ok.order.items
    = c.in_ok-owners_of-in-Ok.ensures ∙ ap (map (slice_index c.in_ok-table.table.owners.items)) c.as_slice-in-Ok.ensures.value ∙ owners_are c.args.groups.now c.in_ok-table.table c.in-Ok.order.items table below in
    ap (option_map (map (owner_of c.args.groups.now))) placed ∙ ap Some (sym owners)

pub owners_of-requires-in-Err-NoOrder : goal.owners_of-requires-in-Err-NoOrder
owners_of-requires-in-Err-NoOrder c =
    let table : IsTableOf c.args.groups.now c.in_ok-table.table = subst (λ (xs : List (List ℕ)). IsTableOf xs c.in_ok-table.table) c.as_slice.ensures c.in_ok-table.ensures in
    let nodes : c.as_slice-2.result.now ≡ positions c.args.groups.now = c.as_slice-2.ensures.value ∙ c.in_ok-nodes.ensures ∙ nodes_are c.args.groups.now c.in_ok-table.table table in
    let links : c.as_slice-3.result.now ≡ links_of c.args.groups.now c.args.edges.now = c.as_slice-3.ensures.value ∙ c.in_ok-links.ensures ∙ links_are c.args.groups.now c.in_ok-table.table c.args.edges.now table c.requires.named in
    let raw : RefusesNodes c.as_slice-2.result.now c.as_slice-3.result.now (NoOrder c.in-Err-NoOrder.cycle) = subst (RefusesNodes c.as_slice-2.result.now c.as_slice-3.result.now) c.in-Err-NoOrder.field-0-is c.in-Err-NoOrder.ensures.refused in
    let refused : RefusesNodes (positions c.args.groups.now) (links_of c.args.groups.now c.args.edges.now) (NoOrder c.in-Err-NoOrder.cycle)
    = subst (λ (ls : List (ℕ × ℕ)). RefusesNodes (positions c.args.groups.now) ls (NoOrder c.in-Err-NoOrder.cycle)) links
    (subst (λ (xs : List ℕ). RefusesNodes xs c.as_slice-3.result.now (NoOrder c.in-Err-NoOrder.cycle)) nodes raw) in
    let below : All (λ p. p < size c.args.groups.now) c.in-Err-NoOrder.cycle = members_below c.args.groups.now c.in-Err-NoOrder.cycle refused.2 in
    subst (λ (n : ℕ). All (λ p. p < n) c.as_slice-in-Err-NoOrder.result.now) (sym table.owners_len)
    (subst (λ (xs : List ℕ). All (λ p. p < size c.args.groups.now) xs) (sym c.as_slice-in-Err-NoOrder.ensures) below)

pub returns-in-Err-NoOrder-clause-refused : goal.returns-in-Err-NoOrder-clause-refused
returns-in-Err-NoOrder-clause-refused c =
    let table : IsTableOf c.args.groups.now c.in_ok-table.table = subst (λ (xs : List (List ℕ)). IsTableOf xs c.in_ok-table.table) c.as_slice.ensures c.in_ok-table.ensures in
    let nodes : c.as_slice-2.result.now ≡ positions c.args.groups.now = c.as_slice-2.ensures.value ∙ c.in_ok-nodes.ensures ∙ nodes_are c.args.groups.now c.in_ok-table.table table in
    let links : c.as_slice-3.result.now ≡ links_of c.args.groups.now c.args.edges.now = c.as_slice-3.ensures.value ∙ c.in_ok-links.ensures ∙ links_are c.args.groups.now c.in_ok-table.table c.args.edges.now table c.requires.named in
    let raw : RefusesNodes c.as_slice-2.result.now c.as_slice-3.result.now (NoOrder c.in-Err-NoOrder.cycle) = subst (RefusesNodes c.as_slice-2.result.now c.as_slice-3.result.now) c.in-Err-NoOrder.field-0-is c.in-Err-NoOrder.ensures.refused in
    let refused : RefusesNodes (positions c.args.groups.now) (links_of c.args.groups.now c.args.edges.now) (NoOrder c.in-Err-NoOrder.cycle)
    = subst (λ (ls : List (ℕ × ℕ)). RefusesNodes (positions c.args.groups.now) ls (NoOrder c.in-Err-NoOrder.cycle)) links
    (subst (λ (xs : List ℕ). RefusesNodes xs c.as_slice-3.result.now (NoOrder c.in-Err-NoOrder.cycle)) nodes raw) in
    let below : All (λ p. p < size c.args.groups.now) c.in-Err-NoOrder.cycle = members_below c.args.groups.now c.in-Err-NoOrder.cycle refused.2 in
    let owners : c.from_vec.result ≡ map (owner_of c.args.groups.now) c.in-Err-NoOrder.cycle
    = c.from_vec.ensures ∙ c.in_ok-owners_of-in-Err-NoOrder.ensures ∙ ap (map (slice_index c.in_ok-table.table.owners.items)) c.as_slice-in-Err-NoOrder.ensures
    ∙ owners_are c.args.groups.now c.in_ok-table.table c.in-Err-NoOrder.cycle table below in (
      ap (option_map (map (owner_of c.args.groups.now))) refused.0,
      subst (IsCycle (contracted c.args.groups.now c.args.edges.now)) (sym owners) (cycle_edges c.args.groups.now c.args.edges.now c.in-Err-NoOrder.cycle c.requires.partition c.requires.named refused.1),
    )
