-- What is handed to the schedule, and what its answer says of the window.
use Rattle.std.proofs.Common.{◌≡◌, sym, ap, ◌∙◌, subst, ℕ, ◌<◌, ◌^◌, None, Some, List, [], length, map, get_or, option_map}
use Rattle.std.specs.List.{All}
use Rattle.ir_types.specs.declared.id.Id.{Id}
use Rattle.vx_order.specs.Groups.{size, IsPartition, contracted}
use Rattle.vx_order.specs.Order as schedule
use Rattle.vx_order.specs.Order.{order_of}
use Rattle.vx_serial.specs.Bundles.{AreOnce}
use Rattle.vx_deps.specs.Graphs.{Kept, ids_of, keeps}
use Rattle.vx_deps.specs.Orders.{groups_in, window_ids, edges_in, order, order_in, ids_at}
use Rattle.vx_deps.specs.Cycles.{AreBundlesOf, IsCycle, IsGroup}
use Rattle.vx_deps.specs.Rows as rows
use Rattle.vx_deps.specs.Rows.{row, row_ids, edges_between}
use Rattle.vx_deps.proofs.Rowing.{window_row, once_window, edges_are}
use Rattle.vx_deps.proofs.Grouping.{AreBelow, partition, as_many, members_there, edges_below}
use Rattle.vx_deps.proofs.Cycling.{cycled}

-- the window's row, its ids, groups and edges
pub record IsPosed (held : List Kept) (bundles : List (List Id)) (r : List Kept) (ids : List Id) (groups : List (List ℕ)) (edges : List (ℕ × ℕ)) : Type 0 where
  pub once : AreOnce (ids_of held)
  pub are : AreBundlesOf (ids_of held) bundles
  pub row_is : r ≡ rows.from_member bundles (row held)
  pub ids_are : ids ≡ row_ids r
  pub few : length ids < 2 ^ 32
  pub groups_are : groups ≡ groups_in bundles ids
  pub edges_are : edges ≡ edges_between 0 r

module _ (held : List Kept) (bundles : List (List Id)) (r : List Kept) (ids : List Id) (groups : List (List ℕ)) (edges : List (ℕ × ℕ)) (p : IsPosed held bundles r ids groups edges) where
  in_window : ids ≡ window_ids held bundles
  in_window = p.ids_are ∙ ap row_ids p.row_is ∙ window_row held bundles

  groups_there : groups ≡ groups_in bundles (window_ids held bundles)
  groups_there = p.groups_are ∙ ap (groups_in bundles) in_window

  edges_row : edges ≡ edges_between 0 (rows.from_member bundles (row held))
  edges_row = p.edges_are ∙ ap (edges_between 0) p.row_is

  edges_there : edges ≡ edges_in (keeps held) 0 (window_ids held bundles)
  edges_there = edges_row ∙ sym (edges_are held bundles p.once)

  few_there : length (window_ids held bundles) < 2 ^ 32
  few_there = subst (λ l. length l < 2 ^ 32) in_window p.few

  pub posed_partition : IsPartition groups
  posed_partition = subst IsPartition (sym groups_there) (partition held bundles p.once p.are few_there)

  pub posed_edges : All (AreBelow (size groups)) edges
  posed_edges = subst (λ gs. All (AreBelow (size gs)) edges) (sym groups_there) (subst (All (AreBelow (size (groups_in bundles (window_ids held bundles))))) (sym edges_row) (edges_below held bundles p.once p.are))

  named_there : (numbers : List ℕ) → map (λ g. ids_at ids (get_or groups g [])) numbers ≡ map (λ g. ids_at (window_ids held bundles) (get_or (groups_in bundles (window_ids held bundles)) g [])) numbers
  named_there numbers =
      ap (λ l. map (λ g. ids_at l (get_or groups g [])) numbers) in_window ∙ ap (λ gs. map (λ g. ids_at (window_ids held bundles) (get_or gs g [])) numbers) groups_there

  schedule_there : order_of groups edges ≡ order_of (groups_in bundles (window_ids held bundles)) (edges_in (keeps held) 0 (window_ids held bundles))
  schedule_there = ap (λ gs. order_of gs edges) groups_there ∙ ap (order_of (groups_in bundles (window_ids held bundles))) edges_there

  pub posed_order : (numbers : List ℕ) → order_of groups edges ≡ Some numbers → order held bundles ≡ Some (map (λ g. ids_at ids (get_or groups g [])) numbers)
  posed_order numbers e =
      ap (option_map (map (λ g. ids_at (window_ids held bundles) (get_or (groups_in bundles (window_ids held bundles)) g [])))) (sym schedule_there ∙ e)
      ∙ ap Some (sym (named_there numbers))

  pub posed_refusal : (cycle : List ℕ) → (order_of groups edges ≡ None) × schedule.IsCycle (contracted groups edges) cycle →
      (order_in (keeps held) (window_ids held bundles) bundles ≡ None) × IsCycle (keeps held) (window_ids held bundles) (map (λ g. ids_at ids (get_or groups g [])) cycle)
      × All (IsGroup (window_ids held bundles) bundles) (map (λ g. ids_at ids (get_or groups g [])) cycle)
  posed_refusal cycle (none, c) =
      let there : schedule.IsCycle (contracted (groups_in bundles (window_ids held bundles)) (edges_in (keeps held) 0 (window_ids held bundles))) cycle =
      subst (λ es. schedule.IsCycle (contracted (groups_in bundles (window_ids held bundles)) es) cycle) edges_there (subst (λ gs. schedule.IsCycle (contracted gs edges) cycle) groups_there c)
      in
      let r = cycled (keeps held) (window_ids held bundles) bundles (once_window bundles (ids_of held) p.once) (members_there held bundles p.once p.are) (partition held bundles p.once p.are few_there)
      (as_many held bundles p.once p.are) cycle there
      in (
        ap (option_map (map (λ g. ids_at (window_ids held bundles) (get_or (groups_in bundles (window_ids held bundles)) g [])))) (sym schedule_there ∙ none),
        subst (IsCycle (keeps held) (window_ids held bundles)) (sym (named_there cycle)) r.0,
        subst (All (IsGroup (window_ids held bundles) bundles)) (sym (named_there cycle)) r.1,
      )
