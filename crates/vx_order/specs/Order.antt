-- The order of groups: again and again the least position among the groups all of whose predecessors are placed.
use Rattle.std.specs.Prelude.{◌≡◌, ℕ, ◌==◌, Bool, not, ◌&&◌, ◌||◌, List, [], ◌∷◌, ◌++◌, Option, Some, None, Contains, map, find, option_map, option_and_then}
use Rattle.std.specs.List.{list_all}
use Rattle.vx_order.specs.Groups.{has, owner_of, positions, links_of, contracted}
use Rattle.vx_order.specs.declared.refusal.OrderRefusal.{OrderRefusal}
use Rattle.vx_order.specs.declared.refusal.OrderRefusal.TheVariants.{NoOrder, OutOfMemory}

-- whether a node may come next: it is not placed, and each node with a link to it is
abbrev pub is_ready : List (ℕ × ℕ) → List ℕ → ℕ → Bool
is_ready links placed v = not (has placed v) && list_all (λ l. not (l.1 == v) || has placed l.0) links

-- the first of the nodes that may come next
abbrev pub next : List ℕ → List (ℕ × ℕ) → List ℕ → Option ℕ
next nodes links placed = find (is_ready links placed) nodes

-- the nodes that are placed and after them one more for each of the list, each the next in its turn
abbrev pub place : List ℕ → List (ℕ × ℕ) → List ℕ → List ℕ → Option (List ℕ)
place nodes links placed [] = Some placed
place nodes links placed (_ ∷ more) = option_and_then (λ v. place nodes links (placed ++ v ∷ []) more) (next nodes links placed)

-- the order of all nodes, which stand in ascending order
abbrev pub order_on : List ℕ → List (ℕ × ℕ) → Option (List ℕ)
order_on nodes links = place nodes links [] nodes

-- the order of the groups, by their numbers; none where at some place no group may come next
abbrev pub order_of : List (List ℕ) → List (ℕ × ℕ) → Option (List ℕ)
order_of groups edges = option_map (map (owner_of groups)) (order_on (positions groups) (links_of groups edges))

-- links lead from one node through these, in their order, to another
abbrev pub Leads : List (ℕ × ℕ) → ℕ → List ℕ → ℕ → Type 0
Leads links from [] to = Contains links (from, to)
Leads links from (v ∷ vs) to = Contains links (from, v) × Leads links v vs to

-- each of these has a link to the next, and the last to the first
abbrev pub IsCycle : List (ℕ × ℕ) → List ℕ → Type 0
IsCycle links [] = ⊥
IsCycle links (v ∷ vs) = Leads links v vs v

-- what a refusal means: the groups have no order, and those kept are a cycle of edges between groups
abbrev pub Refuses : List (List ℕ) → List (ℕ × ℕ) → OrderRefusal → Type 0
Refuses groups edges (NoOrder cycle) = (order_of groups edges ≡ None) × IsCycle (contracted groups edges) cycle
Refuses groups edges OutOfMemory = Unit {0}
