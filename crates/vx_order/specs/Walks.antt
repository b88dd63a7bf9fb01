-- Counts and ends of links, and what a refusal means for nodes.
use Rattle.std.specs.Prelude.{◌≡◌, ℕ, ◌+◌, ◌≤◌, ◌==◌, [], ◌∷◌, true, List, None, All, map, filter, count_by}
use Rattle.vx_order.specs.Groups.{has}
use Rattle.vx_order.specs.Order.{order_on, IsCycle}
use Rattle.vx_order.specs.declared.refusal.OrderRefusal.{OrderRefusal}
use Rattle.vx_order.specs.declared.refusal.OrderRefusal.TheVariants.{NoOrder, OutOfMemory}

-- these are at least `low`, and each is less than the next
abbrev pub Ascends : ℕ → List ℕ → Type 0
Ascends low [] = Unit {0}
Ascends low (x ∷ xs) = (low ≤ x) × Ascends (x + 1) xs

-- how often a number stands in a list
abbrev pub tally : ℕ → List ℕ → ℕ
tally v xs = count_by (λ x. x == v) xs

-- the other ends of the links from a node
abbrev pub ends_from : ℕ → List (ℕ × ℕ) → List ℕ
ends_from v links = map (λ l. l.1) (filter (λ l. l.0 == v) links)

-- both ends of each link are nodes
abbrev pub AreLinks : List ℕ → List (ℕ × ℕ) → Type 0
AreLinks nodes links = All (λ l. (has nodes l.0 ≡ true) × (has nodes l.1 ≡ true)) links

-- what a refusal means: the nodes have no order, and those kept are a cycle of links between nodes
abbrev pub RefusesNodes : List ℕ → List (ℕ × ℕ) → OrderRefusal → Type 0
RefusesNodes nodes links (NoOrder cycle) = (order_on nodes links ≡ None) × IsCycle links cycle × ((v : ℕ) → has cycle v ≡ true → has nodes v ≡ true)
RefusesNodes nodes links OutOfMemory = Unit {0}
