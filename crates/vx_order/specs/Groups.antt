-- Groups of places: which group holds a place, a group's position, and edges between places drawn together to their groups.
use Rattle.std.specs.Prelude.{◌≡◌, ℕ, ◌<◌, ◌≤◌, ◌^◌, ◌==◌, Bool, true, List, [], ◌∷◌, Option, Some, None, All, min, length, map, filter, sum_by, find, slice_get}
use Rattle.std.specs.List.{list_any, position_or_len, range_with_len}

-- whether a number stands in a list
abbrev pub has : List ℕ → ℕ → Bool
has xs x = list_any (λ y. y == x) xs

-- the number of the group that holds a place
abbrev pub owner_of : List (List ℕ) → ℕ → ℕ
owner_of groups p = position_or_len (λ group. has group p) groups

-- the least of a number and these
abbrev pub least_from : ℕ → List ℕ → ℕ
least_from p [] = p
least_from p (q ∷ qs) = least_from (min p q) qs

-- the least of the members of a group
abbrev pub least : List ℕ → ℕ
least [] = 0
least (p ∷ ps) = least_from p ps

-- the least of the members of a group, if there is one
abbrev pub least_of : Option (List ℕ) → ℕ
least_of None = 0
least_of (Some group) = least group

-- the position of the group that holds a place: the least of its members
abbrev pub position_of : List (List ℕ) → ℕ → ℕ
position_of groups p = least_of (find (λ group. has group p) groups)

-- how many places the groups hold
abbrev pub size : List (List ℕ) → ℕ
size groups = sum_by length groups

-- the groups partition the places from 0 to one less than their number; places are 32-bit numbers
pub record IsPartition (groups : List (List ℕ)) : Type 0 where
  pub filled : All (λ group. 0 < length group) groups
  pub within : All (λ group. All (λ p. p < size groups) group) groups
  pub covered : (p : ℕ) → p < size groups → owner_of groups p < length groups
  pub once : (g p : ℕ) (group : List ℕ) → slice_get groups g ≡ Some group → has group p ≡ true → owner_of groups p ≡ g
  pub bounded : size groups ≤ 2 ^ 32

-- the positions of all groups, ascending: the places that are their own group's position
abbrev pub positions : List (List ℕ) → List ℕ
positions groups = filter (λ p. position_of groups p == p) (range_with_len 0 (size groups))

-- the edges between places, as edges between the positions of their groups
abbrev pub links_of : List (List ℕ) → List (ℕ × ℕ) → List (ℕ × ℕ)
links_of groups edges = map (λ e. (position_of groups e.0, position_of groups e.1)) edges

-- the edges between places, as edges between the numbers of their groups
abbrev pub contracted : List (List ℕ) → List (ℕ × ℕ) → List (ℕ × ℕ)
contracted groups edges = map (λ e. (owner_of groups e.0, owner_of groups e.1)) edges
