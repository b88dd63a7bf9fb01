-- Links followed backward among numbers with open links.
use Rattle.std.specs.Prelude.{ℕ, ◌<◌, List, [], ◌∷◌, Contains, slice_index, length}

-- there is a link from `u`, which has open links too, to `v`
pub record IsOpenBefore (links : List (ℕ × ℕ)) (open_links : List ℕ) (u v : ℕ) : Type 0 where
  pub link : Contains links (u, v)
  pub is_open : 0 < slice_index open_links u

-- each number with open links has a link from such a number
abbrev pub HasOpenBefore : List (ℕ × ℕ) → List ℕ → Type 0
HasOpenBefore links open_links = (v : ℕ) → v < length open_links → 0 < slice_index open_links v → (u : ℕ) × IsOpenBefore links open_links u v

-- each of these has a link to the next, and `at` to the first
abbrev pub IsTrail : List (ℕ × ℕ) → ℕ → List ℕ → Type 0
IsTrail links at [] = Unit {0}
IsTrail links at (v ∷ vs) = Contains links (at, v) × IsTrail links v vs
