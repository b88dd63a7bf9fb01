-- Entries of a list that are their own places.
use Rattle.std.specs.Prelude.{ℕ, ◌+◌, ◌==◌, cond, List, [], ◌∷◌}

-- those entries, where the list's first place is `at`
abbrev pub fixed_points : ℕ → List ℕ → List ℕ
fixed_points at [] = []
fixed_points at (x ∷ xs) = cond (x == at) (x ∷ fixed_points (at + 1) xs) (fixed_points (at + 1) xs)
