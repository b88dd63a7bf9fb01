-- Walks over the blocks of a function, and when one walk comes before another.
--
-- A graph is a list: for each block, by its number, the numbers of its targets. A walk is a list of block numbers that starts
-- at 0, each next one a target of the one before. A target that is no block is no edge, so each number in a walk is a block's.
use Rattle.std.specs.Prelude.{◌≡◌, refl, ℕ, ◌<◌, ◌⊎◌, List, [], ◌∷◌, length, slice_index_or}
use Rattle.std.specs.List.{Contains}
use Rattle.std.proofs.Common.{lit<}

-- the targets of a block; what is no block has none
abbrev pub targets_at : List (List ℕ) → ℕ → List ℕ
targets_at graph a = slice_index_or graph a []

-- an edge leads from block a to block b
abbrev pub HasEdge : List (List ℕ) → ℕ → ℕ → Type 0
HasEdge graph a b = Contains (targets_at graph a) b × (b < length graph)

-- edges lead from block a along the list
abbrev pub GoesOn : List (List ℕ) → ℕ → List ℕ → Type 0
GoesOn graph a [] = Unit {0}
GoesOn graph a (b ∷ rest) = HasEdge graph a b × GoesOn graph b rest

-- the list starts at the entry, where there is one, and edges lead along it
abbrev pub IsWalk : List (List ℕ) → List ℕ → Type 0
IsWalk graph [] = ⊥
IsWalk graph (a ∷ rest) = (a ≡ 0) × (0 < length graph) × GoesOn graph a rest

-- the last of block a and the list is `end`
abbrev pub EndsFrom : ℕ → List ℕ → ℕ → Type 0
EndsFrom a [] end = a ≡ end
EndsFrom a (b ∷ rest) end = EndsFrom b rest end

-- the last of the list is `end`
abbrev pub EndsAt : List ℕ → ℕ → Type 0
EndsAt [] end = ⊥
EndsAt (a ∷ rest) end = EndsFrom a rest end

-- a walk from the entry reaches the block
abbrev pub IsReached : List (List ℕ) → ℕ → Type 0
IsReached graph end = (walk : List ℕ) × IsWalk graph walk × EndsAt walk end

-- as lists of numbers, the first is not greater
abbrev pub NotGreater : List ℕ → List ℕ → Type 0
NotGreater [] ys = Unit {0}
NotGreater (x ∷ xs) [] = ⊥
NotGreater (x ∷ xs) (y ∷ ys) = (x < y) ⊎ ((x ≡ y) × NotGreater xs ys)

-- the first is shorter, or as long and not greater
abbrev pub Precedes : List ℕ → List ℕ → Type 0
Precedes xs ys = (length xs < length ys) ⊎ ((length xs ≡ length ys) × NotGreater xs ys)

-- ---- a worked example: a branch from block 0 to 1 or 2, and from 1 to 2

abbrev branch : List (List ℕ)
branch = (1 ∷ 2 ∷ []) ∷ (2 ∷ []) ∷ [] ∷ []

short_walk : IsWalk branch (0 ∷ 2 ∷ [])
short_walk = (refl, lit< tt, (((1, lit< tt, refl), lit< tt), tt))

short_walk-ends : EndsAt (0 ∷ 2 ∷ []) 2
short_walk-ends = refl
