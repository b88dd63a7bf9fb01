-- Ways through a graph that do not leave a barred block, and what is known of their lengths.
--
-- A way goes from a block along edges to `end`; none of its blocks but the last is barred. With the blocks that define a value
-- barred, the ways from the entry are the walks on which no earlier block defines it.
use Rattle.std.specs.Prelude.{◌≡◌, refl, ℕ, ◌+◌, ◌<◌, ◌≤◌, ◌==◌, Bool, true, false, List, [], ◌∷◌, length, slice_index_or}
use Rattle.std.proofs.Common.{lit<}
use Rattle.std.specs.declared.option.Option.{Option}
use Rattle.std.specs.declared.option.Option.TheVariants.{None, Some}
use Rattle.ir_types.specs.Walks.{HasEdge, NotGreater}

-- the tests of a list, false past its end
abbrev pub bar_at : List Bool → ℕ → Bool
bar_at barred v = slice_index_or barred v false

-- the entry of a list of distances, none past its end
abbrev pub distance_at : List (Option ℕ) → ℕ → Option ℕ
distance_at distances v = slice_index_or distances v None

module _ (graph : List (List ℕ)) (barred : ℕ → Bool) (end : ℕ) where
  -- the way from block a along the list
  abbrev pub Avoids : ℕ → List ℕ → Type 0
  Avoids a [] = a ≡ end
  Avoids a (b ∷ rest) = (barred a ≡ false) × HasEdge graph a b × Avoids b rest

  -- a way of so many edges
  abbrev pub HasWay : ℕ → ℕ → Type 0
  HasWay a n = (way : List ℕ) × (length way ≡ n) × Avoids a way

  -- of the ways of so many edges, the least
  pub record IsLeast (a n : ℕ) (way : List ℕ) : Type 0 where
    pub long : length way ≡ n
    pub avoids : Avoids a way
    pub least : (other : List ℕ) → length other ≡ n → Avoids a other → NotGreater way other

  -- each distance is the length of a way, and there is none of fewer edges
  pub record AreDistances (distances : List (Option ℕ)) : Type 0 where
    pub long : length distances ≡ length graph
    pub sound : (a n : ℕ) → distance_at distances a ≡ Some n → HasWay a n
    pub complete : (a : ℕ) (way : List ℕ) → a < length graph → Avoids a way → (n : ℕ) × (distance_at distances a ≡ Some n) × (n ≤ length way)

  -- the same of the ways of at most so many edges
  pub record AreNear (distances : List (Option ℕ)) (most : ℕ) : Type 0 where
    pub sound : (a n : ℕ) → distance_at distances a ≡ Some n → (n ≤ most) × HasWay a n
    pub complete : (a : ℕ) (way : List ℕ) → a < length graph → Avoids a way → length way ≤ most
        → (n : ℕ) × (distance_at distances a ≡ Some n) × (n ≤ length way)

-- what becomes of a block's distance where those up to `most` are known
pub record IsNext (graph : List (List ℕ)) (barred : ℕ → Bool) (distances : List (Option ℕ)) (most a : ℕ) (next : Option ℕ) : Type 0 where
  -- a known one stays
  pub kept : (n : ℕ) → distance_at distances a ≡ Some n → next ≡ Some n
  -- a new one is one more than that of a target
  pub found : (n : ℕ) → distance_at distances a ≡ None → next ≡ Some n
      → (n ≡ most + 1) × (barred a ≡ false) × ((b : ℕ) × HasEdge graph a b × (distance_at distances b ≡ Some most))
  -- there is one where a target has the distance
  pub missed : (b : ℕ) → distance_at distances a ≡ None → next ≡ None → barred a ≡ false → HasEdge graph a b
      → distance_at distances b ≡ Some most → ⊥

-- the target that is on the least of the shortest ways
abbrev pub IsTargetAt : List (List ℕ) → List (Option ℕ) → ℕ → ℕ → ℕ → Type 0
IsTargetAt graph distances a n b = HasEdge graph a b × (distance_at distances b ≡ Some n)

-- where these are distances from blocks to one, and the entry's is `len`, the walk is the entry and the least way of that many edges
abbrev pub LeadsLeast : List (List ℕ) → List (Option ℕ) → ℕ → List ℕ → Type 0
LeadsLeast graph distances len walk =
    (barred : ℕ → Bool) (end : ℕ) → AreDistances graph barred end distances → distance_at distances 0 ≡ Some len
    → (way : List ℕ) × (walk ≡ 0 ∷ way) × IsLeast graph barred end 0 len way

-- ---- a worked example: block 0 leads to 1 and 2, and 1 to 2; with 1 barred, one way to 2 is left

abbrev forked : List (List ℕ)
forked = (1 ∷ 2 ∷ []) ∷ (2 ∷ []) ∷ [] ∷ []

past_it : Avoids forked (λ v. v == 1) 2 0 (2 ∷ [])
past_it = (refl, ((1, lit< tt, refl), lit< tt), refl)

through_it : Avoids forked (λ v. v == 1) 2 0 (1 ∷ 2 ∷ []) → ⊥
through_it way = true_false way.2.0
  where
    true_false : true ≡ false → ⊥
    true_false e = cc
