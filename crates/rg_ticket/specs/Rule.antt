-- The rule of the tickets: what the word and the hands of all passes have in common between any two steps.
-- `Holds` is the rule. Its points that speak of each hand by itself are `IsSound`, the others are `IsKept`.
use Rattle.std.specs.Prelude.{◌≡◌, ℕ, ◌+◌, ◌^◌, ◌<◌, ◌≤◌, false, min, List, [], ◌∷◌, length, slice_index}
use mathlib.Core.Option.{some}
use lib.ListN.{get_elem?}
use Rattle.atomic_table.specs.Table.{State, Me}
use Rattle.rg_ticket.specs.declared.hand.Hand.{Hand}
use Rattle.rg_ticket.specs.Hands.{one_if, times, once_below, IsEachOnce, after_draw}

-- f of each hand, added up
abbrev pub total : (Hand → ℕ) → List Hand → ℕ
total f [] = 0
total f (v ∷ vs) = f v + total f vs

-- F holds of each hand
abbrev pub Each : (Hand → Type 0) → List Hand → Type 0
Each F hands = (id : ℕ) (v : Hand) → get_elem? hands id ≡ some v → F v

-- what is so of each hand
pub record IsSound (limit word : ℕ) (v : Hand) : Type 0 where
  -- it counts at most as many ended passes as it stands for
  pub ended_within : v.ended_passes ≤ v.stands_for
  -- one that isn't ended itself counts fewer than it stands for
  pub one_not_ended : v.ended ≡ false → v.ended_passes < v.stands_for
  -- where it counts an ended pass, the word is at or above the limit
  pub none_left : 0 < v.ended_passes → limit ≤ word
  -- only the first pass counts splits
  pub first_splits : v.is_first ≡ false → v.splits ≡ 0
  -- one that stands for no pass has no numbers: it was joined into another
  pub spent_is_empty : v.stands_for ≡ 0 → v.numbers ≡ []

-- what is so of all hands together
pub record IsKept (limit word : ℕ) (hands : List Hand) : Type 0 where
  pub limit_in_range : limit < 2 ^ 63
  -- the lists of all hands together are the numbers below the lesser of the word and the limit, each once
  pub each_once : (x : ℕ) → total (λ v. times x v.numbers) hands ≡ once_below x (min limit word)
  pub as_many : total (λ v. length v.numbers) hands ≡ min limit word
  -- the word passes the limit by the number of ended passes that the hands count
  pub passed_by_ended : word ≡ min limit word + total (λ v. v.ended_passes) hands
  pub sound : Each (IsSound limit word) hands
  -- just one hand is that of the first pass, which was split at most 2^32 times
  pub one_first : total (λ v. one_if v.is_first) hands ≡ 1
  pub few_splits : total (λ v. v.splits) hands ≤ 2 ^ 32
  -- the passes that all hands stand for are one more than the splits
  pub all_stood_for : total (λ v. v.stands_for) hands ≡ 1 + total (λ v. v.splits) hands

-- the table has one word, which keeps the rule with the hands
abbrev pub Holds : ℕ → State (Unit {0}) Hand → Type 0
Holds limit s = (length s.words ≡ 1) × IsKept limit (slice_index s.words 0) s.views

-- what a draw tells its pass: the word that it found says what its hand is now, and a word below the limit stood not in its list
abbrev pub Draws : Me (Unit {0}) Hand → ℕ → Me (Unit {0}) Hand → Type 0
Draws before found after = (after ≡ (after_draw found before.0, before.1)) × IsEachOnce before.0.limit (after_draw found before.0).numbers
    × (0 < before.0.ended_passes → before.0.limit ≤ found) × (found < before.0.limit → times found before.0.numbers ≡ 0)

-- what a look at the word tells its pass: its hand is what it was, and has each number once at most
abbrev pub Looks : Me (Unit {0}) Hand → ℕ → Me (Unit {0}) Hand → Type 0
Looks before found after = (after ≡ before) × IsEachOnce before.0.limit before.0.numbers
