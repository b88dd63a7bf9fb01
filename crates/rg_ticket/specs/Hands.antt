-- The hand of a pass: what was drawn through it and what it stands for, and how each call changes it.
-- Lists of numbers are compared by how often each number stands in them, so that joining needs no order.
use Rattle.std.specs.Prelude.{ℕ, ◌+◌, ◌≤◌, Bool, true, false, List, [], ◌∷◌, ◌++◌, length, nat_lt, ◌==◌, if◌then◌else◌}
use Rattle.rg_ticket.specs.declared.hand.Hand.{Hand}

abbrev pub one_if : Bool → ℕ
one_if true = 1
one_if false = 0

-- how often x stands in the list
abbrev pub times : ℕ → List ℕ → ℕ
times x [] = 0
times x (y ∷ ys) = one_if (y == x) + times x ys

-- how often x stands among the numbers below n: once or not at all
abbrev pub once_below : ℕ → ℕ → ℕ
once_below x n = one_if (nat_lt x n)

-- the list has numbers below the limit alone, each once at most
pub record IsEachOnce (limit : ℕ) (numbers : List ℕ) : Type 0 where
  pub once : (x : ℕ) → times x numbers ≤ once_below x limit
  pub few : length numbers ≤ limit

-- the hand of the pass that `make` gives
abbrev pub first_hand : ℕ → Hand
first_hand n = record { limit = n; numbers = []; ended = false; ended_passes = 0; stands_for = 1; is_first = true; splits = 0 }

-- the hand of a pass that was split off
abbrev pub newcomer : ℕ → Hand
newcomer n = record { limit = n; numbers = []; ended = false; ended_passes = 0; stands_for = 1; is_first = false; splits = 0 }

-- what is left of a pass that was joined into another: it stands for none
abbrev pub spent : Hand
spent = record { limit = 0; numbers = []; ended = true; ended_passes = 0; stands_for = 0; is_first = false; splits = 0 }

-- the number k was drawn
abbrev pub drew : ℕ → Hand → Hand
drew k v = record v { numbers = v.numbers ++ k ∷ [] }

-- a draw was answered None: the pass is ended
abbrev pub shut : Hand → Hand
shut v = record v { ended = true; ended_passes = v.ended_passes + 1 }

-- a draw that found the word at this number
abbrev pub after_draw : ℕ → Hand → Hand
after_draw found v = if nat_lt found v.limit then drew found v else shut v

-- a pass was split off it
abbrev pub after_split : Hand → Hand
after_split v = record v { splits = v.splits + 1 }

-- the hand w was joined into the hand v
abbrev pub joined : Hand → Hand → Hand
joined v w = record v { numbers = v.numbers ++ w.numbers; ended_passes = v.ended_passes + w.ended_passes; stands_for = v.stands_for + w.stands_for }
