-- Room that a sink is sure to have.
--
-- A sink may know a number of bytes that it takes without fail. One that knows none is `None`, of which nothing is claimed.
use Rattle.std.specs.Prelude.{ℕ, ◌+◌, ◌≤◌, Option, Some, None, ⊤}
use Rattle.std.proofs.Common.{lit≤}

-- taking n bytes used up no more room than n
abbrev pub UsesRoom : Option ℕ → Option ℕ → ℕ → Type 0
UsesRoom None new n = ⊤
UsesRoom (Some before) None n = ⊥
UsesRoom (Some before) (Some now) n = before ≤ now + n

three_of_five : UsesRoom (Some 5) (Some 2) 3
three_of_five = lit≤ tt
