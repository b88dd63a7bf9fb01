-- Use lists: for each value the slots that hold it, each once, newest first.
--
-- A list that goes with a module is exact: it has the slots that hold the value, and no others. What is lifted from a module has the uses
-- in order of the text, each put at the head, so the last use of the text comes first.
use Rattle.std.specs.Prelude.{◌≡◌, refl, ℕ, ◌≤◌, ◌+◌, Bool, ◌&&◌, nat_eq, cond, List, [], ◌∷◌}
use Rattle.ir_types.specs.declared.id.Id.{Id}
use Rattle.ir_types.specs.declared.id.Use.{Use}
use Rattle.ir_types.specs.declared.module.Module.{Module}
use Rattle.ir_types.specs.Available.{same_id}
use Rattle.vx_view.specs.Answers.{funcs_of, uses_of, value, doubles}

-- the uses of each value
abbrev pub Lists : Type 0
Lists = Id → List Use

abbrev pub same_use : Use → Use → Bool
same_use a b = same_id a.user b.user && nat_eq a.slot b.slot

-- how often a use stands in a list
abbrev pub times : Use → List Use → ℕ
times u [] = 0
times u (v ∷ vs) = cond (same_use v u) (1 + times u vs) (times u vs)

-- the lists of a module: each has the uses of its value, each once
pub record IsExact (m : Module) (lists : Lists) : Type 0 where
  pub same : (v : Id) (u : Use) → times u (lists v) ≡ times u (uses_of v (funcs_of m.items))
  pub once : (v : Id) (u : Use) → times u (lists v) ≤ 1

abbrev pub newest_first : List Use → List Use → List Use
newest_first [] done = done
newest_first (u ∷ us) done = newest_first us (u ∷ done)

-- the lists of a module as it was read
abbrev pub lifted : Module → Lists
lifted m v = newest_first (uses_of v (funcs_of m.items)) []

-- ---- one list

-- a new use at the head
abbrev pub added : Use → List Use → List Use
added u us = u ∷ us

-- without a use
abbrev pub taken : Use → List Use → List Use
taken u [] = []
taken u (v ∷ vs) = cond (same_use v u) vs (v ∷ taken u vs)

-- the newer uses, which stand before one
abbrev pub newer : Use → List Use → List Use
newer u [] = []
newer u (v ∷ vs) = cond (same_use v u) [] (v ∷ newer u vs)

-- the older uses, which stand after one
abbrev pub older : Use → List Use → List Use
older u [] = []
older u (v ∷ vs) = cond (same_use v u) vs (older u vs)

-- ---- a worked example: the sum of a value with itself has two slots, of which the second is the newer

both_slots : lifted doubles (value 0) ≡ record { user = value 1; slot = 1 } ∷ record { user = value 1; slot = 0 } ∷ []
both_slots = refl

abbrev first_slot : Use
first_slot = record { user = value 1; slot = 0 }

without_the_first : taken first_slot (lifted doubles (value 0)) ≡ record { user = value 1; slot = 1 } ∷ []
without_the_first = refl
