-- A sink in memory as its callers see it.
--
-- It takes at most `piece` bytes a call, and fails at the calls whose numbers, counted from 0, stand in `failing`, and where it
-- finds no memory.
use Rattle.std.specs.Prelude.{◌≡◌, ℕ, List, [], ◌∷◌, ◌++◌, refl}
use Rattle.vx_io.specs.Count.{next_count}

pub record Collected : Type 0 where
  pub taken : List ℕ
  pub piece : ℕ
  pub failing : List ℕ
  pub next : ℕ
  pub faults : ℕ

-- after a call that took these bytes
abbrev pub after_taking : Collected → List ℕ → Collected
after_taking s bytes = record s { taken = s.taken ++ bytes; next = next_count s.next }

-- after a call that failed
abbrev pub after_fault : Collected → Collected
after_fault s = record s { next = next_count s.next; faults = next_count s.faults }

-- a sink that took the byte 1 in its call 0
abbrev one_byte : Collected
one_byte = record { taken = 1 ∷ []; piece = 2; failing = 1 ∷ []; next = 1; faults = 0 }

one_more_is_taken : (after_taking one_byte (2 ∷ [])).taken ≡ 1 ∷ 2 ∷ []
one_more_is_taken = refl

a_fault_is_counted : (after_fault one_byte).faults ≡ 1
a_fault_is_counted = refl
