-- A source in memory as its callers see it.
--
-- It gives at most `piece` bytes a call, and fails at the calls whose numbers, counted from 0, stand in `failing`.
use Rattle.std.specs.Prelude.{◌≡◌, ℕ, List, [], ◌∷◌, drop, refl}
use Rattle.vx_io.specs.Count.{next_count}

pub record Given : Type 0 where
  pub left : List ℕ
  pub piece : ℕ
  pub failing : List ℕ
  pub next : ℕ
  pub faults : ℕ

-- after a call that gave this many bytes
abbrev pub after_giving : Given → ℕ → Given
after_giving s n = record s { left = drop n s.left; next = next_count s.next }

-- after a call that failed
abbrev pub after_fault : Given → Given
after_fault s = record s { next = next_count s.next; faults = next_count s.faults }

-- a source of the bytes 1 2 3 whose call 1 fails
abbrev three_bytes : Given
three_bytes =
    record { left = 1 ∷ 2 ∷ 3 ∷ []; piece = 2; failing = 1 ∷ []; next = 0; faults = 0 }

two_are_given : (after_giving three_bytes 2).left ≡ 3 ∷ []
two_are_given = refl

a_fault_keeps_the_rest : (after_fault three_bytes).left ≡ 1 ∷ 2 ∷ 3 ∷ []
a_fault_keeps_the_rest = refl
