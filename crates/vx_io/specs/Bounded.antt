-- A sink of a fixed capacity as its callers see it.
--
-- It takes whole pieces as long as they fit, and fails exactly where one does not.
use Rattle.std.specs.Prelude.{◌≡◌, ℕ, List, [], ◌∷◌, ◌++◌, refl}
use Rattle.vx_io.specs.Count.{next_count}

pub record Bounded : Type 0 where
  pub taken : List ℕ
  pub capacity : ℕ
  pub faults : ℕ

-- after a call that took this piece
abbrev pub after_taking : Bounded → List ℕ → Bounded
after_taking s piece = record s { taken = s.taken ++ piece }

-- after a call whose piece did not fit
abbrev pub after_fault : Bounded → Bounded
after_fault s = record s { faults = next_count s.faults }

-- a sink with room for one byte more
abbrev two_bytes : Bounded
two_bytes = record { taken = 1 ∷ 2 ∷ []; capacity = 3; faults = 0 }

a_third_is_taken : (after_taking two_bytes (3 ∷ [])).taken ≡ 1 ∷ 2 ∷ 3 ∷ []
a_third_is_taken = refl

a_misfit_is_counted : after_fault two_bytes ≡ record { taken = 1 ∷ 2 ∷ []; capacity = 3; faults = 1 }
a_misfit_is_counted = refl
