-- What several calls do to the bytes that a source has left and that a sink has taken, where they tell them.
--
-- The words for one call are those of std: bytes that are kept, consumed and appended. A source or a sink that tells nothing is
-- `None`, of which nothing is claimed.
use Rattle.std.specs.Prelude.{ℕ, ◌<◌, List, [], ◌∷◌, length, take, Option, Some, refl}
use Rattle.std.specs.Io.KnownBytes.{Appends, Consumes}
use Rattle.std.proofs.Common.{lit<}

-- the bytes left lost some bytes at their front, or none
abbrev pub ConsumesSome : Option (List ℕ) → Option (List ℕ) → Type 0
ConsumesSome old new = (bytes : List ℕ) × Consumes old new bytes

-- the bytes taken grew by a front of these bytes that lacks one byte or more
abbrev pub AppendsFront : Option (List ℕ) → Option (List ℕ) → List ℕ → Type 0
AppendsFront old new bytes = (n : ℕ) × (n < length bytes) × Appends old new (take n bytes)

one_of_two_read : ConsumesSome (Some (7 ∷ 8 ∷ [])) (Some (8 ∷ []))
one_of_two_read = (7 ∷ [], refl)

one_of_two_written : AppendsFront (Some (6 ∷ [])) (Some (6 ∷ 7 ∷ [])) (7 ∷ 8 ∷ [])
one_of_two_written = (1, lit< tt, refl)
