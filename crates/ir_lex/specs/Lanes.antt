-- Masks of sixteen bytes.
use Rattle.std.specs.Prelude.{ℕ, ◌==◌, if◌then◌else◌}
use Rattle.std.specs.Int.{trailing_zeros, w64}

-- the place of the first bit that is set, or 16
abbrev pub first_set : ℕ → ℕ
first_set mask = if mask == 0 then 16 else trailing_zeros w64 mask
