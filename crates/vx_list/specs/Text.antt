-- The bytes that a `Text` keeps.
use Rattle.std.specs.Prelude.{◌≡◌, ℕ, ◌≤◌, List, length, take}
use Rattle.vx_list.specs.declared.text.Kept.{Kept}
use Rattle.vx_list.specs.declared.text.Kept.TheVariants.{Short, Long}

abbrev pub kept_bytes : Kept → List ℕ
kept_bytes (Short len bytes) = take len bytes
kept_bytes (Long list) = list.value

-- there are 22 places, and no more bytes in them
abbrev pub IsKept : Kept → Type 0
IsKept (Short len bytes) = (len ≤ 22) × (length bytes ≡ 22)
IsKept (Long list) = Unit {0}
