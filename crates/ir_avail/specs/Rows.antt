-- Bit rows: for each block a word, in which a bit stands for a value.
--
-- A row's bit is set where a walk may come to the block without its value. Only what a clear bit says is kept here: there is no
-- such walk. A band is the rows of up to 64 values, each defined in its home.
use Rattle.std.specs.Prelude.{◌≡◌, ℕ, ◌<◌, ◌==◌, Bool, List, slice_index, slice_get}
use Rattle.std.specs.Int.{bit_at}
use Rattle.std.specs.declared.option.Option.TheVariants.{Some}
use Rattle.ir_types.specs.Walks.{HasEdge}
use Rattle.ir_avail.specs.Avoids.{Avoids}

-- the home of the value in a column is barred
abbrev pub at_home : List ℕ → ℕ → ℕ → Bool
at_home homes column v = v == slice_index homes column

-- where a bit is clear, no way from the entry comes to the block without leaving the value's home
abbrev pub IsBand : List (List ℕ) → List ℕ → List ℕ → Type 0
IsBand graph homes rows =
    (column end row : ℕ) (way : List ℕ) → column < 64 → slice_get rows end ≡ Some row → bit_at row column ≡ 0
    → Avoids graph (at_home homes column) end 0 way → ⊥

-- the word of a block has no bit but of the columns whose home it is
abbrev pub AreHomes : List ℕ → List ℕ → Type 0
AreHomes homes words = (a column : ℕ) → column < 64 → bit_at (slice_index words a) column ≡ 1 → slice_index homes column ≡ a

-- what comes to a block without its value leaves it so along each edge, unless the block is the value's home
abbrev pub IsClosed : List (List ℕ) → List ℕ → List ℕ → Type 0
IsClosed graph words rows =
    (a b column : ℕ) → HasEdge graph a b → bit_at (slice_index rows a) column ≡ 1 → bit_at (slice_index words a) column ≡ 0
    → bit_at (slice_index rows b) column ≡ 1
