-- The objects of the globals, by the words that say their bytes.
use Rattle.std.specs.Prelude.{ℕ, suc, Bool, true, false, ◌&&◌, Option, Some, None, Result, Ok, Err, List, [], ◌∷◌, length, replicate, nat_lt, slice_get, slice_set}
use Rattle.vx_digits.specs.Optional.{◌>>=◌, when}
use Rattle.vec_words.specs.declared.global.Given.{Given}
use Rattle.vec_words.specs.Calls.{contents_of}
use Rattle.vec_words.specs.Arguments.{place_from}

-- of so many globals: no bytes, and none named
abbrev pub untouched : ℕ → Given
untouched n = record { memory = replicate n []; named = replicate n false }

abbrev pub is_unnamed : Option Bool → Bool
is_unnamed (Some false) = true
is_unnamed _ = false

-- whether the global of a number is there and no word has named it
abbrev pub is_free : Given → ℕ → Bool
is_free g k = nat_lt k (length g.memory) && is_unnamed (slice_get g.named k)

-- that global with its bytes
unfoldable pub with_bytes_at : Given → ℕ → List (Option ℕ) → Option Given
with_bytes_at g k bytes =
    when (is_free g k) (record { memory = slice_set g.memory k bytes; named = slice_set g.named k true })

-- a global word more, where it fits
unfoldable pub with_word : List (List ℕ) → Given → List ℕ → Option Given
with_word globals g w = do
  c ← contents_of w
  k ← place_from 0 globals c.name
  with_bytes_at g k c.bytes

abbrev pub then_words : Option Given → ℕ → (Given → Result Given ℕ) → Result Given ℕ
then_words None at more = Err at
then_words (Some g) at more = more g

-- global words from a place on, or the place of the first that does not fit
abbrev pub with_words : List (List ℕ) → Given → ℕ → List (List ℕ) → Result Given ℕ
with_words globals g at [] = Ok g
with_words globals g at (w ∷ ws) = then_words (with_word globals g w) at (λ h. with_words globals h (suc at) ws)
