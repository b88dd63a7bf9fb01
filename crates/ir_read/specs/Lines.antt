-- The lines of a text.
use Rattle.std.specs.Prelude.{◌≡◌, refl, ℕ, suc, ◌==◌, ◌&&◌, Bool, false, List, [], ◌∷◌, codes, cond}

-- whether a line feed comes first
abbrev pub begins_feed : List ℕ → Bool
begins_feed [] = false
begins_feed (b ∷ bs) = b == 10

-- the lines with one more byte at the front of the first
abbrev pub onto : ℕ → List (List ℕ) → List (List ℕ)
onto b [] = (b ∷ []) ∷ []
onto b (l ∷ ls) = (b ∷ l) ∷ ls

-- the lines of a text: each ends at a line feed, and a carriage return just before that is dropped; a last piece without a line
-- feed is a line where it is not empty
abbrev pub lines_of : List ℕ → List (List ℕ)
lines_of [] = []
lines_of (b ∷ bs) =
    cond (b == 10) ([] ∷ lines_of bs)
    (cond (b == 13 && begins_feed bs) (lines_of bs)
    (onto b (lines_of bs)))

-- how many bytes stand before the first line feed
abbrev pub line_len : List ℕ → ℕ
line_len [] = 0
line_len (b ∷ bs) = cond (b == 10) 0 (suc (line_len bs))

-- a piece without the carriage return at its end
abbrev pub without_return : List ℕ → List ℕ
without_return [] = []
without_return (b ∷ []) = cond (b == 13) [] (b ∷ [])
without_return (b ∷ c ∷ cs) = b ∷ without_return (c ∷ cs)

-- two lines, the first ended as on another system, the last not ended
two_lines : lines_of (codes "a\r\nb") ≡ codes "a" ∷ codes "b" ∷ []
two_lines = refl

-- an empty line is a line, and nothing is none
empty_line : lines_of (codes "\n") ≡ [] ∷ []
empty_line = refl
