-- The lines of a function's body with their numbers.
use Rattle.std.specs.Prelude.{◌≡◌, refl, ℕ, ◌+◌, List, [], ◌∷◌}
use Rattle.ir_draft.specs.declared.line.Line.{Line}
use Rattle.ir_draft.specs.declared.line.Line.TheVariants.{Empty, CasesEnd}
use Rattle.ir_draft.specs.declared.draft.Numbered.{Numbered}

-- lines of these forms, the first of which has the number n; empty lines are counted and dropped
abbrev pub numbered_from : ℕ → List Line → List Numbered
numbered_from n [] = []
numbered_from n (Empty ∷ fs) = numbered_from (n + 1) fs
numbered_from n (f ∷ fs) = record { line = n; form = f } ∷ numbered_from (n + 1) fs

after_empty : numbered_from 7 (Empty ∷ CasesEnd ∷ []) ≡ record { line = 8; form = CasesEnd } ∷ []
after_empty = refl
