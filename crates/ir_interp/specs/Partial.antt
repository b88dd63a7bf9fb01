-- Lists that are made item by item: what is done, and what is still to come.
use Rattle.std.specs.Prelude.{◌≡◌, refl, ℕ, ◌++◌, Option, None, Some, List, [], ◌∷◌, option_map}

-- what is done, before what comes where that is defined
abbrev pub after : {A : Type 0} → List A → Option (List A) → Option (List A)
after done rest = option_map (λ more. done ++ more) rest

-- two items are done and one comes; where what comes is undefined, so is all
with_more : after {A = ℕ} (1 ∷ 2 ∷ []) (Some (3 ∷ [])) ≡ Some (1 ∷ 2 ∷ 3 ∷ [])
with_more = refl

with_none : after {A = ℕ} (1 ∷ 2 ∷ []) None ≡ None
with_none = refl
