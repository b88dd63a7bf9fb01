-- Ids and groups by their places and numbers.
use Rattle.std.proofs.Common.{◌≡◌, refl, ℕ, zero, suc, None, List, [], ◌∷◌, slice_get, get_or}

-- a group that is not there is empty
pub none_there : (groups : List (List ℕ)) (number : ℕ) → slice_get groups number ≡ None → [] ≡ get_or groups number []
none_there [] number e = refl
none_there (g ∷ gs) zero e = absurd cc
none_there (g ∷ gs) (suc number) e = none_there gs number e
