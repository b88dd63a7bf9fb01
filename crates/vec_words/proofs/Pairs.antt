-- Bytes two digits at a time.
use Rattle.std.proofs.Common.{◌≡◌, ℕ, ◌<◌, Option, Some, None, List, [], ◌∷◌, ◌++◌, length, refl, ap, arith}
use Rattle.vx_digits.specs.Optional.{◌>>=◌}
use Rattle.vec_words.specs.Hex.{byte_of, pair_of, bytes_after}

abbrev pub with_rest : List ℕ → Option ℕ → Option (Option ℕ × List ℕ)
with_rest t y = Some (y, t)

-- what stands in a pair that is there
abbrev pub pair_bytes : List (Option ℕ) → Option (Option ℕ × List ℕ) → Option (List (Option ℕ))
pair_bytes before None = None
pair_bytes before (Some p) = bytes_after (before ++ p.0 ∷ []) p.1

first_case : (o : Option (Option ℕ)) (before : List (Option ℕ)) (t : List ℕ) (x : Option ℕ) (more : List ℕ) → (o >>= with_rest t) ≡ Some (x, more)
    → (o >>= (λ y. bytes_after (before ++ y ∷ []) t)) ≡ bytes_after (before ++ x ∷ []) more
first_case None before t x more e = cc
first_case (Some y) before t x more e = ap (pair_bytes before) e

-- a pair more
pub pair_first : (before : List (Option ℕ)) (t : List ℕ) (x : Option ℕ) (more : List ℕ) → pair_of t ≡ Some (x, more) → bytes_after before t ≡ bytes_after (before ++ x ∷ []) more
unfolding pair_of
pair_first before [] x more e = cc
pair_first before (a ∷ []) x more e = cc
pair_first before (a ∷ b ∷ t) x more e = first_case (byte_of a b) before t x more e

none_case : (o : Option (Option ℕ)) (before : List (Option ℕ)) (t : List ℕ) → (o >>= with_rest t) ≡ None → (o >>= (λ y. bytes_after (before ++ y ∷ []) t)) ≡ None
none_case None before t e = refl
none_case (Some y) before t e = cc

-- no pair
pub pair_none : (before : List (Option ℕ)) (t : List ℕ) → pair_of t ≡ None → 0 < length t → bytes_after before t ≡ None
unfolding pair_of
pair_none before [] e h = absurd (omega arith)
pair_none before (a ∷ []) e h = refl
pair_none before (a ∷ b ∷ t) e h = none_case (byte_of a b) before t e
