-- Rows of edges.
use Rattle.std.proofs.Common.{◌≡◌, ℕ, ◌+◌, zero, suc, List, [], ◌∷◌, ◌++◌, Some, replicate, refl, ap, sym, ◌∙◌}
use Rattle.std.specs.Prelude.{slice_get, slice_set, unwrap_or}
use Rattle.std.proofs.lemmas.List.{replicate-append-replicate}
use Rattle.ir_types_check.specs.Typed.{with_edge}

-- one row more
pub replicate_more : {X : Type 0} (n : ℕ) (x : X) → replicate n x ++ x ∷ [] ≡ replicate (n + 1) x
replicate_more n x = replicate-append-replicate n 1 x

-- the later of two writes stays
pub set_twice : {X : Type 0} (xs : List X) (i : ℕ) (a b : X) → slice_set (slice_set xs i a) i b ≡ slice_set xs i b
set_twice [] i a b = refl
set_twice (x ∷ xs) zero a b = refl
set_twice (x ∷ xs) (suc i) a b = ap (λ ys. x ∷ ys) (set_twice xs i a b)

-- a row that was taken out and put back with one more
pub put_row : (rows out end : List (List ℕ)) (old row : List ℕ) (from to : ℕ) → slice_get rows to ≡ Some old → out ≡ slice_set rows to [] → row ≡ old ++ from ∷ [] → end ≡ slice_set out to row →
    end ≡ with_edge from rows to
put_row rows out end old row from to was taken more put =
    let there : unwrap_or (slice_get rows to) [] ≡ old = ap (λ o. unwrap_or o []) was in
    put ∙ ap (λ rs. slice_set rs to row) taken ∙ set_twice rows to [] row ∙ ap (slice_set rows to) (more ∙ ap (λ r. r ++ from ∷ []) (sym there))
