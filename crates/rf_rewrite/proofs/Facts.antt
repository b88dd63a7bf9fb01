-- Small facts of options and lists.
use Rattle.std.proofs.Common.{◌≡◌, refl, ap, Some, List, [], ◌∷◌, ◌++◌, map}

pub some_is : {A : Type 0} {p q : A} → Some p ≡ Some q → p ≡ q
some_is e = cc

pub append_none : {A : Type 0} (l : List A) → l ++ [] ≡ l
append_none [] = refl
append_none (x ∷ l) = ap (λ u. x ∷ u) (append_none l)

pub map_append : {A B : Type 0} (f : A → B) (xs ys : List A) → map f (xs ++ ys) ≡ map f xs ++ map f ys
map_append f [] ys = refl
map_append f (x ∷ xs) ys = ap (λ u. f x ∷ u) (map_append f xs ys)
