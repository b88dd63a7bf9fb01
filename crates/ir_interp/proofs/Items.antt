-- The item of a list at a place, and what is left from there on.
use Rattle.std.proofs.Common.{◌≡◌, refl, sym, ap, ◌∙◌, ℕ, zero, suc, ◌+◌, ◌<◌, ◌≤◌, None, Some, List, [], ◌∷◌, length, drop, get_or, slice_get, drop-cons, add-one}
use Rattle.std.proofs.Math.ListN.{drop_of_length-le}
use Rattle.ir_types.specs.declared.func.Param.{Param}
use Rattle.ir_model.specs.declared.value.Value.TheVariants.{Ptr as PtrValue}
use Rattle.ir_model.specs.Run.{start_env}

pub item-next : {A : Type 0} (xs : List A) (i : ℕ) (x : A) → i < length xs → x ≡ get_or xs i x → x ∷ drop (i + 1) xs ≡ drop i xs
item-next xs i x h e =
    ap (λ k. x ∷ drop k xs) (add-one i) ∙ ap (λ y. y ∷ drop (suc i) xs) e ∙ sym (drop-cons xs i x h)

pub read-next : {A : Type 0} (xs : List A) (i : ℕ) (d : A) → i < length xs → get_or xs i d ∷ drop (i + 1) xs ≡ drop i xs
read-next xs i d h = ap (λ k. get_or xs i d ∷ drop k xs) (add-one i) ∙ sym (drop-cons xs i d h)

pub got-next : {A : Type 0} (xs : List A) (i : ℕ) (x : A) → slice_get xs i ≡ Some x → x ∷ drop (i + 1) xs ≡ drop i xs
got-next [] i x e = cc
got-next (y ∷ xs) zero x e = cc
got-next (y ∷ xs) (suc i) x e = ap (λ k. x ∷ drop k (y ∷ xs)) (add-one (suc i)) ∙ ap (λ k. x ∷ drop k xs) (sym (add-one i)) ∙ got-next xs i x e

pub items-end : {A : Type 0} (xs : List A) (i : ℕ) → length xs ≤ i → drop i xs ≡ []
items-end xs i h = drop_of_length-le xs h

pub items-none : {A : Type 0} (xs : List A) (i : ℕ) → slice_get xs i ≡ None → drop i xs ≡ []
items-none [] zero e = refl
items-none [] (suc i) e = refl
items-none (x ∷ xs) zero e = cc
items-none (x ∷ xs) (suc i) e = items-none xs i e

-- no argument is left
pub start_env-nil : (ps : List Param) → start_env ps [] ≡ λ x. PtrValue None
start_env-nil [] = refl
start_env-nil (p ∷ ps) = refl
