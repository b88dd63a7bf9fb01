-- Whether arguments are alone: it does not matter in which order the others stand.
use Rattle.std.proofs.Common.{◌≡◌, refl, sym, ap, ◌∙◌, ℕ, zero, suc, ◌+◌, ◌-◌, Bool, true, false, not, ◌||◌, ◌&&◌, nat_le, None, Some, List, [], ◌∷◌, ◌++◌, length, reverse, take, drop, slice_get, add-one, arith, length-drop}
use Rattle.std.specs.List.{list_any}
use Rattle.std.proofs.lemmas.List.{reverse-append, take_all}
use Rattle.std.proofs.lemmas.List.Folds.{list_any-append}
use Rattle.ir_types.specs.declared.func.Param.{Param}
use Rattle.ir_model.specs.declared.value.Value.{Value}
use Rattle.ir_model.specs.declared.value.Value.TheVariants.{Lane as LaneValue, Row as RowValue, Ptr as PtrValue}
use Rattle.ir_model.specs.Run.{names, is_unshared, noalias_holds}

or-comm : (a b : Bool) → (a || b) ≡ (b || a)
or-comm true true = refl
or-comm true false = refl
or-comm false true = refl
or-comm false false = refl

or-false : (a : Bool) → (a || false) ≡ a
or-false true = refl
or-false false = refl

any-reverse : {A : Type 0} (f : A → Bool) (xs : List A) → list_any f (reverse xs) ≡ list_any f xs
any-reverse f [] = refl
any-reverse f (x ∷ xs) =
    ap (list_any f) (reverse-append (x ∷ []) xs)
    ∙ list_any-append f (reverse xs) (x ∷ [])
    ∙ ap (λ b. b || (f x || false)) (any-reverse f xs)
    ∙ or-comm (list_any f xs) (f x || false)
    ∙ ap (λ b. b || list_any f xs) (or-false (f x))

any-reversed : {A : Type 0} (f : A → Bool) (xs ys : List A) → list_any f (xs ++ ys) ≡ list_any f (reverse xs ++ ys)
any-reversed f xs ys =
    list_any-append f xs ys ∙ ap (λ b. b || list_any f ys) (sym (any-reverse f xs)) ∙ sym (list_any-append f (reverse xs) ys)

unshared-reversed : (globals : ℕ) (v : Value) (xs ys : List Value) → is_unshared globals v (xs ++ ys) ≡ is_unshared globals v (reverse xs ++ ys)
unshared-reversed globals (LaneValue lane) xs ys = refl
unshared-reversed globals (RowValue lanes) xs ys = refl
unshared-reversed globals (PtrValue None) xs ys = refl
unshared-reversed globals (PtrValue (Some p)) xs ys = ap (λ b. nat_le globals p.0 && not b) (any-reversed (names p.0) xs ys)

-- the others as the code has them
pub holds_at-is : (globals : ℕ) (v value : Value) (args : List Value) (at : ℕ) (unshared : Bool) → v ≡ value
    → unshared ≡ is_unshared globals v (take at args ++ take (length args - (at + 1)) (drop (at + 1) args))
    → unshared ≡ is_unshared globals value (reverse (take at args) ++ drop (at + 1) args)
holds_at-is globals v value args at unshared same e =
    e
    ∙ ap (λ l. is_unshared globals v (take at args ++ l)) (take_all (length args - (at + 1)) (drop (at + 1) args) (omega (arith, length-drop (at + 1) args)))
    ∙ unshared-reversed globals v (take at args) (drop (at + 1) args)
    ∙ ap (λ w. is_unshared globals w (reverse (take at args) ++ drop (at + 1) args)) same

take-suc : {A : Type 0} (xs : List A) (i : ℕ) (x : A) → slice_get xs i ≡ Some x → take (suc i) xs ≡ take i xs ++ x ∷ []
take-suc [] i x e = cc
take-suc (y ∷ xs) zero x e = cc
take-suc (y ∷ xs) (suc i) x e = ap (λ l. y ∷ l) (take-suc xs i x e)

reverse-take : {A : Type 0} (xs : List A) (i : ℕ) (x : A) → slice_get xs i ≡ Some x → reverse (take (i + 1) xs) ≡ x ∷ reverse (take i xs)
reverse-take xs i x e =
    ap (λ k. reverse (take k xs)) (add-one i) ∙ ap reverse (take-suc xs i x e) ∙ reverse-append (take i xs) (x ∷ [])

-- one argument more
pub noalias_holds-more : (globals : ℕ) (ps : List Param) (vs : List Value) (i : ℕ) (p : Param) (v : Value)
    → p ∷ drop (i + 1) ps ≡ drop i ps → v ∷ drop (i + 1) vs ≡ drop i vs → slice_get vs i ≡ Some v
    → ((not p.noalias || is_unshared globals v (reverse (take i vs) ++ drop (i + 1) vs)) && noalias_holds globals (reverse (take (i + 1) vs)) (drop (i + 1) ps) (drop (i + 1) vs))
    ≡ noalias_holds globals (reverse (take i vs)) (drop i ps) (drop i vs)
noalias_holds-more globals ps vs i p v eps evs e =
    ap (λ before. (not p.noalias || is_unshared globals v (reverse (take i vs) ++ drop (i + 1) vs)) && noalias_holds globals before (drop (i + 1) ps) (drop (i + 1) vs))
    (reverse-take vs i v e)
    ∙ ap (λ l. noalias_holds globals (reverse (take i vs)) l (v ∷ drop (i + 1) vs)) eps
    ∙ ap (λ l. noalias_holds globals (reverse (take i vs)) (drop i ps) l) evs

pub noalias_holds-nil : (globals : ℕ) (before : List Value) (ps : List Param) → noalias_holds globals before ps [] ≡ true
noalias_holds-nil globals before [] = refl
noalias_holds-nil globals before (p ∷ ps) = refl
