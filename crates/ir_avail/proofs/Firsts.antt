-- Loops that look for the first member that is not fine.
use Rattle.std.proofs.Common.{◌≡◌, ℕ, ◌+◌, ◌<◌, ◌≤◌, List, [], ◌∷◌, length, get_or, sym, ◌∙◌, ap, subst, inl, inr, arith, zero, suc}
use Rattle.std.proofs.lemmas.Bool.{cases_eq}
use Rattle.std.proofs.lemmas.Option.{slice_get_within}
use Rattle.std.specs.Prelude.{slice_get}
use Rattle.std.specs.declared.option.Option.TheVariants.{Some}
use Rattle.ir_types.specs.Available.{Each, EachBefore, First}

-- the member that a loop reads at a place
pub read_at : {X : Type 0} (xs : List X) (i : ℕ) (x : X) → i < length xs → x ≡ get_or xs i x → slice_get xs i ≡ Some x
read_at [] i x low is = absurd (omega arith)
read_at (y ∷ ys) zero x low is = ap (λ z. Some z) (sym is)
read_at (y ∷ ys) (suc i) x low is = read_at ys i x (omega arith) is

pub each_none : {X : Type 0} (Fine : ℕ → X → Type 0) (xs : List X) → EachBefore Fine xs 0
each_none Fine xs k x low at = absurd (omega arith)

pub each_more : {X : Type 0} (Fine : ℕ → X → Type 0) (xs : List X) (i : ℕ) (x : X) → EachBefore Fine xs i → slice_get xs i ≡ Some x → Fine i x
    → EachBefore Fine xs (i + 1)
each_more {X} Fine xs i x before here fine k y low at =
    elim (cases_eq k i) [
      | inl same ↦
          let P : ℕ → Type 0 = λ j. slice_get xs j ≡ Some y in
          let there : Some x ≡ Some y = sym here ∙ subst P same at in
          let Q : ℕ → Type 0 = λ j. Fine j y in
          let R : X → Type 0 = λ z. Fine i z in
          subst Q (sym same) (subst R (some_same x y there) fine)
      | inr other ↦ before k y (omega arith) at
    ]
  where
    some_same : (a b : X) → Some a ≡ Some b → a ≡ b
    some_same a b e = cc

pub each_all : {X : Type 0} (Fine : ℕ → X → Type 0) (xs : List X) (n : ℕ) → length xs ≤ n → EachBefore Fine xs n → Each Fine xs
each_all Fine xs n all before k x at = before k x (let h : k < length xs = slice_get_within xs k x at in omega arith) at

pub first_at : {X : Type 0} (Fine Fails : ℕ → X → Type 0) (xs : List X) (i : ℕ) (x : X) → EachBefore Fine xs i → slice_get xs i ≡ Some x → Fails i x
    → First Fine Fails xs
first_at Fine Fails xs i x before at fails = (i, x, at, before, fails)
