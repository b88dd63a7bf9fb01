-- Parameters as they are kept, one after another.
use Rattle.std.proofs.Common.{◌≡◌, refl, sym, ap, ◌∙◌, subst, ℕ, zero, suc, ◌+◌, ◌<◌, ◌==◌, Bool, true, false, Option, None, Some, List, [], ◌∷◌, length, drop, cond, get_or, slice_get, option_map, arith}
use Rattle.std.proofs.lemmas.List.{drop_more}
use Rattle.ir_types.specs.declared.id.Id.{Id}
use Rattle.ir_types.specs.declared.func.Param.{Param}
use Rattle.ir_types.specs.declared.func.Func.{Func}
use Rattle.ir_types.specs.declared.module.Item.{Item}
use Rattle.ir_types.specs.declared.module.Item.TheVariants.{Kept, Opaque, Func as FuncItem}
use Rattle.ir_types.specs.Available.{same_id}
use Rattle.ir_types.proofs.Among.{same_is}
use Rattle.vx_view.specs.Answers.{funcs_of, param_in, param_of, either}
use Rattle.sb_lines.specs.declared.params.ParamSpot.{ParamSpot}
use Rattle.sb_lines.specs.Params.{spot_of, spot_from, of_func, param_there, spots_in, spots_at, spot_told, param_told}
use Rattle.sb_lines.proofs.Rings.{eq-is, eq-itself, eq-other}
use Rattle.sb_lines.proofs.Standing.{none-some}

-- an item of a list, and those after it
pub split : {A : Type 0} (xs : List A) (i : ℕ) (x : A) → i < length xs → x ≡ get_or xs i x → drop i xs ≡ x ∷ drop (i + 1) xs
split xs i x lt is = drop_more xs i x lt ∙ ap (λ y. y ∷ drop (i + 1) xs) (sym is)

-- ---- one parameter

module _ (T U : Id → Option ParamSpot) (func : ℕ) (p : Param) (none : T p.id ≡ None) (now : (id : Id) → U id ≡ cond (same_id p.id id) (Some (spot_of func p)) (T id)) where
  pub own-step : (ps : List Param) (id : Id) → either (of_func func (U id)) (option_map (spot_of func) (param_in id ps)) ≡ either (of_func func (T id)) (option_map (spot_of func) (param_in id (p ∷ ps)))
  own-step ps id = ap (λ o. either (of_func func o) (option_map (spot_of func) (param_in id ps))) (now id) ∙ by (same_id p.id id) refl
    where
      by : (b : Bool) → same_id p.id id ≡ b → either (of_func func (cond b (Some (spot_of func p)) (T id))) (option_map (spot_of func) (param_in id ps)) ≡ either (of_func func (T id)) (option_map (spot_of func) (cond b (Some p) (param_in id ps)))
      by true e =
          ap (λ t. either (cond t (Some (spot_of func p)) None) (option_map (spot_of func) (param_in id ps))) (eq-itself func)
          ∙ sym (ap (λ o. either (of_func func o) (Some (spot_of func p))) (ap T (sym (same_is p.id id e)) ∙ none))
      by false e = refl

  pub others-step : (id : Id) (k : ℕ) → (func == k) ≡ false → of_func k (U id) ≡ of_func k (T id)
  others-step id k ne = ap (of_func k) (now id) ∙ by (same_id p.id id) refl
    where
      by : (b : Bool) → same_id p.id id ≡ b → of_func k (cond b (Some (spot_of func p)) (T id)) ≡ of_func k (T id)
      by true e = ap (λ t. cond t (Some (spot_of func p)) None) ne ∙ sym (ap (of_func k) (ap T (sym (same_is p.id id e)) ∙ none))
      by false e = refl

-- ---- a function

-- what a function adds, to each function
pub item-step : (T U : Id → Option ParamSpot) (number : ℕ) (f : Func) → ((id : Id) → of_func number (U id) ≡ either (of_func number (T id)) (option_map (spot_of number) (param_in id f.params))) → ((id : Id) (k : ℕ) → (number == k) ≡ false → of_func k (U id) ≡ of_func k (T id)) → (id : Id) (k : ℕ) → of_func k (U id) ≡ either (of_func k (T id)) (spots_in id k number (FuncItem f))
item-step T U number f own others id k = by (number == k) refl
  where
    right : (o : Option ParamSpot) → o ≡ either o None
    right None = refl
    right (Some s) = refl

    by : (b : Bool) → (number == k) ≡ b → of_func k (U id) ≡ either (of_func k (T id)) (cond b (option_map (spot_of number) (param_in id f.params)) None)
    by true e = subst (λ j. of_func j (U id) ≡ either (of_func j (T id)) (option_map (spot_of number) (param_in id f.params))) (eq-is number k e) (own id)
    by false e = others id k e ∙ right (of_func k (T id))

pub nothing-step : (o : Option ParamSpot) → o ≡ either o None
nothing-step None = refl
nothing-step (Some s) = refl

pub either-again : {A : Type 0} (x y z : Option A) → either (either x y) z ≡ either x (either y z)
either-again None y z = refl
either-again (Some s) y z = refl

-- ---- all functions

-- nothing of a function stands before it
past : (id : Id) (k j : ℕ) (items : List Item) → spots_at id k (k + suc j) items ≡ None
past id k j [] = refl
past id k j (Kept text ∷ items) = past id k j items
past id k j (Opaque text ∷ items) = past id k j items
past id k j (FuncItem f ∷ items) =
    ap (λ b. either (cond b (option_map (spot_of (k + suc j)) (param_in id f.params)) None) (spots_at id k (suc (k + suc j)) items)) (eq-other (k + suc j) k (more k j))
    ∙ ap (λ n. spots_at id k n items) (next k j)
    ∙ past id k (suc j) items
  where
    more : (a b : ℕ) → a + suc b ≡ a → ⊥
    more a b e = omega (arith, e)

    next : (a b : ℕ) → suc (a + suc b) ≡ a + suc (suc b)
    next a b = omega (arith)

pub spots-there : (id : Id) (n j : ℕ) (items : List Item) → spots_at id (n + j) n items ≡ param_there id (n + j) (slice_get (funcs_of items) j)
spots-there id n j [] = refl
spots-there id n j (Kept text ∷ items) = spots-there id n j items
spots-there id n j (Opaque text ∷ items) = spots-there id n j items
spots-there id n zero (FuncItem f ∷ items) =
    ap (λ b. either (cond b (option_map (spot_of n) (param_in id f.params)) None) (spots_at id (n + 0) (suc n) items)) (same n)
    ∙ ap (either (option_map (spot_of n) (param_in id f.params))) (ap (λ k. spots_at id (n + 0) k items) (later n) ∙ past id (n + 0) 0 items)
    ∙ sym (nothing-step (option_map (spot_of n) (param_in id f.params)))
    ∙ ap (λ k. option_map (spot_of k) (param_in id f.params)) (add-zero n)
  where
    add-zero : (a : ℕ) → a ≡ a + 0
    add-zero a = omega (arith)

    later : (a : ℕ) → suc a ≡ a + 0 + suc 0
    later a = omega (arith)

    same : (a : ℕ) → (a == a + 0) ≡ true
    same a = ap (λ b. a == b) (sym (add-zero a)) ∙ eq-itself a
spots-there id n (suc j) (FuncItem f ∷ items) =
    ap (λ b. either (cond b (option_map (spot_of n) (param_in id f.params)) None) (spots_at id (n + suc j) (suc n) items)) (eq-other n (n + suc j) (more n j))
    ∙ ap (λ k. spots_at id k (suc n) items) (next n j)
    ∙ spots-there id (suc n) j items
    ∙ ap (λ k. param_there id k (slice_get (funcs_of items) j)) (sym (next n j))
  where
    more : (a b : ℕ) → a ≡ a + suc b → ⊥
    more a b e = omega (arith, e)

    next : (a b : ℕ) → a + suc b ≡ suc a + b
    next a b = omega (arith)

-- ---- the parameter of an id, in the first function that has it

none-there : (id : Id) (n : ℕ) (fs : List Func) → ((j : ℕ) → param_there id (n + j) (slice_get fs j) ≡ None) → spot_from id n fs ≡ None
none-there id n [] none = refl
none-there id n (f ∷ fs) none =
    ap (λ o. either o (spot_from id (suc n) fs)) (ap (λ k. option_map (spot_of k) (param_in id f.params)) (add-zero n) ∙ none 0)
    ∙ none-there id (suc n) fs (λ j. ap (λ k. param_there id k (slice_get fs j)) (next n j) ∙ none (suc j))
  where
    add-zero : (a : ℕ) → a ≡ a + 0
    add-zero a = omega (arith)

    next : (a b : ℕ) → suc a + b ≡ a + suc b
    next a b = omega (arith)

some-there : (id : Id) (s : ParamSpot) (n j : ℕ) (fs : List Func) → param_there id (n + j) (slice_get fs j) ≡ Some s → ((i : ℕ) → (i ≡ j → ⊥) → param_there id (n + i) (slice_get fs i) ≡ None) → spot_from id n fs ≡ Some s
some-there id s n j [] is none = absurd (none-some is)
some-there id s n zero (f ∷ fs) is none = ap (λ o. either o (spot_from id (suc n) fs)) (ap (λ k. option_map (spot_of k) (param_in id f.params)) (add-zero n) ∙ is)
  where
    add-zero : (a : ℕ) → a ≡ a + 0
    add-zero a = omega (arith)
some-there id s n (suc j) (f ∷ fs) is none =
    ap (λ o. either o (spot_from id (suc n) fs)) (ap (λ k. option_map (spot_of k) (param_in id f.params)) (add-zero n) ∙ none 0 (not-zero j))
    ∙ some-there id s (suc n) j fs (ap (λ k. param_there id k (slice_get fs j)) (next n j) ∙ is) (λ i ne. ap (λ k. param_there id k (slice_get fs i)) (next n i) ∙ none (suc i) (λ e. ne (pred i j e)))
  where
    add-zero : (a : ℕ) → a ≡ a + 0
    add-zero a = omega (arith)

    next : (a b : ℕ) → suc a + b ≡ a + suc b
    next a b = omega (arith)

    not-zero : (a : ℕ) → 0 ≡ suc a → ⊥
    not-zero a e = omega (arith, e)

    pred : (a b : ℕ) → suc a ≡ suc b → a ≡ b
    pred a b e = omega (arith, e)

zero-add : (a : ℕ) → 0 + a ≡ a
zero-add a = omega (arith)

-- what is kept of each function tells the first
pub kept-first : (id : Id) (o : Option ParamSpot) (fs : List Func) → ((k : ℕ) → of_func k o ≡ param_there id k (slice_get fs k)) → o ≡ spot_from id 0 fs
kept-first id None fs each = sym (none-there id 0 fs (λ j. ap (λ k. param_there id k (slice_get fs j)) (zero-add j) ∙ sym (each j)))
kept-first id (Some s) fs each =
    sym (some-there id s 0 s.func fs
    (ap (λ k. param_there id k (slice_get fs s.func)) (zero-add s.func) ∙ sym (each s.func) ∙ ap (λ b. cond b (Some s) None) (eq-itself s.func))
    (λ i ne. ap (λ k. param_there id k (slice_get fs i)) (zero-add i) ∙ sym (each i) ∙ ap (λ b. cond b (Some s) None) (eq-other s.func i (λ e. ne (sym e)))))

-- and what is told of a parameter
pub told-first : (id : Id) (n : ℕ) (fs : List Func) → option_map spot_told (spot_from id n fs) ≡ option_map param_told (param_of id fs)
told-first id n [] = refl
told-first id n (f ∷ fs) = by (param_in id f.params) (told-first id (suc n) fs)
  where
    by : (o : Option Param) → option_map spot_told (spot_from id (suc n) fs) ≡ option_map param_told (param_of id fs) → option_map spot_told (either (option_map (spot_of n) o) (spot_from id (suc n) fs)) ≡ option_map param_told (either o (param_of id fs))
    by None rest = rest
    by (Some p) rest = refl
