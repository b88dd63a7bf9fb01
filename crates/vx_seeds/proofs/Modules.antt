-- One step of a module's items.
use Rattle.std.proofs.Common.{◌≡◌, ap, ◌∙◌, ℕ, zero, suc, ◌+◌, Some, List, [], ◌∷◌, ◌++◌, drop, slice_get, arith}
use Rattle.std.proofs.lemmas.List.{append_assoc}
use Rattle.ir_types.specs.declared.func.Func.{Func}
use Rattle.ir_types.specs.Available.{graph_of}
use Rattle.vx_serial.specs.declared.seed.Seed.{Seed}
use Rattle.vx_serial.specs.Regions.{regions_in, regions_of}

nil_cons : {A : Type 0} {x : A} {xs : List A} → [] ≡ x ∷ xs → ⊥
nil_cons e = cc

head_is : {A : Type 0} {x y : A} {xs ys : List A} → x ∷ xs ≡ y ∷ ys → x ≡ y
head_is e = cc

tail_is : {A : Type 0} {x y : A} {xs ys : List A} → x ∷ xs ≡ y ∷ ys → xs ≡ ys
tail_is e = cc

-- the function at which a rest begins
pub first_left : (n : ℕ) (fs rest : List Func) (f : Func) → drop n fs ≡ f ∷ rest → slice_get fs n ≡ Some f
first_left zero [] rest f e = absurd (nil_cons e)
first_left zero (g ∷ fs) rest f e = ap Some (head_is e)
first_left (suc n) [] rest f e = absurd (nil_cons e)
first_left (suc n) (g ∷ fs) rest f e = first_left n fs rest f e

rest_after : (n : ℕ) (fs rest : List Func) (f : Func) → drop n fs ≡ f ∷ rest → drop (suc n) fs ≡ rest
rest_after zero [] rest f e = absurd (nil_cons e)
rest_after zero (g ∷ fs) rest f e = tail_is e
rest_after (suc n) [] rest f e = absurd (nil_cons e)
rest_after (suc n) (g ∷ fs) rest f e = rest_after n fs rest f e

pub rest_left : (n more : ℕ) (fs rest : List Func) (f : Func) → more ≡ n + 1 → drop n fs ≡ f ∷ rest → drop more fs ≡ rest
rest_left n more fs rest f m e = let next : more ≡ suc n = omega arith in ap (λ k. drop k fs) next ∙ rest_after n fs rest f e

pub func_step : (w number more : ℕ) (f : Func) (fs : List Func) (before after : List Seed) → more ≡ number + 1 → after ≡ before ++ regions_in w number (graph_of f) 0 f.blocks →
    after ++ regions_of w more fs ≡ before ++ regions_of w number (f ∷ fs)
func_step w number more f fs before after m a =
    let next : more ≡ suc number = omega arith in
    ap (λ k. after ++ regions_of w k fs) next ∙ ap (λ l. l ++ regions_of w (suc number) fs) a
    ∙ append_assoc before (regions_in w number (graph_of f) 0 f.blocks) (regions_of w (suc number) fs)
