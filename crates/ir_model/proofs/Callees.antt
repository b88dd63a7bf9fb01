-- In a formed module no two functions have one name, so the function that a call names is one alone.
use Rattle.std.proofs.Common.{◌≡◌, refl, sym, ◌∙◌, subst, ℕ, zero, suc, ◌<◌, List, [], ◌∷◌, length, get_or, arith}
use Rattle.std.specs.List.{All, AllPairs, Contains}
use Rattle.std.proofs.lemmas.List.Elements.{All-head, All-tail}
use Rattle.ir_types.specs.declared.func.Func.{Func}
use Rattle.ir_types.specs.declared.module.Item.{Item}
use Rattle.ir_types.specs.declared.module.Item.TheVariants.{Kept, Opaque, Func as FuncItem}
use Rattle.ir_types.specs.declared.module.Module.{Module}
use Rattle.ir_types.specs.Formed.{function_names, IsFormed}

abbrev Unlike : List ℕ → List ℕ → Type 0
Unlike a b = a ≡ b → ⊥

first_apart : (name : List ℕ) (rest : List (List ℕ)) → AllPairs Unlike (name ∷ rest) → All (Unlike name) rest
first_apart name rest all = λ k d within. all 0 (suc k) d (omega arith) (omega (arith, within))

rest_apart : (name : List ℕ) (rest : List (List ℕ)) → AllPairs Unlike (name ∷ rest) → AllPairs Unlike rest
rest_apart name rest all = λ i j d less within. all (suc i) (suc j) d (omega (arith, less)) (omega (arith, within))

rest_all : (P : List ℕ → Type 0) (i : Item) (is : List Item) → All P (function_names (i ∷ is)) → All P (function_names is)
rest_all P (Kept text) is all = all
rest_all P (Opaque text) is all = all
rest_all P (FuncItem f) is all = All-tail P f.name (function_names is) all

rest_pairs : (i : Item) (is : List Item) → AllPairs Unlike (function_names (i ∷ is)) → AllPairs Unlike (function_names is)
rest_pairs (Kept text) is all = all
rest_pairs (Opaque text) is all = all
rest_pairs (FuncItem f) is all = rest_apart f.name (function_names is) all

-- what holds of each name holds of a function's
named_in : (P : List ℕ → Type 0) (is : List Item) → All P (function_names is) → (f : Func) (k : ℕ) → k < length is → get_or is k (FuncItem f) ≡ FuncItem f → P f.name
named_in P [] all f k less e = absurd (omega (arith, less))
named_in P (i ∷ is) all f zero less e =
    let here : All P (function_names (FuncItem f ∷ is)) = subst (λ (x : Item). All P (function_names (x ∷ is))) e all in
    All-head P f.name (function_names is) here
named_in P (i ∷ is) all f (suc k) less e = named_in P is (rest_all P i is all) f k (omega (arith, less)) e

func_is : (f g : Func) → FuncItem f ≡ FuncItem g → f ≡ g
func_is f g e = cc

-- a function in front and one after it have two names
apart_from : (i : Item) (is : List Item) → AllPairs Unlike (function_names (i ∷ is)) → (f g : Func) → i ≡ FuncItem f → (k : ℕ) → k < length is → get_or is k (FuncItem g) ≡ FuncItem g → f.name ≡ g.name → ⊥
apart_from i is all f g e k less there same =
    let pairs : AllPairs Unlike (function_names (FuncItem f ∷ is)) = subst (λ (x : Item). AllPairs Unlike (function_names (x ∷ is))) e all in
    named_in (Unlike f.name) is (first_apart f.name (function_names is) pairs) g k less there same

one_of_name : (is : List Item) → AllPairs Unlike (function_names is) → (f g : Func) (j k : ℕ) → j < length is → k < length is →
    get_or is j (FuncItem f) ≡ FuncItem f → get_or is k (FuncItem g) ≡ FuncItem g → f.name ≡ g.name → f ≡ g
one_of_name [] all f g j k in_j in_k at_j at_k same = absurd (omega (arith, in_j))
one_of_name (i ∷ is) all f g zero zero in_j in_k at_j at_k same = func_is f g (sym at_j ∙ at_k)
one_of_name (i ∷ is) all f g zero (suc k) in_j in_k at_j at_k same = absurd (apart_from i is all f g at_j k (omega (arith, in_k)) at_k same)
one_of_name (i ∷ is) all f g (suc j) zero in_j in_k at_j at_k same = absurd (apart_from i is all g f at_k j (omega (arith, in_j)) at_j (sym same))
one_of_name (i ∷ is) all f g (suc j) (suc k) in_j in_k at_j at_k same = one_of_name is (rest_pairs i is all) f g j k (omega (arith, in_j)) (omega (arith, in_k)) at_j at_k same

pub one_callee : (m : Module) → IsFormed m → (f g : Func) → Contains m.items (FuncItem f) → Contains m.items (FuncItem g) → f.name ≡ g.name → f ≡ g
one_callee m formed f g at to same = one_of_name m.items formed.plain.names f g at.0 to.0 at.1 to.1 at.2 to.2 same
