-- The names of functions are among the names of a module's items, so none is given twice.
use Rattle.std.proofs.Common.{◌≡◌, ℕ, suc, Option, None, Some, List, [], ◌∷◌, arith}
use Rattle.std.specs.List.{All, AllPairs}
use Rattle.std.proofs.lemmas.List.Elements.{All-nil, All-cons, All-head, All-tail}
use Rattle.std.proofs.lemmas.List.Kept.{AllPairs-cons}
use Rattle.ir_types.specs.declared.func.Func.{Func}
use Rattle.ir_types.specs.declared.module.Item.{Item}
use Rattle.ir_types.specs.declared.module.Item.TheVariants.{Kept, Opaque, Func as FuncItem}
use Rattle.ir_types.specs.Formed.{function_names}
use Rattle.rf_text.specs.OpaqueText.{opaque_name}
use Rattle.rf_text.specs.ModuleForms.{kept_at}
use Rattle.rf_text.specs.Printable.{in_front, tops_in}

abbrev pub Unlike : List ℕ → List ℕ → Type 0
Unlike a b = a ≡ b → ⊥

all_after : (P : List ℕ → Type 0) (name : Option (List ℕ)) (rest : List (List ℕ)) → All P (in_front name rest) → All P rest
all_after P None rest all = all
all_after P (Some name) rest all = All-tail P name rest all

pairs_after : (name : Option (List ℕ)) (rest : List (List ℕ)) → AllPairs Unlike (in_front name rest) → AllPairs Unlike rest
pairs_after None rest all = all
pairs_after (Some name) rest all = λ i j d less within. all (suc i) (suc j) d (omega (arith, less)) (omega (arith, within))

names_among : (P : List ℕ → Type 0) (is : List Item) → All P (tops_in is) → All P (function_names is)
names_among P [] all = all
names_among P (Kept text ∷ is) all = names_among P is (all_after P (kept_at text).symbol (tops_in is) all)
names_among P (Opaque text ∷ is) all = names_among P is (all_after P (opaque_name text) (tops_in is) all)
names_among P (FuncItem f ∷ is) all = All-cons P f.name (function_names is) (All-head P f.name (tops_in is) all) (names_among P is (All-tail P f.name (tops_in is) all))

first_apart : (name : List ℕ) (rest : List (List ℕ)) → AllPairs Unlike (name ∷ rest) → All (Unlike name) rest
first_apart name rest all = λ k d within. all 0 (suc k) d (omega arith) (omega (arith, within))

pub names_apart : (is : List Item) → AllPairs Unlike (tops_in is) → AllPairs Unlike (function_names is)
names_apart [] all = all
names_apart (Kept text ∷ is) all = names_apart is (pairs_after (kept_at text).symbol (tops_in is) all)
names_apart (Opaque text ∷ is) all = names_apart is (pairs_after (opaque_name text) (tops_in is) all)
names_apart (FuncItem f ∷ is) all =
    AllPairs-cons Unlike f.name (function_names is) (names_among (Unlike f.name) is (first_apart f.name (tops_in is) all))
    (names_apart is (pairs_after (Some f.name) (tops_in is) all))
