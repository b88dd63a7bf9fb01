-- What is held in block order, and the edges that it has.
use Rattle.std.specs.Prelude.{◌≡◌, refl, ℕ, suc, cond, List, [], ◌∷◌, ◌++◌, map, reverse}
use Rattle.ir_types.specs.declared.id.Id.{Id}
use Rattle.vx_serial.specs.Window.{is_member, load, store}
use Rattle.vx_deps.specs.Graphs.{Kept, depends_on, touching}

-- what is held in block order
abbrev pub row : List Kept → List Kept
row kept = reverse kept

abbrev pub row_ids : List Kept → List Id
row_ids row = map (λ (k : Kept). k.inst.id) row

-- from the first member of bundles on
abbrev pub from_member : List (List Id) → List Kept → List Kept
from_member bundles [] = []
from_member bundles (k ∷ ks) = cond (is_member bundles k.inst.id) (k ∷ ks) (from_member bundles ks)

-- from one place to those after it that depend on it
abbrev pub edges_of : ℕ → Kept → ℕ → List Kept → List (ℕ × ℕ)
edges_of from k at [] = []
edges_of from k at (j ∷ js) = cond (depends_on j k) ((from, at) ∷ edges_of from k (suc at) js) (edges_of from k (suc at) js)

abbrev pub edges_between : ℕ → List Kept → List (ℕ × ℕ)
edges_between at [] = []
edges_between at (k ∷ ks) = edges_of at k (suc at) ks ++ edges_between (suc at) ks

-- a worked example: a load and a store that uses it
of_a_use : edges_between 0 (row (touching (store 4 3 0) ∷ touching (load 3 1) ∷ [])) ≡ (0, 1) ∷ []
of_a_use = refl
