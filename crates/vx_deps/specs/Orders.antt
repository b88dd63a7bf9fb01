-- The order of the window of bundles by what a graph keeps, without a module.
--
-- It is that of the window's definition, with ids in the place of instructions and what is kept in the place of dependences.
use Rattle.std.specs.Prelude.{◌≡◌, refl, ℕ, suc, Bool, ◌&&◌, cond, Option, None, Some, List, [], ◌∷◌, ◌++◌, map, slice_get, option_map, get_or, true}
use Rattle.std.specs.List.{list_any}
use Rattle.ir_types.specs.declared.id.Id.{Id}
use Rattle.ir_types.specs.declared.inst.Inst.{Inst}
use Rattle.ir_types.specs.declared.module.Module.{Module}
use Rattle.ir_types.specs.Available.{same_id}
use Rattle.vx_order.specs.Order.{order_of}
use Rattle.vx_view.specs.Answers.{found, Standing}
use Rattle.vx_serial.specs.Window as window
use Rattle.vx_serial.specs.Window.{is_member, id}
use Rattle.vx_deps.specs.Graphs.{Kept, keeps, ids_of}

-- whether the second, which stands later, depends on the first
abbrev pub Keeps : Type 0
Keeps = Id → Id → Bool

-- the ids from the first member on
abbrev pub from_member : List (List Id) → List Id → List Id
from_member bundles [] = []
from_member bundles (x ∷ xs) = cond (is_member bundles x) (x ∷ xs) (from_member bundles xs)

abbrev pub place_of : List Id → Id → ℕ
place_of [] x = 0
place_of (y ∷ ys) x = cond (same_id y x) 0 (suc (place_of ys x))

abbrev pub singles : List (List Id) → ℕ → List Id → List (List ℕ)
singles bundles at [] = []
singles bundles at (x ∷ xs) = cond (is_member bundles x) (singles bundles (suc at) xs) ((at ∷ []) ∷ singles bundles (suc at) xs)

abbrev pub groups_in : List (List Id) → List Id → List (List ℕ)
groups_in bundles ids = map (map (place_of ids)) bundles ++ singles bundles 0 ids

abbrev pub edges_from : Keeps → ℕ → Id → ℕ → List Id → List (ℕ × ℕ)
edges_from keeps from x at [] = []
edges_from keeps from x at (y ∷ ys) = cond (keeps x y) ((from, at) ∷ edges_from keeps from x (suc at) ys) (edges_from keeps from x (suc at) ys)

abbrev pub edges_in : Keeps → ℕ → List Id → List (ℕ × ℕ)
edges_in keeps at [] = []
edges_in keeps at (x ∷ xs) = edges_from keeps at x (suc at) xs ++ edges_in keeps (suc at) xs

abbrev pub with_id : Option Id → List Id → List Id
with_id None xs = xs
with_id (Some x) xs = x ∷ xs

abbrev pub ids_at : List Id → List ℕ → List Id
ids_at ids [] = []
ids_at ids (p ∷ ps) = with_id (slice_get ids p) (ids_at ids ps)

-- the groups of the window in their order
abbrev pub order_in : Keeps → List Id → List (List Id) → Option (List (List Id))
order_in keeps ids bundles = option_map (map (λ g. ids_at ids (get_or (groups_in bundles ids) g []))) (order_of (groups_in bundles ids) (edges_in keeps 0 ids))

-- the ids of the window of bundles, which runs from the first member to the last that is held
abbrev pub window_ids : List Kept → List (List Id) → List Id
window_ids kept bundles = from_member bundles (ids_of kept)

-- its order
abbrev pub order : List Kept → List (List Id) → Option (List (List Id))
order kept bundles = order_in (keeps kept) (window_ids kept bundles) bundles

-- all members are among these
abbrev pub HaveMembers : List Id → List (List Id) → Type 0
HaveMembers ids bundles = (x : Id) → is_member bundles x ≡ true → list_any (same_id x) ids ≡ true

abbrev pub ids_in : List (List Inst) → List (List Id)
ids_in groups = map (map (λ (i : Inst). i.id)) groups

-- in a module the last that is held stands in a block, and the order is that of the window of bundles there
pub record IsWindowOrder (m : Module) (last : Id) (kept : List Kept) (bundles : List (List Id)) : Type 0 where
  pub standing : Standing
  pub there : found m last ≡ Some standing
  pub same : option_map ids_in (window.order m standing.block last bundles) ≡ order kept bundles

-- ---- worked examples: of the ids 0, 1 and 2 the first and the last are a bundle

abbrev pub links : List (ℕ × ℕ) → Keeps
links es a b = list_any (λ e. same_id a (id e.0) && same_id b (id e.1)) es

abbrev order_of_three : List (ℕ × ℕ) → Option (List (List Id))
order_of_three es = order_in (links es) (id 0 ∷ id 1 ∷ id 2 ∷ []) ((id 0 ∷ id 2 ∷ []) ∷ [])

-- 1 depends on 0, and 2 on 1
no_order : order_of_three ((0, 1) ∷ (1, 2) ∷ []) ≡ None
no_order = refl

-- 2 depends on 1 alone
after_the_single : order_of_three ((1, 2) ∷ []) ≡ Some ((id 1 ∷ []) ∷ (id 0 ∷ id 2 ∷ []) ∷ [])
after_the_single = refl
