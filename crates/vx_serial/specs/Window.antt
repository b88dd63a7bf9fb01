-- The window of a list of bundles in a block, and its order.
--
-- The window runs from the first member of any bundle to the last instruction that is looked at. Each bundle is a group, its members in
-- their own order, and each other instruction of the window is a group by itself. An edge leads from an instruction of the window to each
-- later one that depends on it. In the order comes, at each place, among the groups all of whose predecessors are placed, the one whose
-- first member stands first; there is none where the edges between groups have a cycle.
use Rattle.std.specs.Prelude.{◌≡◌, refl, ℕ, zero, suc, Bool, true, false, ◌&&◌, ◌||◌, nat_eq, cond, Option, None, Some, List, [], ◌∷◌, ◌++◌, map, slice_get, option_map, get_or}
use Rattle.std.specs.List.{list_any}
use Rattle.std.specs.Int.{int_wrap}
use Rattle.ir_types.specs.declared.id.Id.{Id}
use Rattle.ir_types.specs.declared.ty.Ty.{Ty}
use Rattle.ir_types.specs.declared.ty.Ty.TheVariants.{Int, Ptr}
use Rattle.ir_types.specs.declared.op.Op.TheVariants.{Load, Store}
use Rattle.ir_types.specs.declared.inst.Inst.{Inst}
use Rattle.ir_types.specs.declared.module.Module.{Module}
use Rattle.ir_types.specs.Available.{same_id}
use Rattle.vx_order.specs.Order.{order_of}
use Rattle.vx_view.specs.Conflicts.{depends}
use Rattle.vx_view.specs.Addresses.{value, number, line}

-- ---- the window

abbrev pub is_member : List (List Id) → Id → Bool
is_member bundles id = list_any (λ bundle. list_any (same_id id) bundle) bundles

-- the instructions up to the one of an id, with it
abbrev pub up_to : Id → List Inst → List Inst
up_to last [] = []
up_to last (i ∷ is) = i ∷ cond (same_id i.id last) [] (up_to last is)

-- the instructions from the first member on
abbrev pub from_member : List (List Id) → List Inst → List Inst
from_member bundles [] = []
from_member bundles (i ∷ is) = cond (is_member bundles i.id) (i ∷ is) (from_member bundles is)

-- the window of bundles in a block, up to a last instruction
abbrev pub window : List Inst → Id → List (List Id) → List Inst
window block last bundles = from_member bundles (up_to last block)

-- ---- groups

-- the place of an id's instruction
abbrev pub place_of : List Inst → Id → ℕ
place_of [] id = 0
place_of (i ∷ is) id = cond (same_id i.id id) 0 (suc (place_of is id))

-- each that is no member by itself, where the first stands at a place
abbrev pub singles : List (List Id) → ℕ → List Inst → List (List ℕ)
singles bundles at [] = []
singles bundles at (i ∷ is) = cond (is_member bundles i.id) (singles bundles (suc at) is) ((at ∷ []) ∷ singles bundles (suc at) is)

-- the groups of a window, as lists of places
abbrev pub groups_in : List (List Id) → List Inst → List (List ℕ)
groups_in bundles insts = map (map (place_of insts)) bundles ++ singles bundles 0 insts

-- ---- edges

-- from one place to those after it that depend on it
abbrev pub edges_from : Module → List Inst → ℕ → Inst → ℕ → List Inst → List (ℕ × ℕ)
edges_from m block from i at [] = []
edges_from m block from i at (j ∷ js) =
    cond (depends m block j i) ((from, at) ∷ edges_from m block from i (suc at) js) (edges_from m block from i (suc at) js)

-- the edges between instructions of a block of which the first stands at a place
abbrev pub edges_in : Module → List Inst → ℕ → List Inst → List (ℕ × ℕ)
edges_in m block at [] = []
edges_in m block at (i ∷ is) = edges_from m block at i (suc at) is ++ edges_in m block (suc at) is

-- ---- the order

-- an instruction, if it is there, before others
abbrev pub with_inst : Option Inst → List Inst → List Inst
with_inst None is = is
with_inst (Some i) is = i ∷ is

abbrev pub insts_at : List Inst → List ℕ → List Inst
insts_at insts [] = []
insts_at insts (p ∷ ps) = with_inst (slice_get insts p) (insts_at insts ps)

-- the groups of a window of a block in their order, the members of each in theirs
abbrev pub order_in : Module → List Inst → List Inst → List (List Id) → Option (List (List Inst))
order_in m block insts bundles =
    option_map (map (λ g. insts_at insts (get_or (groups_in bundles insts) g []))) (order_of (groups_in bundles insts) (edges_in m block 0 insts))

-- the order of the window of bundles in a block
abbrev pub order : Module → List Inst → Id → List (List Id) → Option (List (List Inst))
order m block last bundles = order_in m block (window block last bundles) bundles

-- groups one after another
abbrev pub joined : {A : Type 0} → List (List A) → List A
joined [] = []
joined (g ∷ gs) = g ++ joined gs

-- ---- worked examples: two loads, a store through the first pointer between them, and a store of the second load

abbrev pub id : ℕ → Id
id k = record { region = 0; k = k }

abbrev pub load : ℕ → ℕ → Inst
load k p = line k (Int 32) (Load 4) (value p ∷ [])

abbrev pub store : ℕ → ℕ → ℕ → Inst
store k v p = line k (Int 32) (Store 4) (value v ∷ value p ∷ [])

abbrev nothing : Module
nothing = record { items = []; globals = []; big_endian_line = None }

abbrev pub block : List Inst
block = load 2 0 ∷ load 3 1 ∷ store 4 3 0 ∷ load 5 0 ∷ store 6 5 1 ∷ []

-- from the first member to the last instruction looked at
window_of_two : window block (id 5) ((id 5 ∷ id 3 ∷ []) ∷ []) ≡ load 3 1 ∷ store 4 3 0 ∷ load 5 0 ∷ []
window_of_two = refl

-- a bundle is a group with its members in its own order
groups_of_two : groups_in ((id 5 ∷ id 3 ∷ []) ∷ []) (load 3 1 ∷ store 4 3 0 ∷ load 5 0 ∷ []) ≡ (2 ∷ 0 ∷ []) ∷ (1 ∷ []) ∷ []
groups_of_two = refl

-- the store stands between loads of one bundle, and both depend on it or it on them
no_order : order nothing block (id 5) ((id 5 ∷ id 3 ∷ []) ∷ []) ≡ None
unfolding int_wrap
no_order = refl

-- the store of 4 and the load of 5 from what may be the same pointer keep their order; the loads of 2 and 3 come together, by lanes
loads_first : order nothing block (id 4) ((id 3 ∷ id 2 ∷ []) ∷ []) ≡ Some ((load 3 1 ∷ load 2 0 ∷ []) ∷ (store 4 3 0 ∷ []) ∷ [])
unfolding int_wrap
loads_first = refl
