-- The tree of a region: its stores, and what they store, bundle by bundle.
--
-- A bundle is visited once; how it is had is decided by what was visited before. The slots of a bundle that is widened are visited from left
-- to right, each with all it leads to before the next. The slot of a store is its value, and a load has none. Nodes are numbered as they are
-- visited.
use Rattle.std.specs.Prelude.{◌≡◌, refl, ℕ, zero, suc, Bool, true, false, cond, Option, None, Some, List, [], ◌∷◌, ◌++◌, length, slice_get}
use Rattle.std.specs.List.{list_any}
use Rattle.std.specs.Int.{int_wrap}
use Rattle.ir_types.specs.declared.id.Id.{Id}
use Rattle.ir_types.specs.declared.opd.Opd.{Opd}
use Rattle.ir_types.specs.declared.opd.Opd.TheVariants.{Val}
use Rattle.ir_types.specs.declared.op.Op.{Op}
use Rattle.ir_types.specs.declared.op.Op.TheVariants.{Load, Store}
use Rattle.ir_types.specs.declared.inst.Inst.{Inst}
use Rattle.ir_types.specs.declared.module.Module.{Module}
use Rattle.ir_types.specs.Available.{same_id}
use Rattle.vx_view.specs.Addresses.{value, block_of}
use Rattle.vx_view.specs.Answers.{found}
use Rattle.vx_serial.specs.Window.{id}
use Rattle.vx_serial.specs.declared.cause.Cause.TheVariants.{Outside}
use Rattle.vx_serial.specs.declared.node.How.{How}
use Rattle.vx_serial.specs.declared.node.How.TheVariants.{Widen, Pack}
use Rattle.vx_serial.specs.declared.node.Node.{Node}
use Rattle.vx_serial.specs.Legal.{insts_of, legal, sums_of, adding}

-- ---- slots

-- how many slots an operation has
abbrev pub slots_of : Op → List Opd → ℕ
slots_of (Load align) os = 0
slots_of (Store align) os = 1
slots_of _ os = length os

abbrev pub slot_count : List Inst → ℕ
slot_count [] = 0
slot_count (i ∷ is) = slots_of i.op i.opds

abbrev pub with_opd : Option Opd → List Opd → List Opd
with_opd None os = os
with_opd (Some o) os = o ∷ os

-- what instructions have in a slot
abbrev pub slot : ℕ → List Inst → List Opd
slot k [] = []
slot k (i ∷ is) = with_opd (slice_get i.opds k) (slot k is)

-- so many slots from one on
abbrev pub slots_from : ℕ → ℕ → List Inst → List (List Opd)
slots_from k zero is = []
slots_from k (suc n) is = slot k is ∷ slots_from (suc k) n is

-- ---- visits

-- a visit of lanes, after the nodes that stand already
abbrev pub Visit : Type 0
Visit = List Node → List Opd → List Node

-- bundles one after another, and the numbers of their nodes
abbrev pub visit_all : Visit → List (List Opd) → List Node → List ℕ → List Node × List ℕ
visit_all f [] tree numbers = (tree, numbers)
visit_all f (lanes ∷ more) tree numbers = visit_all f more (f tree lanes) (numbers ++ length tree ∷ [])

-- the slots of the node of a number
abbrev pub with_slots : ℕ → List ℕ → List Node → List Node
with_slots n slots [] = []
with_slots zero slots (x ∷ xs) = record { lanes = x.lanes; how = x.how; slots = slots } ∷ xs
with_slots (suc n) slots (x ∷ xs) = x ∷ with_slots n slots xs

abbrev pub node : List Opd → How → Node
node lanes h = record { lanes = lanes; how = h; slots = [] }

abbrev pub put_slots : ℕ → List Node × List ℕ → List Node
put_slots at r = with_slots at r.1 r.0

-- a node, and where it is widened all that its slots lead to
abbrev pub visited : Visit → List (List Opd) → List Node → List Opd → How → List Node
visited f slots tree lanes Widen = put_slots (length tree) (visit_all f slots (tree ++ node lanes Widen ∷ []) [])
visited f slots tree lanes h = tree ++ node lanes h ∷ []

-- a visit that goes so deep at most
abbrev pub visit : ℕ → Module → List Inst → Id → Visit
visit zero m block last tree lanes = tree
visit (suc n) m block last tree lanes =
    visited (visit n m block last) (slots_from 0 (slot_count (insts_of block lanes)) (insts_of block lanes)) tree lanes (legal m block last tree lanes)

-- ---- the tree

abbrev pub values_of : List Id → List Opd
values_of [] = []
values_of (x ∷ xs) = Val x ∷ values_of xs

-- the tree of stores of a block, of which `last` stands last; no instruction is widened twice, so it is no deeper than the block is long
abbrev pub tree_in : Module → List Inst → Id → List Id → List Node
tree_in m block last stores = visit (suc (length block)) m block last [] (values_of stores)

-- the one of some stores that stands last in a block
abbrev pub last_in : List Id → Id → List Inst → Id
last_in stores last [] = last
last_in stores last (i ∷ is) = last_in stores (cond (list_any (same_id i.id) stores) i.id last) is

abbrev pub tree_of : Module → List Id → List Node
tree_of m [] = []
tree_of m (s ∷ stores) = tree_in m (block_of (found m s)) (last_in (s ∷ stores) s (block_of (found m s))) (s ∷ stores)

-- ---- a worked example: two stores of sums of one pair of parameters, the second the other way round

abbrev of_sums : List Node
of_sums =
    record { lanes = value 6 ∷ value 7 ∷ []; how = Widen; slots = 1 ∷ [] }
    ∷ record { lanes = value 2 ∷ value 4 ∷ []; how = Widen; slots = 2 ∷ 3 ∷ [] }
    ∷ node (value 0 ∷ value 1 ∷ []) (Pack Outside)
    ∷ node (value 1 ∷ value 0 ∷ []) (Pack Outside) ∷ []

tree_of_sums : tree_of (adding (sums_of 0)) (id 6 ∷ id 7 ∷ []) ≡ of_sums
unfolding int_wrap
tree_of_sums = refl
