-- What holds of the nodes of a region's tree: how each is had is told by the nodes before it, and the slots of a widened one lead to nodes that
-- have the lanes of the slots.
use Rattle.std.specs.Prelude.{◌≡◌, refl, ℕ, suc, true, Some, List, [], ◌∷◌, slice_get, take, ⊤}
use Rattle.ir_types.specs.declared.id.Id.{Id}
use Rattle.ir_types.specs.declared.opd.Opd.{Opd}
use Rattle.ir_types.specs.declared.inst.Inst.{Inst}
use Rattle.ir_types.specs.declared.module.Module.{Module}
use Rattle.ir_types.specs.Formed.{IsFormed, IsLawful}
use Rattle.vx_view.specs.Addresses.{value}
use Rattle.vx_view.specs.Answers.{found}
use Rattle.vx_view.specs.Addresses.{block_of}
use Rattle.vx_serial.specs.declared.node.Node.{Node}
use Rattle.vx_serial.specs.Legal.{is_widened, insts_of, legal, sums_of}
use Rattle.vx_serial.specs.Tree.{slot_count, slots_from, node, values_of, last_in, tree_of}
use Rattle.vx_serial.specs.declared.cause.Cause.TheVariants.{Outside}
use Rattle.vx_serial.specs.declared.node.How.TheVariants.{Widen, Pack}

-- the nodes of these numbers have these lanes
abbrev pub Lead : List Node → List (List Opd) → List ℕ → Type 0
Lead tree [] [] = ⊤
Lead tree (lanes ∷ more) (q ∷ qs) = ((n : Node) × (slice_get tree q ≡ Some n) × (n.lanes ≡ lanes)) × Lead tree more qs
Lead tree _ _ = ⊥

abbrev pub slots_in : List Inst → List Opd → List (List Opd)
slots_in block lanes = slots_from 0 (slot_count (insts_of block lanes)) (insts_of block lanes)

-- a node of a number
pub record Complete (m : Module) (block : List Inst) (last : Id) (tree : List Node) (q : ℕ) (n : Node) : Type 0 where
  pub told : legal m block last (take q tree) n.lanes ≡ n.how
  pub leads : is_widened n.how ≡ true → Lead tree (slots_in block n.lanes) n.slots

-- the nodes from a number on
abbrev pub AllComplete : Module → List Inst → Id → List Node → ℕ → List Node → Type 0
AllComplete m block last tree q [] = ⊤
AllComplete m block last tree q (n ∷ ns) = Complete m block last tree q n × AllComplete m block last tree (suc q) ns

-- a tree begins with its stores, and all its nodes are so: it goes as deep as it must
pub record IsComplete (m : Module) (block : List Inst) (last : Id) (stores : List Id) (tree : List Node) : Type 0 where
  pub root : Node
  pub rest : List Node
  pub are : tree ≡ root ∷ rest
  pub lanes : root.lanes ≡ values_of stores
  pub nodes : AllComplete m block last tree 0 tree

-- the law
abbrev pub TreesAreComplete : Type 0
TreesAreComplete =
    (m : Module) (s : Id) (stores : List Id) → IsFormed m → IsLawful m (s ∷ stores) →
    IsComplete m (block_of (found m s)) (last_in (s ∷ stores) s (block_of (found m s))) (s ∷ stores) (tree_of m (s ∷ stores))

-- ---- a worked example: two sums, whose slots lead to nodes of their first and of their second operands

abbrev sums : List Node
sums =
    record { lanes = value 2 ∷ value 4 ∷ []; how = Widen; slots = 1 ∷ 2 ∷ [] }
    ∷ node (value 0 ∷ value 1 ∷ []) (Pack Outside)
    ∷ node (value 1 ∷ value 0 ∷ []) (Pack Outside) ∷ []

sums_lead : Lead sums (slots_in (sums_of 0) (value 2 ∷ value 4 ∷ [])) (1 ∷ 2 ∷ [])
sums_lead = ((node (value 0 ∷ value 1 ∷ []) (Pack Outside), refl, refl), ((node (value 1 ∷ value 0 ∷ []) (Pack Outside), refl, refl), tt))
