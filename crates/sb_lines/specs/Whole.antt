-- Nodes that are rings of their blocks.
--
-- Each block has its mark and a ring of nodes, each of which names its neighbours and stands once in it. A node holds an instruction exactly
-- where it is in the ring of that instruction's block; the node of each id holds its instruction, or nothing.
use Rattle.std.specs.Prelude.{◌≡◌, refl, ℕ, ◌==◌, ◌<◌, Bool, true, false, cond, Some, IsSome, is_some, List, [], ◌∷◌, length, slice_get, ⊤}
use Rattle.ir_types.specs.declared.id.Id.{Id}
use Rattle.ir_types.specs.declared.id.Place.{Place}
use Rattle.ir_types.specs.declared.inst.Inst.{Inst}
use Rattle.ir_types.specs.IdTable.{found as item_of}
use Rattle.vx_view.specs.Answers.{funcs_of}
use Rattle.sb_lines.specs.declared.nodes.Held.{Held}
use Rattle.sb_lines.specs.declared.nodes.Held.TheVariants.{Block, Line, Gone}
use Rattle.sb_lines.specs.declared.arena.Arena.{Arena}
use Rattle.sb_lines.specs.Filling.{has_block}
use Rattle.sb_lines.specs.Nodes.{held, next, prev}
use Rattle.sb_lines.specs.Arena.{mark, node}
use Rattle.sb_lines.specs.Params.{of_func, param_there}

-- ---- rings

abbrev pub has : ℕ → List ℕ → Bool
has y [] = false
has y (x ∷ xs) = cond (x == y) true (has y xs)

-- no node is there twice
abbrev pub Apart : List ℕ → Type 0
Apart [] = ⊤
Apart (x ∷ xs) = (has x xs ≡ false) × Apart xs

-- from `a` on the nodes name each other, up to `t`
abbrev pub Seg : (ℕ → ℕ) → (ℕ → ℕ) → ℕ → List ℕ → ℕ → Type 0
Seg n p a [] t = (n a ≡ t) × (p t ≡ a)
Seg n p a (x ∷ xs) t = ((n a ≡ x) × (p x ≡ a)) × Seg n p x xs t

pub record IsRing (a : Arena) (place : Place) (m : ℕ) (ys : List ℕ) : Type 0 where
  pub at_mark : held a.nodes.items m ≡ Block place
  pub seg : Seg (next a.nodes.items) (prev a.nodes.items) m ys m
  pub once : Apart ys
  pub each : (y : ℕ) → has y ys ≡ true → (inst : Inst) × (held a.nodes.items y ≡ Line place inst)

-- the node of an instruction is in the ring of its block
pub record IsStanding (a : Arena) (y : ℕ) (place : Place) (inst : Inst) (ys : List ℕ) : Type 0 where
  pub marked : IsSome (mark a place)
  pub there : has y ys ≡ true
  pub known : node a inst.id ≡ Some y

-- a node of an id holds its instruction, or nothing
abbrev pub IsOf : Id → Held → Type 0
IsOf id (Line place inst) = inst.id ≡ id
IsOf id Gone = ⊤
IsOf id (Block place) = ⊥

pub record IsRings (a : Arena) : Type 0 where
  pub ring : Place → List ℕ
  pub rings : (place : Place) (m : ℕ) → mark a place ≡ Some m → IsRing a place m (ring place)
  pub lines : (y : ℕ) (place : Place) (inst : Inst) → held a.nodes.items y ≡ Line place inst → IsStanding a y place inst (ring place)
  pub nodes : (id : Id) (y : ℕ) → node a id ≡ Some y → (y < length a.nodes.items) × IsOf id (held a.nodes.items y)
  pub marks : (y : ℕ) (place : Place) → held a.nodes.items y ≡ Block place → mark a place ≡ Some y
  pub single : (x z : Id) (y : ℕ) → node a x ≡ Some y → node a z ≡ Some y → x ≡ z

-- ---- the whole

pub record IsWhole (a : Arena) : Type 0 where
  pub rings : IsRings a
  -- the blocks have marks, and nothing else has
  pub marked : (place : Place) → is_some (mark a place) ≡ has_block a.frame place
  -- parameters are those of the functions
  pub params : (id : Id) (func : ℕ) → of_func func (item_of a.params id) ≡ param_there id func (slice_get (funcs_of a.frame.items) func)
  pub funcs : a.funcs ≡ length (funcs_of a.frame.items)

-- ---- worked examples: a ring of a mark 0 with the nodes 2 and 1

abbrev after : ℕ → ℕ
after x = cond (x == 0) 2 (cond (x == 2) 1 0)

abbrev before : ℕ → ℕ
before x = cond (x == 0) 1 (cond (x == 1) 2 0)

they_name_each_other : Seg after before 0 (2 ∷ 1 ∷ []) 0
they_name_each_other = ((refl, refl), ((refl, refl), (refl, refl)))

each_is_there_once : Apart (2 ∷ 1 ∷ [])
each_is_there_once = (refl, (refl, tt))
