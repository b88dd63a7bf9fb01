-- What a graph of dependences holds, and for which modules that is right.
--
-- A graph holds instructions of one block one after another, and keeps of each what it does to memory; it tells from these whether a
-- later one depends on an earlier one. It is right for a module where they stand there so and what is kept of each is so. An empty graph
-- is right for every module. A graph grows by the instruction just before its first, so what it holds is told with the last first.
use Rattle.std.specs.Prelude.{◌≡◌, refl, ◌⊎◌, Bool, true, false, ◌&&◌, ◌||◌, cond, Option, None, Some, List, [], ◌∷◌, ◌++◌, map, reverse, ⊤}
use Rattle.ir_types.specs.declared.id.Id.{Id}
use Rattle.ir_types.specs.declared.id.Place.{Place}
use Rattle.ir_types.specs.declared.opd.Opd.{Opd}
use Rattle.ir_types.specs.declared.inst.Inst.{Inst}
use Rattle.ir_types.specs.declared.module.Module.{Module}
use Rattle.ir_types.specs.Available.{same_id}
use Rattle.ir_types.specs.Formed.{is_alloca}
use Rattle.vx_view.specs.declared.question.Question.{Question}
use Rattle.vx_view.specs.declared.question.Question.TheVariants as ask
use Rattle.vx_view.specs.Answers.{found, after, is_value, Standing}
use Rattle.vx_view.specs.Blocks.{block_at}
use Rattle.vx_view.specs.Conflicts.{access_of, depends}
use Rattle.vx_addr.specs.Effects.{Effect, effect_of, effects_conflict}
use Rattle.vx_addr.specs.Parts.{as_effect}
use Rattle.vx_addr.specs.Walks.{Names, on_access}
use Rattle.vx_serial.specs.Window.{id, load, store}
use Rattle.vx_deps.specs.declared.node.Node.{Node}
use Rattle.vx_deps.specs.declared.graph.Graph.{Graph}

-- an instruction that is held, with what it does to memory
pub record Kept : Type 0 where
  pub inst : Inst
  pub effect : Effect

abbrev pub as_node : Node → Kept
as_node n = record { inst = n.inst; effect = as_effect n.effect }

-- what is held, the last of the block first
abbrev pub held : Graph → List Kept
held g = map as_node g.nodes

-- its instructions in block order
abbrev pub insts_of : List Kept → List Inst
insts_of kept = reverse (map (λ (k : Kept). k.inst) kept)

-- their ids in block order
abbrev pub ids_of : List Kept → List Id
ids_of kept = reverse (map (λ (k : Kept). k.inst.id) kept)

-- ---- dependences

abbrev pub uses : Id → List Opd → Bool
uses x [] = false
uses x (o ∷ os) = is_value x o || uses x os

-- the first, which stands later, depends on the second: it uses its result, conflicts with it, or both are allocas
abbrev pub depends_on : Kept → Kept → Bool
depends_on later earlier = uses earlier.inst.id later.inst.opds || effects_conflict earlier.effect later.effect || is_alloca earlier.inst.op && is_alloca later.inst.op

abbrev pub kept_of : Id → List Kept → Option Kept
kept_of x [] = None
kept_of x (k ∷ ks) = cond (same_id k.inst.id x) (Some k) (kept_of x ks)

abbrev pub between : Option Kept → Option Kept → Bool
between (Some earlier) (Some later) = depends_on later earlier
between _ _ = false

-- whether of two that are held the second depends on the first
abbrev pub keeps : List Kept → Id → Id → Bool
keeps kept earlier later = between (kept_of earlier kept) (kept_of later kept)

-- ---- right

-- what is kept of an instruction of a block
pub record IsKeptOf (insts : List Inst) (m : Module) (i : Inst) (k : Kept) : Type 0 where
  pub inst : k.inst ≡ i
  pub effect : k.effect ≡ effect_of m insts i

abbrev pub AreKept : List Inst → Module → List Kept → Type 0
AreKept insts m [] = ⊤
AreKept insts m (k ∷ ks) = IsKeptOf insts m k.inst k × AreKept insts m ks

-- what is held stands in a block, one after another, and what is kept is of that block
pub record IsPart (m : Module) (kept : List Kept) : Type 0 where
  pub place : Place
  pub before : List Inst
  pub after : List Inst
  pub whole : block_at m place ≡ before ++ (insts_of kept ++ after)
  pub are : AreKept (block_at m place) m kept

abbrev pub IsRight : Module → List Kept → Type 0
IsRight m [] = ⊤
IsRight m (k ∷ ks) = IsPart m (k ∷ ks)

-- an id is that of an instruction that is held
abbrev pub IsHeld : List Kept → Id → Type 0
IsHeld kept x = (k : Kept) × (kept_of x kept ≡ Some k)

-- both are instructions of one block of the module, and what is kept between them is whether the second depends on the first there
pub record TellsOf (m : Module) (kept : List Kept) (x y : Id) : Type 0 where
  pub earlier : Standing
  pub later : Standing
  pub earlier_found : found m x ≡ Some earlier
  pub later_found : found m y ≡ Some later
  pub one_block : earlier.block ≡ later.block
  pub same : keeps kept x y ≡ depends m earlier.block later.inst earlier.inst

-- ---- growing

-- what is kept of the instruction of an id, and which instruction stands after it
pub record IsNodeOf (m : Module) (x : Id) (successor : Option Id) (k : Kept) : Type 0 where
  pub standing : Standing
  pub found : found m x ≡ Some standing
  pub kept : IsKeptOf standing.block m standing.inst k
  pub next : after x standing.block ≡ successor

abbrev pub on_node : Option Standing → Id → Bool
on_node None y = false
on_node (Some s) y = on_access s.block (access_of s.inst) y

-- what is asked for one more: what stands after it, the instruction, and what the walks from its pointer come by
abbrev pub NamesNode : Module → Id → Question → Type 0
NamesNode m x q = (q ≡ ask.Next x) ⊎ ((q ≡ ask.Inst x) ⊎ Names (on_node (found m x)) q)

-- the instruction after is the first that is held, or none is held
abbrev pub Precedes : Option Id → List Id → Type 0
Precedes successor [] = ⊤
Precedes successor (x ∷ xs) = successor ≡ Some x

-- ---- worked examples: a load and a store that uses it

abbrev pub touching : Inst → Kept
touching i = record { inst = i; effect = record { call = false; minds = true; touch = None } }

used : keeps (touching (store 4 3 0) ∷ touching (load 3 1) ∷ []) (id 3) (id 4) ≡ true
used = refl

in_block_order : ids_of (touching (store 4 3 0) ∷ touching (load 3 1) ∷ []) ≡ id 3 ∷ id 4 ∷ []
in_block_order = refl
