-- Availability: for each use and each walk to it, the definition stands on the walk before the use.
--
-- A walk to a use ends in the use's block, or for a phi in the incoming block of the slot. The definition stands before the use
-- where it is a parameter, or stands in an earlier block of the walk, or in the last block before the use; before a phi's use
-- stands all of the last block. A block that no walk reaches may use what it likes. (Language Reference, "Well-Formedness" and
-- "phi Instruction".) `IsAvailable` says it of a module; `IsFirstMiss` names the first use of which it fails, with the
-- shortest walk along which it fails, the least among those.
use Rattle.std.specs.Prelude.{◌≡◌, refl, ℕ, ◌-◌, ◌<◌, Bool, true, false, ◌&&◌, ◌||◌, ◌==◌, List, [], ◌∷◌, length, map, take, slice_get}
use Rattle.std.specs.List.{list_any}
use Rattle.std.specs.declared.option.Option.{Option}
use Rattle.std.specs.declared.option.Option.TheVariants.{None, Some}
use Rattle.ir_types.specs.declared.id.Id.{Id}
use Rattle.ir_types.specs.declared.opd.Opd.{Opd}
use Rattle.ir_types.specs.declared.opd.Opd.TheVariants.{Val}
use Rattle.ir_types.specs.declared.op.Op.{Op}
use Rattle.ir_types.specs.declared.op.Op.TheVariants.{Phi, Br, CondBr, Switch, Select, Ret}
use Rattle.ir_types.specs.declared.ty.Ty.TheVariants.{Void}
use Rattle.ir_types.specs.declared.inst.Inst.{Inst}
use Rattle.ir_types.specs.declared.func.Param.{Param}
use Rattle.ir_types.specs.declared.func.Block.{Block}
use Rattle.ir_types.specs.declared.func.Func.{Func}
use Rattle.ir_types.specs.declared.module.Item.{Item}
use Rattle.ir_types.specs.declared.module.Item.TheVariants.{Func as FuncItem}
use Rattle.ir_types.specs.declared.module.Module.{Module}
use Rattle.ir_types.specs.Walks.{IsWalk, EndsAt, Precedes}

-- ---- the graph of a function

-- the blocks to which an operation may go on, in the order in which it names them
abbrev pub op_targets : Op → List ℕ
op_targets (Br to) = to ∷ []
op_targets (CondBr first second) = first ∷ second ∷ []
op_targets (Switch other cases to) = other ∷ to
op_targets _ = []

abbrev pub targets_of : Option Inst → List ℕ
targets_of None = []
targets_of (Some inst) = op_targets inst.op

-- the targets of a block are those of its last instruction
abbrev pub block_targets : Block → List ℕ
block_targets block = targets_of (slice_get block.insts (length block.insts - 1))

-- for each block its targets
abbrev pub graph_of : Func → List (List ℕ)
graph_of func = map block_targets func.blocks

-- ---- what stands where

abbrev pub same_id : Id → Id → Bool
same_id a b = (a.region == b.region) && (a.k == b.k)

-- the value is a parameter
abbrev pub is_param : Id → Func → Bool
is_param value func = list_any (λ (p : Param). same_id p.id value) func.params

-- one of the instructions defines the value
abbrev pub defines : Id → List Inst → Bool
defines value insts = list_any (λ (i : Inst). same_id i.id value) insts

abbrev pub insts_of : Option Block → List Inst
insts_of None = []
insts_of (Some block) = block.insts

-- the instructions of a block; what is no block has none
abbrev pub insts_at : Func → ℕ → List Inst
insts_at func block = insts_of (slice_get func.blocks block)

-- the definition stands on a walk that begins with block a, of whose last block the first `before` instructions stand before the use
abbrev pub stands_from : Func → Id → ℕ → ℕ → List ℕ → Bool
stands_from func value before a [] = defines value (take before (insts_at func a))
stands_from func value before a (b ∷ rest) = defines value (insts_at func a) || stands_from func value before b rest

-- the definition stands before the use on the walk
abbrev pub stands_on : Func → Id → ℕ → List ℕ → Bool
stands_on func value before [] = is_param value func
stands_on func value before (a ∷ rest) = is_param value func || stands_from func value before a rest

-- ---- uses

-- the block in which a walk to the use in a slot ends; none for a phi's operand without an incoming block
abbrev pub walk_end : Op → ℕ → ℕ → Option ℕ
walk_end (Phi blocks) slot block = slice_get blocks slot
walk_end _ slot block = Some block

-- how many instructions of that last block stand before the use of an instruction at a position
abbrev pub before_use : Op → List Inst → ℕ → ℕ
before_use (Phi _) last position = length last
before_use _ last position = position

-- on each walk to the block, the definition stands before the use
abbrev pub IsAvailableAt : Func → Id → ℕ → ℕ → Type 0
IsAvailableAt func value before end =
    (walk : List ℕ) → IsWalk (graph_of func) walk → EndsAt walk end → stands_on func value before walk ≡ true

-- a walk to the block on which the definition does not stand before the use
abbrev pub IsMiss : Func → Id → ℕ → ℕ → List ℕ → Type 0
IsMiss func value before end walk = IsWalk (graph_of func) walk × EndsAt walk end × (stands_on func value before walk ≡ false)

-- the shortest such walk, the least among those
abbrev pub IsLeastMiss : Func → Id → ℕ → ℕ → List ℕ → Type 0
IsLeastMiss func value before end walk =
    IsMiss func value before end walk × ((other : List ℕ) → IsMiss func value before end other → Precedes walk other)

-- ---- lists of which each member, or all before one, are fine

-- each member is fine at its place
abbrev pub Each : {X : Type 0} → (ℕ → X → Type 0) → List X → Type 0
Each {X} Fine xs = (k : ℕ) (x : X) → slice_get xs k ≡ Some x → Fine k x

-- each of the first n members is fine
abbrev pub EachBefore : {X : Type 0} → (ℕ → X → Type 0) → List X → ℕ → Type 0
EachBefore {X} Fine xs n = (k : ℕ) (x : X) → k < n → slice_get xs k ≡ Some x → Fine k x

-- some member fails, and each before it is fine
abbrev pub First : {X : Type 0} → (ℕ → X → Type 0) → (ℕ → X → Type 0) → List X → Type 0
First {X} Fine Fails xs = (k : ℕ) × (x : X) × (slice_get xs k ≡ Some x) × EachBefore Fine xs k × Fails k x

-- ---- the module

-- the operand in a slot is available, where it is a value
abbrev pub IsAvailableOpd : Func → ℕ → ℕ → Inst → ℕ → Opd → Type 0
IsAvailableOpd func block position inst slot (Val value) =
    (end : ℕ) → walk_end inst.op slot block ≡ Some end → IsAvailableAt func value (before_use inst.op (insts_at func end) position) end
IsAvailableOpd func block position inst slot _ = Unit {0}

abbrev pub IsAvailableInst : Func → ℕ → ℕ → Inst → Type 0
IsAvailableInst func block position inst = Each (IsAvailableOpd func block position inst) inst.opds

abbrev pub IsAvailableBlock : Func → ℕ → Block → Type 0
IsAvailableBlock func number block = Each (IsAvailableInst func number) block.insts

abbrev pub IsAvailableFunc : Func → Type 0
IsAvailableFunc func = Each (IsAvailableBlock func) func.blocks

abbrev pub IsAvailableItem : ℕ → Item → Type 0
IsAvailableItem _ (FuncItem func) = IsAvailableFunc func
IsAvailableItem _ _ = Unit {0}

-- every use in every function of the profile is available along every walk
abbrev pub IsAvailable : Module → Type 0
IsAvailable m = Each IsAvailableItem m.items

-- ---- the first use that is not available

-- the slot's operand is a value, and the walk is the least that misses its definition
abbrev pub OpdMisses : List ℕ → Func → ℕ → ℕ → Inst → ℕ → Opd → Type 0
OpdMisses walk func block position inst slot (Val value) =
    (end : ℕ) × (walk_end inst.op slot block ≡ Some end)
    × IsLeastMiss func value (before_use inst.op (insts_at func end) position) end walk
OpdMisses walk func block position inst slot _ = ⊥

module _ (user : Id) (slot : ℕ) (walk : List ℕ) where
  -- the first of the instruction's operands that misses is in that slot
  abbrev pub InstMisses : Func → ℕ → ℕ → Inst → Type 0
  InstMisses func block position inst =
      (inst.id ≡ user)
      × First (IsAvailableOpd func block position inst) (λ k opd. (k ≡ slot) × OpdMisses walk func block position inst k opd) inst.opds

  abbrev pub BlockMisses : Func → ℕ → Block → Type 0
  BlockMisses func number block = First (IsAvailableInst func number) (InstMisses func number) block.insts

  abbrev pub FuncMisses : Func → Type 0
  FuncMisses func = First (IsAvailableBlock func) (BlockMisses func) func.blocks

  abbrev pub ItemMisses : ℕ → Item → Type 0
  ItemMisses _ (FuncItem func) = FuncMisses func
  ItemMisses _ _ = ⊥

  -- the use in that slot of the user is the first in order of text that is not available, with its least walk
  abbrev pub IsFirstMiss : Module → Type 0
  IsFirstMiss m = First IsAvailableItem ItemMisses m.items

-- ---- a worked example: the value 2 comes to block 2 by block 1 alone

abbrev value : ℕ → Id
value k = record { region = 0; k = k }

abbrev step : ℕ → Op → Inst
step k op = record { id = value k; name = None; ty = Void; op = op; opds = [] }

abbrev block : List Inst → Block
block insts = record { name = None; insts = insts }

abbrev one_way : Func
one_way =
    record {
      before = [];
      ret = Void;
      name = [];
      params = [];
      after = [];
      blocks = block (step 1 (CondBr 1 2) ∷ []) ∷ block (step 2 Select ∷ step 3 (Br 2) ∷ []) ∷ block (step 4 Ret ∷ []) ∷ [];
    }

graph_of-one_way : graph_of one_way ≡ (1 ∷ 2 ∷ []) ∷ (2 ∷ []) ∷ [] ∷ []
graph_of-one_way = refl

one_way-through : stands_on one_way (value 2) 0 (0 ∷ 1 ∷ 2 ∷ []) ≡ true
one_way-through = refl

one_way-past : stands_on one_way (value 2) 0 (0 ∷ 2 ∷ []) ≡ false
one_way-past = refl
