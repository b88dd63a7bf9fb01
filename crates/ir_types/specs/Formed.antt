-- A formed module, and lists of stores that are lawful in one.
--
-- Headers and instructions are of the forms of the profile, with its types, literals and aligns; each function has a block; each
-- block has its phis first and exactly one terminator, its last instruction; each target, symbol and callee that is named is
-- there, and each local operand is a parameter or an instruction of the same function; each id is defined once; and each use is
-- available along each walk to it. What a header keeps as bytes is such as may stand there; names are plain ones, no two functions have
-- one name, what gives no value has no name, and a literal of a pointer is `poison`. (Language Reference, "Functions", "phi Instruction", "call Instruction", "Well-Formedness".)
use Rattle.std.specs.Prelude.{◌≡◌, ℕ, ◌<◌, ◌≤◌, ◌⊎◌, Bool, true, false, not, ◌&&◌, ◌==◌, nat_lt, if◌then◌else◌, refl, codes, List, [], ◌∷◌, ◌++◌, length, map, slice_get, count_by}
use Rattle.std.specs.List.{All, AllPairs, Contains}
use Rattle.std.specs.declared.option.Option.{Option}
use Rattle.std.specs.declared.option.Option.TheVariants.{None, Some}
use Rattle.ir_lex.specs.Bytes.{begins_name, is_word_byte}
use Rattle.ir_lex.specs.Tokens.{is_name}
use Rattle.ir_types.specs.declared.id.Id.{Id}
use Rattle.ir_types.specs.declared.ty.Ty.{Ty}
use Rattle.ir_types.specs.declared.ty.Ty.TheVariants.{Void, Ptr}
use Rattle.ir_types.specs.declared.opd.Opd.{Opd}
use Rattle.ir_types.specs.declared.opd.Opd.TheVariants.{Val, Lit, Sym}
use Rattle.ir_types.specs.declared.op.Op.{Op}
use Rattle.ir_types.specs.declared.op.Op.TheVariants.{Store, Alloca, Phi, Ret, Br, CondBr, Switch, Unreachable, Call}
use Rattle.ir_types.specs.declared.inst.Inst.{Inst}
use Rattle.ir_types.specs.declared.func.Param.{Param}
use Rattle.ir_types.specs.declared.func.Block.{Block}
use Rattle.ir_types.specs.declared.func.Func.{Func}
use Rattle.ir_types.specs.declared.module.Item.{Item}
use Rattle.ir_types.specs.declared.module.Item.TheVariants.{Func as FuncItem}
use Rattle.ir_types.specs.declared.module.Module.{Module}
use Rattle.ir_types.specs.Walks.{targets_at, IsReached}
use Rattle.ir_types.specs.Available.{same_id, op_targets, graph_of, Each, IsAvailable}
use Rattle.ir_types.specs.Typed.{is_value, is_scalar, IsLiteral, IsTyped}
use Rattle.ir_types.specs.KeptParts.{IsKeptHeader}

-- ---- types of operands

-- the type of what an instruction gives: of a store none, though it carries the type that it stores
abbrev pub given_ty : Op → Ty → Ty
given_ty (Store align) t = Void
given_ty _ t = t

abbrev pub ty_in_insts : Id → List Inst → Option Ty
ty_in_insts value [] = None
ty_in_insts value (i ∷ rest) = if same_id i.id value then Some (given_ty i.op i.ty) else ty_in_insts value rest

abbrev pub or_else : Option Ty → Option Ty → Option Ty
or_else (Some t) other = Some t
or_else None other = other

abbrev pub ty_in_blocks : Id → List Block → Option Ty
ty_in_blocks value [] = None
ty_in_blocks value (b ∷ rest) = or_else (ty_in_insts value b.insts) (ty_in_blocks value rest)

abbrev pub ty_in_params : Id → List Param → Option Ty
ty_in_params value [] = None
ty_in_params value (p ∷ rest) = if same_id p.id value then Some p.ty else ty_in_params value rest

-- the type of a parameter or an instruction of the function
abbrev pub value_ty : Func → Id → Option Ty
value_ty func value = or_else (ty_in_params value func.params) (ty_in_blocks value func.blocks)

-- the type of an operand, where what it names is there
abbrev pub opd_ty : Module → Func → Opd → Option Ty
opd_ty m func (Val value) = value_ty func value
opd_ty m func (Lit literal) = Some literal.ty
opd_ty m func (Sym global) = if nat_lt global (length m.globals) then Some Ptr else None

abbrev pub IsOpd : Opd → Type 0
IsOpd (Lit literal) = IsLiteral literal
IsOpd _ = Unit {0}

-- ---- blocks

abbrev pub is_phi : Op → Bool
is_phi (Phi blocks) = true
is_phi _ = false

abbrev pub is_alloca : Op → Bool
is_alloca (Alloca elem align) = true
is_alloca _ = false

abbrev pub is_terminator : Op → Bool
is_terminator Ret = true
is_terminator (Br to) = true
is_terminator (CondBr first second) = true
is_terminator (Switch other cases to) = true
is_terminator Unreachable = true
is_terminator _ = false

-- the last instruction is a terminator, and no other is
abbrev pub ends_from : Inst → List Inst → Bool
ends_from i [] = is_terminator i.op
ends_from i (j ∷ rest) = not (is_terminator i.op) && ends_from j rest

abbrev pub EndsOnce : List Inst → Type 0
EndsOnce [] = ⊥
EndsOnce (i ∷ rest) = ends_from i rest ≡ true

-- no phi stands after another instruction
abbrev pub PhisFirst : Bool → List Inst → Type 0
PhisFirst before [] = Unit {0}
PhisFirst before (i ∷ rest) = (is_phi i.op ≡ true → before ≡ true) × PhisFirst (before && is_phi i.op) rest

-- a target is a block, and not the first
abbrev pub IsTarget : Func → ℕ → Type 0
IsTarget func b = (0 < b) × (b < length func.blocks)

-- the incoming blocks are the block's predecessors, each as often as it has edges to it, and equal ones bring equal operands
abbrev pub IsIncoming : Func → ℕ → Op → List Opd → Type 0
IsIncoming func number (Phi blocks) opds =
    ((c : ℕ) → count_by (λ b. b == c) blocks ≡ count_by (λ b. b == number) (targets_at (graph_of func) c))
    × ((i j : ℕ) (b : ℕ) → slice_get blocks i ≡ Some b → slice_get blocks j ≡ Some b → slice_get opds i ≡ slice_get opds j)
IsIncoming func number _ opds = Unit {0}

-- a call names a function of the module, gives what that returns, and takes what its parameters are
abbrev pub IsCalling : Module → Op → Ty → List (Option Ty) → Type 0
IsCalling m (Call site) t tys =
    (f : Func) × Contains m.items (FuncItem f) × (f.name ≡ site.callee) × (t ≡ f.ret) × (tys ≡ map (λ (p : Param). Some p.ty) f.params)
IsCalling m _ t tys = Unit {0}

-- an instruction of a block: its parts, types, targets, incoming blocks and callee
pub record IsFormedInst (m : Module) (func : Func) (number position : ℕ) (inst : Inst) : Type 0 where
  pub operands : All IsOpd inst.opds
  pub typed : IsTyped func.ret inst.op inst.ty (map (opd_ty m func) inst.opds)
  pub targets : All (IsTarget func) (op_targets inst.op)
  pub incoming : IsIncoming func number inst.op inst.opds
  pub calling : IsCalling m inst.op inst.ty (map (opd_ty m func) inst.opds)
  -- an alloca stands in the first block
  pub allocas : is_alloca inst.op ≡ true → number ≡ 0

pub record IsFormedBlock (m : Module) (func : Func) (number : ℕ) (block : Block) : Type 0 where
  pub ends : EndsOnce block.insts
  pub phis : PhisFirst true block.insts
  pub insts : Each (IsFormedInst m func number) block.insts

pub record IsFormedFunc (m : Module) (func : Func) : Type 0 where
  pub returns : (func.ret ≡ Void) ⊎ (is_value func.ret ≡ true)
  pub params : All (λ (p : Param). is_value p.ty ≡ true) func.params
  pub blocks : Each (IsFormedBlock m func) func.blocks
  pub some : 0 < length func.blocks

abbrev pub IsFormedItem : Module → Item → Type 0
IsFormedItem m (FuncItem func) = IsFormedFunc m func
IsFormedItem m _ = Unit {0}

-- ---- headers, names, results and literals of pointers

-- a written name, if there is one, is a plain one: neither quoted nor a number
abbrev pub is_plain : Option (List ℕ) → Bool
is_plain None = true
is_plain (Some name) = is_name name

-- a pointer's literal is poison
abbrev pub IsPoisonIfPointer : Opd → Type 0
IsPoisonIfPointer (Lit literal) = literal.ty ≡ Ptr → literal.lanes ≡ None ∷ []
IsPoisonIfPointer o = Unit {0}

pub record IsPlainInst (i : Inst) : Type 0 where
  pub named : is_plain i.name ≡ true
  -- what gives no value has no name
  pub silent : given_ty i.op i.ty ≡ Void → i.name ≡ None
  pub pointers : All IsPoisonIfPointer i.opds

pub record IsPlainBlock (b : Block) : Type 0 where
  pub named : is_plain b.name ≡ true
  pub insts : All IsPlainInst b.insts

pub record IsPlainFunc (f : Func) : Type 0 where
  pub header : IsKeptHeader f.before f.params f.after
  pub named : is_name f.name ≡ true
  pub params : All (λ (p : Param). is_plain p.name ≡ true) f.params
  pub blocks : All IsPlainBlock f.blocks

abbrev pub IsPlainItem : Item → Type 0
IsPlainItem (FuncItem f) = IsPlainFunc f
IsPlainItem _ = Unit {0}

-- the names of functions in order of text
abbrev pub function_names : List Item → List (List ℕ)
function_names [] = []
function_names (FuncItem f ∷ items) = f.name ∷ function_names items
function_names (_ ∷ items) = function_names items

pub record IsPlain (m : Module) : Type 0 where
  pub items : All IsPlainItem m.items
  -- no two functions have one name, so a call names one
  pub names : AllPairs (λ (a b : List ℕ). a ≡ b → ⊥) (function_names m.items)

-- a name is plain, or there is none; a number is no plain name
named_plainly : is_plain (Some (codes "sum.1")) ≡ true
unfolding begins_name is_word_byte
named_plainly = refl

numbered_plainly : is_plain (Some (codes "7")) ≡ false
unfolding begins_name
numbered_plainly = refl

-- ---- ids

abbrev pub block_ids : List Block → List Id
block_ids [] = []
block_ids (b ∷ rest) = map (λ (i : Inst). i.id) b.insts ++ block_ids rest

abbrev pub item_ids : Item → List Id
item_ids (FuncItem func) = map (λ (p : Param). p.id) func.params ++ block_ids func.blocks
item_ids _ = []

-- the ids of parameters and instructions in order of text
abbrev pub ids_of_items : List Item → List Id
ids_of_items [] = []
ids_of_items (item ∷ rest) = item_ids item ++ ids_of_items rest

abbrev pub ids_of : Module → List Id
ids_of m = ids_of_items m.items

-- no id has a region above r, so every id of region r + 1 is free
abbrev pub IsFresh : Module → ℕ → Type 0
IsFresh m r = All (λ (id : Id). id.region ≤ r) (ids_of m)

-- ---- the module

pub record IsFormed (m : Module) : Type 0 where
  pub items : All (IsFormedItem m) m.items
  pub plain : IsPlain m
  pub once : AllPairs (λ (a b : Id). a ≡ b → ⊥) (ids_of m)
  pub available : IsAvailable m

-- ---- lawful stores

abbrev pub is_store : Op → Bool
is_store (Store align) = true
is_store _ = false

abbrev pub is_scalar_store : Inst → Bool
is_scalar_store inst = is_store inst.op && is_scalar inst.ty

-- one of the block's instructions is a store of a scalar with that id
abbrev pub IsStoreIn : Block → Id → Type 0
IsStoreIn block id = (inst : Inst) × Contains block.insts inst × (inst.id ≡ id) × (is_scalar_store inst ≡ true)

-- 2, 4, 8 or 16 stores of scalars of one block that a walk reaches
pub record IsLawful (m : Module) (stores : List Id) : Type 0 where
  pub count : (length stores ≡ 2) ⊎ (length stores ≡ 4) ⊎ (length stores ≡ 8) ⊎ (length stores ≡ 16)
  pub func : Func
  pub here : Contains m.items (FuncItem func)
  pub number : ℕ
  pub block : Block
  pub there : slice_get func.blocks number ≡ Some block
  pub reached : IsReached (graph_of func) number
  pub each : All (IsStoreIn block) stores
