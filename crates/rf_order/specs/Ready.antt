-- What is known at a place of a block, which instructions may run there, and what holds of the state.
--
-- Known are ids whose values are there, and the instructions of the block that have run on this way to the place. A state is ready where
-- each known value has its type's shape, each address and sum that has run is what its operands make it, and roots of kinds that never
-- meet name different objects. A step of an instruction that may run keeps this.
use Rattle.std.specs.Prelude.{◌≡◌, ℕ, ℤ, ◌<◌, ◌≤◌, ◌⊎◌, Bool, true, false, ◌||◌, cond, nat_lt, Option, None, Some, List, [], ◌∷◌, ◌++◌, length, map, ⊤}
use Rattle.std.specs.List.{All}
use Rattle.ir_types.specs.declared.id.Id.{Id}
use Rattle.ir_types.specs.declared.ty.Ty.{Ty}
use Rattle.ir_types.specs.declared.opd.Opd.{Opd}
use Rattle.ir_types.specs.declared.opd.Opd.TheVariants.{Val, Lit, Sym}
use Rattle.ir_types.specs.declared.op.Op.{Op}
use Rattle.ir_types.specs.declared.op.Op.TheVariants.{Bin, Gep}
use Rattle.ir_types.specs.declared.inst.Inst.{Inst}
use Rattle.ir_types.specs.declared.func.Func.{Func}
use Rattle.ir_types.specs.declared.module.Module.{Module}
use Rattle.ir_types.specs.Typed.{is_value, IsTyped}
use Rattle.ir_types.specs.Formed.{given_ty, value_ty, opd_ty, IsOpd, is_alloca, IsCalling, IsFormed}
use Rattle.ir_model.specs.declared.value.Value.{Value}
use Rattle.ir_model.specs.declared.value.Value.TheVariants.{Ptr as PtrValue}
use Rattle.ir_model.specs.Values.{Pointer, Env, pointer_of, value_of, type_of, same_id}
use Rattle.ir_model.specs.Operations.{bin_value}
use Rattle.ir_model.specs.Addresses.{address_value}
use Rattle.ir_model.specs.Step.{State, Reached, Calls, On, step}
use Rattle.ir_model.specs.Run.{is_terminator, is_phi, run_insts, types_of}
use Rattle.ir_model.specs.Shapes.{HasShape, CallsKeepShapes}
use Rattle.vx_view.specs.Answers.{find}
use Rattle.vx_view.specs.Conflicts.{depends, Kind, Allocated, Unknown, kind_of, never_meet, same_root, access_of, meet}
use Rattle.vx_serial.specs.Window.{order_in, joined}
use Rattle.rf_order.specs.Rows.{steps, Instead, Reordered}
use Rattle.rf_order.specs.Swaps.{CallsKeepObjects, touch_of, KeepApart}
use Rattle.rf_order.specs.Steps.{uses}
use Rattle.vx_serial.specs.Bundles.{AreBundles}

pub record Known : Type 0 where
  pub values : Id → Bool
  -- the newest first
  pub done : List Inst

-- after one more instruction
abbrev pub next : Known → Inst → Known
next k i = record { values = λ x. same_id i.id x || k.values x; done = i ∷ k.done }

-- ---- instructions

abbrev pub IsIn : Inst → List Inst → Type 0
IsIn i [] = ⊥
IsIn i (j ∷ js) = (j ≡ i) ⊎ IsIn i js

-- an instruction of a block, as a formed module has it: no phi and no terminator
pub record IsStatement (m : Module) (f : Func) (block : List Inst) (i : Inst) : Type 0 where
  pub operands : All IsOpd i.opds
  pub typed : IsTyped f.ret i.op i.ty (map (opd_ty m f) i.opds)
  pub calling : IsCalling m i.op i.ty (map (opd_ty m f) i.opds)
  pub no_phi : is_phi i.op ≡ false
  pub no_end : is_terminator i.op ≡ false
  -- its id is its own
  pub gives : value_ty f i.id ≡ Some (given_ty i.op i.ty)
  pub here : find i.id block ≡ Some i
  pub kind : kind_of m (Val i.id) ≡ cond (is_alloca i.op) Allocated Unknown

-- all that it uses is there, and its own value is not
pub record MayRun (m : Module) (f : Func) (block : List Inst) (k : Known) (i : Inst) : Type 0 where
  pub statement : IsStatement m f block i
  pub there : (x : Id) → uses x i.opds ≡ true → k.values x ≡ true
  pub fresh : k.values i.id ≡ false

-- one after another
abbrev pub MayRunAll : Module → Func → List Inst → Known → List Inst → Type 0
MayRunAll m f block k [] = ⊤
MayRunAll m f block k (i ∷ is) = MayRun m f block k i × MayRunAll m f block (next k i) is

-- ---- states

-- what an address or an operation on numbers gives where no part of it is poison
abbrev pub formula : Op → Ty → List Ty → List Value → Option Value
formula (Gep elem inbounds) t types vs = address_value elem t types vs
formula (Bin op flags) t types vs = bin_value op flags t vs
formula _ t types vs = None

abbrev pub has_formula : Op → Bool
has_formula (Gep elem inbounds) = true
has_formula (Bin op flags) = true
has_formula _ = false

-- an address is poison, or both are what their operands make them
abbrev pub IsComputed : (Id → Ty) → Env → Inst → Type 0
IsComputed types env i =
    has_formula i.op ≡ true → (env i.id ≡ PtrValue None) ⊎ (formula i.op i.ty (map (type_of types) i.opds) (map (value_of env) i.opds) ≡ Some (env i.id))

-- something is known of where a root points
abbrev pub has_kind : Kind → Bool
has_kind Unknown = false
has_kind _ = true

-- a pointer is poison or names one of so many objects
abbrev pub NamesOne : ℕ → Pointer → Type 0
NamesOne objects None = ⊤
NamesOne objects (Some p) = p.0 < objects

-- not both are pointers into one object
abbrev pub NameOthers : Pointer → Pointer → Type 0
NameOthers p q = (o : ℕ) (z y : ℤ) → p ≡ Some (o, z) → q ≡ Some (o, y) → ⊥

-- a value that is there, or a global of so many
abbrev pub is_known : ℕ → (Id → Bool) → Opd → Bool
is_known globals values (Val x) = values x
is_known globals values (Lit l) = true
is_known globals values (Sym g) = nat_lt g globals

-- roots of kinds that never meet
abbrev pub RootsApart : Module → (Id → Bool) → Env → Type 0
RootsApart m values env =
    (a b : Opd) → is_known (length m.globals) values a ≡ true → is_known (length m.globals) values b ≡ true → same_root a b ≡ false → never_meet (kind_of m a) (kind_of m b) ≡ true →
    NameOthers (pointer_of (value_of env a)) (pointer_of (value_of env b))

pub record IsReady (m : Module) (f : Func) (block : List Inst) (k : Known) (s : State) : Type 0 where
  pub values : (x : Id) (t : Ty) → value_ty f x ≡ Some t → is_value t ≡ true → k.values x ≡ true → HasShape (length s.memory) t (s.env x)
  pub globals : length m.globals ≤ length s.memory
  -- what is known of the block is a phi or has run
  pub found : (x : Id) (i : Inst) → k.values x ≡ true → find x block ≡ Some i → (is_phi i.op ≡ true) ⊎ IsIn i k.done
  pub ran : (i : Inst) → IsIn i k.done → IsStatement m f block i × ((x : Id) → uses x i.opds ≡ true → k.values x ≡ true)
  pub own : (i : Inst) → IsIn i k.done → k.values i.id ≡ true
  pub computed : (i : Inst) → IsIn i k.done → IsComputed (types_of f) s.env i
  pub within : (a : Opd) → is_known (length m.globals) k.values a ≡ true → has_kind (kind_of m a) ≡ true → NamesOne (length s.memory) (pointer_of (value_of s.env a))
  pub roots : RootsApart m k.values s.env

-- a step keeps it, over all calls that keep shapes
abbrev pub StepsKeepReady : Type 0
StepsKeepReady =
    (m : Module) (f : Func) → IsFormed m → (block : List Inst) (calls : Calls) → CallsKeepShapes m calls → (k : Known) (i : Inst) (r q : Reached) →
    MayRun m f block k i → IsReady m f block k r.state → step (types_of f) calls i r ≡ On q → IsReady m f block (next k i) q.state

-- accesses of two instructions that may run and do not meet by their forms are apart: both only read, or no byte is touched by both
abbrev pub AccessesKeepApart : Type 0
AccessesKeepApart =
    (m : Module) (f : Func) → IsFormed m → (block : List Inst) (k : Known) (s : State) → IsReady m f block k s → (x y : Inst) → MayRun m f block k x → MayRun m f block k y →
    meet m block (access_of x) (access_of y) ≡ false → KeepApart (touch_of x.op x.ty (map (value_of s.env) x.opds)) (touch_of y.op y.ty (map (value_of s.env) y.opds))

-- two neighbours of which the second does not depend on the first, over all calls that keep shapes and leave objects as long as they are
abbrev pub NeighboursSwap : Type 0
NeighboursSwap =
    (m : Module) (f : Func) → IsFormed m → (block : List Inst) (calls : Calls) → CallsKeepShapes m calls → CallsKeepObjects calls → (k : Known) (x y : Inst) (r : Reached) →
    MayRun m f block k x → MayRun m f block (next k x) y → depends m block y x ≡ false → IsReady m f block k r.state →
    Instead (steps (types_of f) calls (y ∷ x ∷ []) r) (steps (types_of f) calls (x ∷ y ∷ []) r)

-- a row in another order, in which each stands after all that it depends on
abbrev pub RowsRefine : Type 0
RowsRefine =
    (m : Module) (f : Func) → IsFormed m → (block : List Inst) (calls : Calls) → CallsKeepShapes m calls → CallsKeepObjects calls → (k : Known) (old new : List Inst) (r : Reached) →
    Reordered (depends m block) old new → MayRunAll m f block k old → IsReady m f block k r.state → Instead (steps (types_of f) calls new r) (steps (types_of f) calls old r)

-- the window of bundles in its order, and what stands after it
abbrev pub WindowsRefine : Type 0
WindowsRefine =
    (m : Module) (f : Func) → IsFormed m → (block : List Inst) (calls : Calls) → CallsKeepShapes m calls → CallsKeepObjects calls → (k : Known) (insts rest : List Inst) (bundles : List (List Id)) →
    AreBundles insts bundles → (groups : List (List Inst)) → order_in m block insts bundles ≡ Some groups → MayRunAll m f block k insts → (r : Reached) → IsReady m f block k r.state →
    Instead (run_insts (types_of f) calls (joined groups ++ rest) r) (run_insts (types_of f) calls (insts ++ rest) r)
