-- Shapes along a run: each value that is defined has the shape of its type, and each pointer names an object that is there.
--
-- A run takes a walk over the blocks. Where a value's definition stands on that walk, the environment has a value of its type's shape;
-- which numbers its lanes are is not asked. A run of a formed module from arguments that fit keeps this.
use Rattle.std.specs.Prelude.{◌≡◌, refl, ℕ, pos, ◌+◌, ◌<◌, ◌≤◌, true, false, Option, None, Some, List, [], ◌∷◌, length, map, slice_get, ⊤}
use Rattle.std.specs.List.{AllZip, Contains}
use Rattle.ir_types.specs.declared.id.Id.{Id}
use Rattle.ir_types.specs.declared.ty.Ty.{Ty}
use Rattle.ir_types.specs.declared.ty.Ty.TheVariants.{Void, Int, Ptr, Row}
use Rattle.ir_types.specs.declared.inst.Inst.{Inst}
use Rattle.ir_types.specs.declared.func.Param.{Param}
use Rattle.ir_types.specs.declared.func.Block.{Block}
use Rattle.ir_types.specs.declared.func.Func.{Func}
use Rattle.ir_types.specs.declared.module.Item.TheVariants.{Func as FuncItem}
use Rattle.ir_types.specs.declared.module.Module.{Module}
use Rattle.ir_types.specs.Typed.{is_value}
use Rattle.ir_types.specs.Walks.{IsWalk, EndsAt}
use Rattle.ir_types.specs.Available.{graph_of, stands_on}
use Rattle.ir_types.specs.Formed.{value_ty, IsFormed}
use Rattle.ir_model.specs.declared.value.Value.{Value}
use Rattle.ir_model.specs.declared.value.Value.TheVariants.{Lane as LaneValue, Row as RowValue, Ptr as PtrValue}
use Rattle.ir_model.specs.declared.outcome.Outcome.TheVariants.{Returned}
use Rattle.ir_model.specs.Values.{value_of, type_of}
use Rattle.ir_model.specs.Memory.{Memory}
use Rattle.ir_model.specs.Step.{State, On, Back, Reached, Calls, step}
use Rattle.ir_model.specs.Run.{is_terminator, is_phi, types_of, start_env, functions_of, run_of}
use Rattle.ir_model.specs.Fits.{PointerFits, Fits}

-- a value of a type's shape, where there are so many objects
abbrev pub HasShape : ℕ → Ty → Value → Type 0
HasShape objects (Int w) (LaneValue lane) = ⊤
HasShape objects (Row n w) (RowValue lanes) = length lanes ≡ n
HasShape objects Ptr (PtrValue p) = PointerFits objects p
HasShape objects _ _ = ⊥

-- a row has as many lanes as its type
two_lanes : HasShape 0 (Row 2 8) (RowValue (Some 1 ∷ None ∷ []))
two_lanes = refl

-- no pointer names an object that is not there
no_such_object : HasShape 1 Ptr (PtrValue (Some (1, pos 0))) → 1 < 1
no_such_object fits = fits.0

-- a result of a type: of `void` nothing is asked
abbrev pub ResultHasShape : ℕ → Ty → Option Value → Type 0
ResultHasShape objects Void v = ⊤
ResultHasShape objects t None = ⊥
ResultHasShape objects t (Some v) = HasShape objects t v

-- between two instructions, on a walk of whose last block so many instructions have run
pub record IsShaped (m : Module) (f : Func) (walk : List ℕ) (before : ℕ) (s : State) : Type 0 where
  -- what is defined on the walk has its type's shape
  pub values : (x : Id) (t : Ty) → value_ty f x ≡ Some t → is_value t ≡ true → stands_on f x before walk ≡ true → HasShape (length s.memory) t (s.env x)
  pub globals : length m.globals ≤ length s.memory

-- what a function gave back: its result has the shape of what it returns, and no object went
pub record BackHasShape (f : Func) (objects : ℕ) (back : Back) : Type 0 where
  pub result : ResultHasShape (length back.memory) f.ret back.result
  pub objects_stay : objects ≤ length back.memory

-- calls of functions of a module give such results, from arguments of the parameters' shapes
abbrev pub CallsKeepShapes : Module → Calls → Type 0
CallsKeepShapes m calls =
    (g : Func) → Contains m.items (FuncItem g) → (vs : List Value) (memory : Memory) (left : ℕ) (back : Back) →
    AllZip (λ (p : Param) v. HasShape (length memory) p.ty v) g.params vs → length m.globals ≤ length memory →
    calls g.name vs memory left ≡ On back → BackHasShape g (length memory) back

-- ---- what holds along a run

-- at the start, from arguments that fit
abbrev pub StartsAreShaped : Type 0
StartsAreShaped =
    (m : Module) (f : Func) (args : List Value) (memory : Memory) → Fits m f args memory →
    IsShaped m f (0 ∷ []) 0 (record { env = start_env f.params args; memory = memory })

-- the instruction of a position of a block of a function of a formed module, on a walk to it, where all that stands is of its shape
pub record IsReachedAt (m : Module) (f : Func) (walk : List ℕ) (at position : ℕ) (i : Inst) (s : State) : Type 0 where
  pub formed : IsFormed m
  pub func : Contains m.items (FuncItem f)
  pub walks : IsWalk (graph_of f) walk
  pub ends : EndsAt walk at
  pub block : Block
  pub there : slice_get f.blocks at ≡ Some block
  pub here : slice_get block.insts position ≡ Some i
  pub no_phi : is_phi i.op ≡ false
  pub shaped : IsShaped m f walk position s

-- each operand has a value of its type's shape
abbrev pub OperandsHaveShapes : Type 0
OperandsHaveShapes =
    (m : Module) (f : Func) (walk : List ℕ) (at position : ℕ) (i : Inst) (s : State) → IsReachedAt m f walk at position i s →
    AllZip (HasShape (length s.memory)) (map (type_of (types_of f)) i.opds) (map (value_of s.env) i.opds)

-- a step keeps the shapes of all that stands
abbrev pub StepsKeepShapes : Type 0
StepsKeepShapes =
    (m : Module) (f : Func) (walk : List ℕ) (at position : ℕ) (i : Inst) (r q : Reached) → IsReachedAt m f walk at position i r.state → is_terminator i.op ≡ false →
    (calls : Calls) → CallsKeepShapes m calls → step (types_of f) calls i r ≡ On q → IsShaped m f walk (position + 1) q.state

-- what a function returns has the shape of its type
abbrev pub ResultsHaveShapes : Type 0
ResultsHaveShapes =
    (m : Module) → IsFormed m → (func : ℕ) (f : Func) → slice_get (functions_of m.items) func ≡ Some f → (args : List Value) (memory after : Memory) →
    Fits m f args memory → (bound : ℕ) (result : Option Value) → run_of m func args memory bound ≡ Returned result after →
    ResultHasShape (length after) f.ret result × (length memory ≤ length after)
