-- One step: what an instruction does to the environment and the memory, by one row for each form.
--
-- `result_of` has the row of each form whose result depends on its operands' values alone, `effect_of` those of the forms that
-- read or change memory, and `step` brings the effect into the state. `None` is undefined behaviour. A row takes the type and
-- the values of its operands, and fits them strictly: other shapes are undefined. A `call` is what calls come to, which is a
-- parameter: it may run blocks, and so a step takes the bound that is left and gives the one that is left after it, or is cut. What
-- has no row is undefined as well: here the terminators and phis, which have theirs in `Run`. (Language Reference, "Instruction
-- Reference".)
use Rattle.std.specs.Prelude.{ℕ, true, false, Option, None, Some, List, [], ◌∷◌, map}
use Rattle.ir_types.specs.declared.id.Id.{Id}
use Rattle.ir_types.specs.declared.ty.Ty.{Ty}
use Rattle.ir_types.specs.declared.ty.Ty.TheVariants.{Int, Ptr, Row}
use Rattle.ir_types.specs.declared.op.Op.{Op}
use Rattle.ir_types.specs.declared.op.Op.TheVariants.{Bin, Icmp, Cast, Select, Extract, Insert, Shuffle, Gep, Load, Store, Alloca, Call}
use Rattle.ir_types.specs.declared.inst.Inst.{Inst}
use Rattle.ir_model.specs.declared.value.Value.{Value}
use Rattle.ir_model.specs.Values.{Env, pointer_of, with_value, value_of, type_of}
use Rattle.ir_model.specs.Memory.{Memory}
use Rattle.ir_model.specs.Operations.{bin_value, cmp_value, cast_value, select_value, extract_value, insert_value, shuffle_value}
use Rattle.ir_model.specs.Addresses.{address_value, inbounds_value}
use Rattle.ir_model.specs.Accesses.{Effect, value_effect, bytes_of, store_effect, typed_load, alloca_effect}

-- where a function stands between two instructions
pub record State : Type 0 where
  pub env : Env
  pub memory : Memory

-- the forms without memory: operation, result type, operand types, operand values
abbrev pub result_of : Op → Ty → List Ty → List Value → Option Value
result_of (Bin op flags) t types vs = bin_value op flags t vs
result_of (Icmp pred) t (u ∷ _ ∷ []) vs = cmp_value pred t u vs
result_of (Cast op nneg) t (u ∷ []) vs = cast_value op nneg t u vs
result_of Select t types vs = select_value t vs
result_of Extract (Int w) (u ∷ _ ∷ []) vs = extract_value u vs
result_of Insert t types vs = insert_value t vs
result_of (Shuffle mask) (Row m w) (u ∷ _ ∷ []) vs = shuffle_value mask u vs
result_of (Gep elem false) t types vs = address_value elem t types vs
result_of _ _ _ _ = None

-- what an instruction comes to at the values of its operands
abbrev pub effect_of : Op → Ty → List Ty → List Value → Memory → Option Effect
effect_of (Gep elem true) t types vs m = value_effect (inbounds_value elem t types vs m) m
effect_of (Load align) t types (p ∷ []) m = typed_load align t (pointer_of p) m
effect_of (Load align) t types vs m = None
effect_of (Store align) t types (v ∷ p ∷ []) m = store_effect align (bytes_of t v) (pointer_of p) m
effect_of (Store align) t types vs m = None
effect_of (Alloca elem align) Ptr types [] m = Some (alloca_effect elem m)
effect_of (Alloca elem align) t types vs m = None
effect_of op t types vs m = value_effect (result_of op t types vs) m

-- ---- what a part of a run comes to

-- a part of a run ran into undefined behaviour, was cut with the memory as it was, or came to something
pub data Went (A : Type 0) : Type 0 where
  Lost : Went A
  Halts : Memory → Went A
  On : A → Went A

-- the next part, from what the first came to
abbrev pub then_go : {A B : Type 0} → Went A → (A → Went B) → Went B
then_go Lost next = Lost
then_go (Halts m) next = Halts m
then_go (On a) next = next a

-- what an instruction or a function came to: its result, if it has one, the memory, and the bound that is left
pub record Back : Type 0 where
  pub result : Option Value
  pub memory : Memory
  pub left : ℕ

-- where a function stands between two instructions, and the bound that is left
pub record Reached : Type 0 where
  pub state : State
  pub left : ℕ

-- what calls come to: the callee's name, the values of the arguments, the memory, the bound that is left
abbrev pub Calls : Type 0
Calls = List ℕ → List Value → Memory → ℕ → Went Back

-- ---- the step

abbrev pub callee_of : Op → Option (List ℕ)
callee_of (Call site) = Some site.callee
callee_of _ = None

-- an effect, which takes nothing of the bound
abbrev pub back_with : ℕ → Option Effect → Went Back
back_with left None = Lost
back_with left (Some did) = On (record { result = did.result; memory = did.memory; left = left })

-- a call where there is a callee, else the effect
abbrev pub called_or : Calls → List Value → Memory → ℕ → Option Effect → Option (List ℕ) → Went Back
called_or calls vs m left effect None = back_with left effect
called_or calls vs m left effect (Some callee) = calls callee vs m left

-- what an instruction comes to, a call too: operation, result type, operand types, operand values
abbrev pub act : Calls → Op → Ty → List Ty → List Value → Memory → ℕ → Went Back
act calls op t types vs m left = called_or calls vs m left (effect_of op t types vs m) (callee_of op)

-- the environment in which a result, if there is one, is the value of an id
abbrev pub set_result : Env → Id → Option Value → Env
set_result env id None = env
set_result env id (Some v) = with_value env id v

abbrev pub reached_with : Env → Id → Back → Went Reached
reached_with env id back = On (record { state = record { env = set_result env id back.result; memory = back.memory }; left = back.left })

-- one step, where the types of ids and what calls come to are known
abbrev pub step : (Id → Ty) → Calls → Inst → Reached → Went Reached
step types calls i r =
    then_go (act calls i.op i.ty (map (type_of types) i.opds) (map (value_of r.state.env) i.opds) r.state.memory r.left)
    (reached_with r.state.env i.id)
