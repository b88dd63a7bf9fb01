-- Bounded runs: blocks with their phis and terminators, and a function from its start.
--
-- Before each block the bound is looked at: at 0 the run is cut with the memory as it is, else it falls by one and the block runs
-- with its terminator. A block's phis read their values at once, on the edge that was taken. What calls come to is a parameter of a
-- block and of a function; it is undefined behaviour as long as calls are not read.
use Rattle.std.specs.Prelude.{ℕ, zero, suc, ◌++◌, Bool, true, false, not, ◌&&◌, ◌||◌, Option, None, Some, List, [], ◌∷◌, length, map, cond, nat_eq, nat_le, slice_get}
use Rattle.std.specs.List.{list_any}
use Rattle.ir_types.specs.declared.id.Id.{Id}
use Rattle.ir_types.specs.declared.ty.Ty.{Ty}
use Rattle.ir_types.specs.declared.ty.Ty.TheVariants.{Void}
use Rattle.ir_types.specs.declared.opd.Opd.{Opd}
use Rattle.ir_types.specs.declared.op.Op.{Op}
use Rattle.ir_types.specs.declared.op.Op.TheVariants.{Phi, Ret, Br, CondBr, Switch, Unreachable}
use Rattle.ir_types.specs.declared.inst.Inst.{Inst}
use Rattle.ir_types.specs.declared.func.Param.{Param}
use Rattle.ir_types.specs.declared.func.Block.{Block}
use Rattle.ir_types.specs.declared.func.Func.{Func}
use Rattle.ir_types.specs.declared.module.Item.{Item}
use Rattle.ir_types.specs.declared.module.Item.TheVariants.{Kept, Opaque, Func as FuncItem}
use Rattle.ir_types.specs.declared.module.Module.{Module}
use Rattle.ir_model.specs.declared.value.Value.{Value}
use Rattle.ir_model.specs.declared.value.Value.TheVariants.{Lane as LaneValue, Ptr as PtrValue}
use Rattle.ir_model.specs.declared.outcome.Outcome.{Outcome}
use Rattle.ir_model.specs.declared.outcome.Outcome.TheVariants.{Returned, Undefined, Cut}
use Rattle.ir_model.specs.Values.{Lane, Env, same_id, with_value, value_of}
use Rattle.ir_model.specs.Memory.{Memory}
use Rattle.ir_model.specs.Step.{State, Went, Lost, Halts, On, then_go, Back, Reached, Calls, step}

-- how a terminator ends its block: in undefined behaviour, with a return, or on the edge to a block
pub data Ended : Type 0 where
  Stops : Ended
  Returns : Option Value → Memory → Ended
  Goes : ℕ → State → Ended

-- ---- terminators

abbrev pub is_terminator : Op → Bool
is_terminator Ret = true
is_terminator (Br _) = true
is_terminator (CondBr _ _) = true
is_terminator (Switch _ _ _) = true
is_terminator Unreachable = true
is_terminator _ = false

-- the block of the first case that is the number, or else the other
abbrev pub chosen : ℕ → ℕ → List Lane → List ℕ → ℕ
chosen n other (Some c ∷ cases) (to ∷ tos) = cond (nat_eq n c) to (chosen n other cases tos)
chosen n other (None ∷ cases) (to ∷ tos) = chosen n other cases tos
chosen n other _ _ = other

-- a terminator at the values of its operands; a branch on poison is undefined
abbrev pub leave : Op → List Value → State → Ended
leave Ret [] s = Returns None s.memory
leave Ret (v ∷ []) s = Returns (Some v) s.memory
leave (Br to) vs s = Goes to s
leave (CondBr yes_to no_to) (LaneValue (Some n) ∷ []) s = Goes (cond (nat_eq n 0) no_to yes_to) s
leave (Switch other cases tos) (LaneValue (Some n) ∷ []) s = Goes (chosen n other cases tos) s
leave _ _ s = Stops

-- ---- blocks

-- how a block of a function ended: with what the function gives back, or on the edge to a block
pub data Exit : Type 0 where
  Leaves : Back → Exit
  To : ℕ → Reached → Exit

abbrev pub exit_with : ℕ → Ended → Went Exit
exit_with left Stops = Lost
exit_with left (Returns v m) = On (Leaves (record { result = v; memory = m; left = left }))
exit_with left (Goes to s) = On (To to (record { state = s; left = left }))

-- instructions in order, up to the terminator
abbrev pub run_insts : (Id → Ty) → Calls → List Inst → Reached → Went Exit
run_insts types calls [] r = Lost
run_insts types calls (i ∷ is) r =
    cond (is_terminator i.op)
    (exit_with r.left (leave i.op (map (value_of r.state.env) i.opds) r.state))
    (then_go (step types calls i r) (run_insts types calls is))

-- the operand that a phi brings from a block
abbrev pub arm_from : ℕ → List ℕ → List Opd → Option Opd
arm_from from (b ∷ bs) (o ∷ os) = cond (nat_eq b from) (Some o) (arm_from from bs os)
arm_from from _ _ = None

abbrev pub arm_of : Option ℕ → Op → List Opd → Option Opd
arm_of (Some from) (Phi blocks) opds = arm_from from blocks opds
arm_of _ _ _ = None

abbrev pub is_phi : Op → Bool
is_phi (Phi _) = true
is_phi _ = false

-- a phi's value, read in the environment on the edge
abbrev pub with_phi : Env → Id → State → Option Opd → Option State
with_phi edge id s None = None
with_phi edge id s (Some o) = Some (record { env = with_value s.env id (value_of edge o); memory = s.memory })

abbrev pub reached_if : ℕ → Option State → Went Reached
reached_if left None = Lost
reached_if left (Some s) = On (record { state = s; left = left })

-- the instructions of a block that is entered from a block (`None` at the start), in an environment on that edge
abbrev pub enter : (Id → Ty) → Calls → Option ℕ → Env → List Inst → Reached → Went Exit
enter types calls from edge [] r = Lost
enter types calls from edge (i ∷ is) r =
    cond (is_phi i.op)
    (then_go (reached_if r.left (with_phi edge i.id r.state (arm_of from i.op i.opds))) (enter types calls from edge is))
    (run_insts types calls (i ∷ is) r)

-- a block, if it is there
abbrev pub run_block : (Id → Ty) → Calls → Option ℕ → Reached → Option Block → Went Exit
run_block types calls from r None = Lost
run_block types calls from r (Some b) = enter types calls from r.state.env b.insts r

-- ---- functions

-- the types of the ids of a function; an id that nothing defines has none
abbrev pub typed_params : List Param → (Id → Ty) → Id → Ty
typed_params [] rest x = rest x
typed_params (p ∷ ps) rest x = cond (same_id x p.id) p.ty (typed_params ps rest x)

abbrev pub typed_insts : List Inst → (Id → Ty) → Id → Ty
typed_insts [] rest x = rest x
typed_insts (i ∷ is) rest x = cond (same_id x i.id) i.ty (typed_insts is rest x)

abbrev pub typed_blocks : List Block → Id → Ty
typed_blocks [] x = Void
typed_blocks (b ∷ bs) x = typed_insts b.insts (typed_blocks bs) x

abbrev pub types_of : Func → Id → Ty
types_of f = typed_params f.params (typed_blocks f.blocks)

-- the environment at the start: each parameter has its argument, and no other id a value
abbrev pub start_env : List Param → List Value → Env
start_env (p ∷ ps) (v ∷ vs) = with_value (start_env ps vs) p.id v
start_env _ _ = λ x. PtrValue None

-- whether a pointer names the object
abbrev pub names : ℕ → Value → Bool
names o (PtrValue (Some p)) = nat_eq p.0 o
names o _ = false

-- whether an argument names no object that a global or another argument names; poison names none
abbrev pub is_unshared : ℕ → Value → List Value → Bool
is_unshared globals (PtrValue (Some p)) others = nat_le globals p.0 && not (list_any (names p.0) others)
is_unshared globals _ others = true

-- whether each `noalias` argument is unshared, where others stand before
abbrev pub noalias_holds : ℕ → List Value → List Param → List Value → Bool
noalias_holds globals before (p ∷ ps) (v ∷ vs) =
    (not p.noalias || is_unshared globals v (before ++ vs)) && noalias_holds globals (v ∷ before) ps vs
noalias_holds globals before _ _ = true

-- what functions come to from a block on, with the block that it is entered from
abbrev pub Runs : Type 0
Runs = Func → Option ℕ → ℕ → Reached → Went Back

-- what calls come to, where it is known what functions come to
abbrev pub Ties : Type 0
Ties = Runs → Calls

-- calls have no meaning yet
abbrev pub no_calls : Ties
no_calls go callee vs m left = Lost

abbrev pub on_exit : (ℕ → Reached → Went Back) → Exit → Went Back
on_exit go (Leaves back) = On back
on_exit go (To to r) = go to r

-- a block at a place and what comes after it, under a bound: at 0 the run is cut, else the bound falls by one
abbrev pub turn_at : Calls → Runs → Func → Option ℕ → ℕ → State → ℕ → Went Back
turn_at calls go f from at s zero = Halts s.memory
turn_at calls go f from at s (suc left) =
    then_go (run_block (types_of f) calls from (record { state = s; left = left }) (slice_get f.blocks at)) (on_exit (go f (Some at)))

-- functions from a block on. What recursion goes by falls with each block, as the bound does; it begins as the bound, which a call
-- never raises, and so the bound ends first
abbrev pub runs : Ties → ℕ → Runs
runs tie zero f from at r = Halts r.state.memory
runs tie (suc fuel) f from at r = turn_at (tie (runs tie fuel)) (runs tie fuel) f from at r.state r.left

-- a function on arguments and a memory, in a module of so many globals
abbrev pub run_func : Ties → ℕ → Func → List Value → Memory → ℕ → Went Back
run_func tie globals f args m bound =
    cond (noalias_holds globals [] f.params args)
    (runs tie bound f None 0 (record { state = record { env = start_env f.params args; memory = m }; left = bound }))
    Lost

-- ---- modules

-- the functions of the profile, in order
abbrev pub functions_of : List Item → List Func
functions_of [] = []
functions_of (Kept _ ∷ items) = functions_of items
functions_of (Opaque _ ∷ items) = functions_of items
functions_of (FuncItem f ∷ items) = f ∷ functions_of items

abbrev pub outcome_of : Went Back → Outcome
outcome_of Lost = Undefined
outcome_of (Halts m) = Cut m
outcome_of (On back) = Returned back.result back.memory

abbrev pub run_found : ℕ → Option Func → List Value → Memory → ℕ → Outcome
run_found globals None args m bound = Undefined
run_found globals (Some f) args m bound = outcome_of (run_func no_calls globals f args m bound)

-- the outcome of the function of a number, from 0 among the functions of the profile
abbrev pub run_of : Module → ℕ → List Value → Memory → ℕ → Outcome
run_of m func args memory bound = run_found (length m.globals) (slice_get (functions_of m.items) func) args memory bound
