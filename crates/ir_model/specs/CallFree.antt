-- Runs in which a call is undefined, said without what calls come to: what `Run` says comes to this as long as calls are not read
-- (`run_of` is `plain_run_of`), and the interpreter follows it.
use Rattle.std.specs.Prelude.{ℕ, zero, suc, Option, None, Some, List, [], ◌∷◌, length, map, cond, slice_get, option_map}
use Rattle.ir_types.specs.declared.id.Id.{Id}
use Rattle.ir_types.specs.declared.ty.Ty.{Ty}
use Rattle.ir_types.specs.declared.inst.Inst.{Inst}
use Rattle.ir_types.specs.declared.func.Block.{Block}
use Rattle.ir_types.specs.declared.func.Func.{Func}
use Rattle.ir_types.specs.declared.module.Module.{Module}
use Rattle.ir_model.specs.declared.value.Value.{Value}
use Rattle.ir_model.specs.declared.outcome.Outcome.{Outcome}
use Rattle.ir_model.specs.declared.outcome.Outcome.TheVariants.{Returned, Undefined, Cut}
use Rattle.ir_model.specs.Values.{Env, value_of, type_of}
use Rattle.ir_model.specs.Memory.{Memory}
use Rattle.ir_model.specs.Accesses.{Effect}
use Rattle.ir_model.specs.Step.{State, effect_of, set_result}
use Rattle.ir_model.specs.Run.{Ended, Stops, Returns, Goes, is_terminator, leave, arm_of, is_phi, with_phi, types_of, start_env, noalias_holds, functions_of}

-- the state after an effect: its result is the value of the instruction's id
abbrev pub after_effect : Env → Id → Option Effect → Option State
after_effect env id e = option_map (λ did. record { env = set_result env id did.result; memory = did.memory }) e

-- one step, where the types of ids are known
abbrev pub step_of : (Id → Ty) → Inst → State → Option State
step_of types i s =
    after_effect s.env i.id (effect_of i.op i.ty (map (type_of types) i.opds) (map (value_of s.env) i.opds) s.memory)

abbrev pub then_ends : Option State → (State → Ended) → Ended
then_ends None more = Stops
then_ends (Some s) more = more s

-- instructions in order, up to the terminator
abbrev pub run_insts : (Id → Ty) → List Inst → State → Ended
run_insts types [] s = Stops
run_insts types (i ∷ is) s =
    cond (is_terminator i.op) (leave i.op (map (value_of s.env) i.opds) s) (then_ends (step_of types i s) (run_insts types is))

-- the instructions of a block that is entered from a block (`None` at the start), in an environment on that edge
abbrev pub enter : (Id → Ty) → Option ℕ → Env → List Inst → State → Ended
enter types from edge [] s = Stops
enter types from edge (i ∷ is) s =
    cond (is_phi i.op)
    (then_ends (with_phi edge i.id s (arm_of from i.op i.opds)) (enter types from edge is))
    (run_insts types (i ∷ is) s)

-- a block, if it is there
abbrev pub run_block : (Id → Ty) → Option ℕ → State → Option Block → Ended
run_block types from s None = Stops
run_block types from s (Some b) = enter types from s.env b.insts s

abbrev pub end_on : Ended → (ℕ → State → Outcome) → Outcome
end_on Stops next = Undefined
end_on (Returns v m) next = Returned v m
end_on (Goes to s) next = next to s

-- blocks from the one at a place on, under a bound
abbrev pub run_blocks : (Id → Ty) → List Block → ℕ → Option ℕ → ℕ → State → Outcome
run_blocks types bs zero from at s = Cut s.memory
run_blocks types bs (suc bound) from at s =
    end_on (run_block types from s (slice_get bs at)) (λ to t. run_blocks types bs bound (Some at) to t)

abbrev pub run_func : ℕ → Func → List Value → Memory → ℕ → Outcome
run_func globals f args m bound =
    cond (noalias_holds globals [] f.params args)
    (run_blocks (types_of f) f.blocks bound None 0 (record { env = start_env f.params args; memory = m }))
    Undefined

abbrev pub run_found : ℕ → Option Func → List Value → Memory → ℕ → Outcome
run_found globals None args m bound = Undefined
run_found globals (Some f) args m bound = run_func globals f args m bound

-- the outcome of the function of a number
abbrev pub plain_run_of : Module → ℕ → List Value → Memory → ℕ → Outcome
plain_run_of m func args memory bound = run_found (length m.globals) (slice_get (functions_of m.items) func) args memory bound
