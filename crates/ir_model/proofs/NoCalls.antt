-- Where calls are undefined, a run is what `CallFree` says.
use Rattle.std.proofs.Common.{◌≡◌, refl, ap, ◌∙◌, ℕ, zero, suc, Bool, true, false, Option, None, Some, List, [], ◌∷◌, length, map, cond, slice_get}
use Rattle.ir_types.specs.declared.id.Id.{Id}
use Rattle.ir_types.specs.declared.ty.Ty.{Ty}
use Rattle.ir_types.specs.declared.op.Op.{Op}
use Rattle.ir_types.specs.declared.op.Op.TheVariants.{Call}
use Rattle.ir_types.specs.declared.inst.Inst.{Inst}
use Rattle.ir_types.specs.declared.func.Block.{Block}
use Rattle.ir_types.specs.declared.func.Func.{Func}
use Rattle.ir_types.specs.declared.module.Module.{Module}
use Rattle.ir_model.specs.declared.value.Value.{Value}
use Rattle.ir_model.specs.declared.outcome.Outcome.{Outcome}
use Rattle.ir_model.specs.declared.outcome.Outcome.TheVariants.{Undefined}
use Rattle.ir_model.specs.Values.{Env, value_of, type_of}
use Rattle.ir_model.specs.Memory.{Memory}
use Rattle.ir_model.specs.Accesses.{Effect}
use Rattle.ir_model.specs.Step.{State, Reached, Back, Went, Lost, then_go, effect_of, back_with, act, reached_with, step}
use Rattle.ir_model.specs.Run.{Ended, Stops, Returns, Goes, Exit, exit_with, is_terminator, is_phi, leave, arm_of, with_phi, reached_if, run_insts, enter, run_block, Runs, no_calls, on_exit, runs, types_of, start_env, noalias_holds, outcome_of, run_func, run_found, run_of, functions_of}
use Rattle.ir_model.specs.CallFree as free

-- a state with the bound that is left
abbrev pub at : State → ℕ → Reached
at s left = record { state = s; left = left }

-- an instruction is its effect
act_plain : (go : Runs) (op : Op) (t : Ty) (types : List Ty) (vs : List Value) (m : Memory) (n : ℕ) →
    act (no_calls go) op t types vs m n ≡ back_with n (effect_of op t types vs m)
act_plain go (Call site) t types vs m n = refl
act_plain go op t types vs m n = refl

then_reached : (env : Env) (id : Id) (n : ℕ) (e : Option Effect) → then_go (back_with n e) (reached_with env id) ≡ reached_if n (free.after_effect env id e)
then_reached env id n None = refl
then_reached env id n (Some e) = refl

pub step_plain : (go : Runs) (types : Id → Ty) (i : Inst) (s : State) (n : ℕ) →
    step types (no_calls go) i (at s n) ≡ reached_if n (free.step_of types i s)
step_plain go types i s n =
    ap (λ w. then_go w (reached_with s.env i.id)) (act_plain go i.op i.ty (map (type_of types) i.opds) (map (value_of s.env) i.opds) s.memory n)
    ∙ then_reached s.env i.id n (effect_of i.op i.ty (map (type_of types) i.opds) (map (value_of s.env) i.opds) s.memory)

then_plain : (n : ℕ) (o : Option State) (new : Reached → Went Exit) (old : State → Ended) → ((s : State) → new (at s n) ≡ exit_with n (old s)) →
    then_go (reached_if n o) new ≡ exit_with n (free.then_ends o old)
then_plain n None new old h = refl
then_plain n (Some s) new old h = h s

pub insts_plain : (go : Runs) (types : Id → Ty) (is : List Inst) (s : State) (n : ℕ) →
    run_insts types (no_calls go) is (at s n) ≡ exit_with n (free.run_insts types is s)
insts_plain go types [] s n = refl
insts_plain go types (i ∷ is) s n = by_kind (λ t. insts_plain go types is t n) (is_terminator i.op)
  where
    by_kind : ((t : State) → run_insts types (no_calls go) is (at t n) ≡ exit_with n (free.run_insts types is t)) → (b : Bool) →
        cond b (exit_with n (leave i.op (map (value_of s.env) i.opds) s)) (then_go (step types (no_calls go) i (at s n)) (run_insts types (no_calls go) is))
        ≡ exit_with n (cond b (leave i.op (map (value_of s.env) i.opds) s) (free.then_ends (free.step_of types i s) (free.run_insts types is)))
    by_kind more true = refl
    by_kind more false =
        ap (λ w. then_go w (run_insts types (no_calls go) is)) (step_plain go types i s n)
        ∙ then_plain n (free.step_of types i s) (run_insts types (no_calls go) is) (free.run_insts types is) more

pub enter_plain : (go : Runs) (types : Id → Ty) (from : Option ℕ) (edge : Env) (is : List Inst) (s : State) (n : ℕ) →
    enter types (no_calls go) from edge is (at s n) ≡ exit_with n (free.enter types from edge is s)
enter_plain go types from edge [] s n = refl
enter_plain go types from edge (i ∷ is) s n = by_kind (λ t. enter_plain go types from edge is t n) (is_phi i.op)
  where
    by_kind : ((t : State) → enter types (no_calls go) from edge is (at t n) ≡ exit_with n (free.enter types from edge is t)) → (b : Bool) →
        cond b (then_go (reached_if n (with_phi edge i.id s (arm_of from i.op i.opds))) (enter types (no_calls go) from edge is)) (run_insts types (no_calls go) (i ∷ is) (at s n))
        ≡ exit_with n (cond b (free.then_ends (with_phi edge i.id s (arm_of from i.op i.opds)) (free.enter types from edge is)) (free.run_insts types (i ∷ is) s))
    by_kind more true = then_plain n (with_phi edge i.id s (arm_of from i.op i.opds)) (enter types (no_calls go) from edge is) (free.enter types from edge is) more
    by_kind more false = insts_plain go types (i ∷ is) s n

pub block_plain : (go : Runs) (types : Id → Ty) (from : Option ℕ) (s : State) (n : ℕ) (b : Option Block) →
    run_block types (no_calls go) from (at s n) b ≡ exit_with n (free.run_block types from s b)
block_plain go types from s n None = refl
block_plain go types from s n (Some b) = enter_plain go types from s.env b.insts s n

then_exit : (n : ℕ) (e : Ended) (go : ℕ → Reached → Went Back) (old : ℕ → State → Outcome) →
    ((to : ℕ) (s : State) → outcome_of (go to (at s n)) ≡ old to s) →
    outcome_of (then_go (exit_with n e) (on_exit go)) ≡ free.end_on e old
then_exit n Stops go old h = refl
then_exit n (Returns v m) go old h = refl
then_exit n (Goes to s) go old h = h to s

-- functions, where the bound that is left is what recursion goes by
pub runs_plain : (f : Func) (n : ℕ) (from : Option ℕ) (to : ℕ) (s : State) →
    outcome_of (runs no_calls n f from to (at s n)) ≡ free.run_blocks (types_of f) f.blocks n from to s
runs_plain f zero from to s = refl
runs_plain f (suc n) from to s =
    ap (λ w. outcome_of (then_go w (on_exit (runs no_calls n f (Some to))))) (block_plain (runs no_calls n) (types_of f) from s n (slice_get f.blocks to))
    ∙ then_exit n (free.run_block (types_of f) from s (slice_get f.blocks to)) (runs no_calls n f (Some to)) (free.run_blocks (types_of f) f.blocks n (Some to))
    (λ next t. runs_plain f n (Some to) next t)

pub func_plain : (globals : ℕ) (f : Func) (args : List Value) (m : Memory) (n : ℕ) →
    outcome_of (run_func no_calls globals f args m n) ≡ free.run_func globals f args m n
func_plain globals f args m n = by_start (noalias_holds globals [] f.params args)
  where
    start : State
    start = record { env = start_env f.params args; memory = m }

    by_start : (b : Bool) → outcome_of (cond b (runs no_calls n f None 0 (at start n)) Lost)
        ≡ cond b (free.run_blocks (types_of f) f.blocks n None 0 start) Undefined
    by_start true = runs_plain f n None 0 start
    by_start false = refl

pub found_plain : (globals : ℕ) (f : Option Func) (args : List Value) (m : Memory) (n : ℕ) →
    run_found globals f args m n ≡ free.run_found globals f args m n
found_plain globals None args m n = refl
found_plain globals (Some f) args m n = func_plain globals f args m n

pub run_plain : (m : Module) (func : ℕ) (args : List Value) (memory : Memory) (bound : ℕ) →
    run_of m func args memory bound ≡ free.plain_run_of m func args memory bound
run_plain m func args memory bound = found_plain (length m.globals) (slice_get (functions_of m.items) func) args memory bound
