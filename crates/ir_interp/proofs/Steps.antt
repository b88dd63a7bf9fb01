-- A step that gives a result sets the value of its id; a block goes on after each step, and a run after each block.
use Rattle.std.proofs.Common.{◌≡◌, sym, ap, ◌∙◌, ℕ, suc, ◌+◌, ◌-◌, ◌<◌, Bool, true, false, cond, Option, Some, List, ◌∷◌, map, drop, slice_get, arith}
use Rattle.ir_types.specs.declared.id.Id.{Id}
use Rattle.ir_types.specs.declared.ty.Ty.{Ty}
use Rattle.ir_types.specs.declared.inst.Inst.{Inst}
use Rattle.ir_types.specs.declared.func.Block.{Block}
use Rattle.ir_model.specs.declared.value.Value.{Value}
use Rattle.ir_model.specs.Values.{Env, with_value, value_of, type_of}
use Rattle.ir_model.specs.Memory.{Memory}
use Rattle.ir_model.specs.Step.{State, effect_of}
use Rattle.ir_model.specs.Run.{is_terminator, leave}
use Rattle.ir_model.specs.CallFree.{after_effect, step_of, then_ends, run_insts, run_block, end_on, run_blocks}
use Rattle.ir_interp.specs.declared.blocks.Ended.{Ended as Kept}
use Rattle.ir_interp.specs.Effects.{effect_with, state_if}
use Rattle.ir_interp.specs.Blocks.{ended_in}

pub step_of-result : (types : Id → Ty) (env new : Env) (i : Inst) (m after : Memory) (v : Value) (ts : List Ty) (vs : List Value)
    → ts ≡ map (type_of types) i.opds → vs ≡ map (value_of env) i.opds
    → Some (effect_with v after) ≡ effect_of i.op i.ty ts vs m → new ≡ with_value env i.id v
    → Some (record { env = new; memory = after }) ≡ step_of types i (record { env = env; memory = m })
step_of-result types env new i m after v ts vs et ev e g =
    let same : Some (effect_with v after) ≡ effect_of i.op i.ty (map (type_of types) i.opds) (map (value_of env) i.opds) m =
    e ∙ ap (λ l. effect_of i.op i.ty l vs m) et ∙ ap (λ l. effect_of i.op i.ty (map (type_of types) i.opds) l m) ev in
    ap (λ (l : Env). Some (record { env = l; memory = after })) g ∙ ap (after_effect env i.id) same

-- one instruction more of a block
pub run_insts-more : (types : Id → Ty) (insts : List Inst) (at : ℕ) (i : Inst) (b : Bool) (s t : State)
    → i ∷ drop (at + 1) insts ≡ drop at insts → is_terminator i.op ≡ false → b ≡ true → state_if b t ≡ step_of types i s
    → run_insts types (drop (at + 1) insts) t ≡ run_insts types (drop at insts) s
run_insts-more types insts at i b s t next goes_on defined e =
    let stepped : Some t ≡ step_of types i s = ap (λ d. state_if d t) (sym defined) ∙ e in
    ap (λ o. then_ends o (run_insts types (drop (at + 1) insts))) stepped
    ∙ sym (ap (λ d. cond d (leave i.op (map (value_of s.env) i.opds) s) (then_ends (step_of types i s) (run_insts types (drop (at + 1) insts)))) goes_on)
    ∙ ap (λ l. run_insts types l s) next

-- one block more
pub run_blocks-more : (types : Id → Ty) (bs : List Block) (bound i : ℕ) (from : Option ℕ) (at : ℕ) (s t : State) (k : Kept) (b : Option Block)
    → i < bound → b ≡ slice_get bs at → ended_in k t ≡ run_block types from s b
    → end_on (ended_in k t) (λ to u. run_blocks types bs (bound - (i + 1)) (Some at) to u) ≡ run_blocks types bs (bound - i) from at s
run_blocks-more types bs bound i from at s t k b h found e =
    let left : suc (bound - (i + 1)) ≡ bound - i = omega arith in
    ap (λ ended. end_on ended (λ to u. run_blocks types bs (bound - (i + 1)) (Some at) to u)) (e ∙ ap (run_block types from s) found)
    ∙ ap (λ n. run_blocks types bs n from at s) left
