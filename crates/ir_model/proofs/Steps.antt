-- One step, the instructions of a block, and a block that is entered are monotone, over all calls that are.
use Rattle.std.proofs.Common.{◌≡◌, refl, sym, subst, ℕ, ◌≤◌, Bool, true, false, Option, None, Some, List, [], ◌∷◌, map, cond}
use Rattle.std.specs.List.{AllZip}
use Rattle.ir_types.specs.declared.id.Id.{Id}
use Rattle.ir_types.specs.declared.ty.Ty.{Ty}
use Rattle.ir_types.specs.declared.opd.Opd.{Opd}
use Rattle.ir_types.specs.declared.opd.Opd.TheVariants.{Val, Lit, Sym}
use Rattle.ir_types.specs.declared.op.Op.{Op}
use Rattle.ir_types.specs.declared.op.Op.TheVariants.{Ret, Br, CondBr, Switch}
use Rattle.ir_types.specs.declared.inst.Inst.{Inst}
use Rattle.ir_types.specs.declared.func.Block.{Block}
use Rattle.ir_model.specs.declared.value.Value.{Value}
use Rattle.ir_model.specs.declared.value.Value.TheVariants.{Lane as LaneValue}
use Rattle.ir_model.specs.Values.{Env, ValueRefines, same_id, with_value, value_of, type_of}
use Rattle.ir_model.specs.Memory.{Memory, MemoryRefines}
use Rattle.ir_model.specs.Accesses.{Effect}
use Rattle.ir_model.specs.Step.{State, Went, Lost, Halts, On, then_go, Reached, Calls, effect_of, callee_of, back_with, called_or, act, set_result, reached_with, step}
use Rattle.ir_model.specs.Run.{Ended, Stops, Returns, Goes, Exit, exit_with, is_terminator, is_phi, leave, arm_of, with_phi, reached_if, run_insts, enter, run_block}
use Rattle.ir_model.specs.Refines.{ResultRefines}
use Rattle.ir_model.specs.Monotone.{WentRefines, StateRefines, BackRefines, ReachedRefines, CallsRefine, ExitRefines}
use Rattle.ir_model.proofs.Same.{value_same}
use Rattle.ir_model.proofs.Finer.{lane_first, any_first, no_more}
use Rattle.ir_model.proofs.Effects.{EffectsFiner, effect_finer}

-- parts of a run one after another
pub then_finer : {A B : Type 0} (R : A → A → Type 0) (S : B → B → Type 0) (new old : Went A) (f g : A → Went B) →
    WentRefines R new old → ((x y : A) → R x y → WentRefines S (f x) (g y)) → WentRefines S (then_go new f) (then_go old g)
then_finer R S new Lost f g z h = tt
then_finer R S (Halts m) (Halts n) f g z h = z
then_finer R S (On x) (On y) f g z h = h x y z
then_finer R S Lost (Halts n) f g z h = elim z [ ]
then_finer R S (On x) (Halts n) f g z h = elim z [ ]
then_finer R S Lost (On y) f g z h = elim z [ ]
then_finer R S (Halts m) (On y) f g z h = elim z [ ]

pub operand_finer : (env old : Env) → ((id : Id) → ValueRefines (env id) (old id)) → (o : Opd) → ValueRefines (value_of env o) (value_of old o)
operand_finer env old h (Val id) = h id
operand_finer env old h (Lit l) = value_same (value_of old (Lit l))
operand_finer env old h (Sym g) = refl

pub operands_finer : (env old : Env) → ((id : Id) → ValueRefines (env id) (old id)) → (os : List Opd) → AllZip ValueRefines (map (value_of env) os) (map (value_of old) os)
operands_finer env old h [] = tt
operands_finer env old h (o ∷ os) = (operand_finer env old h o, operands_finer env old h os)

pub with_value_finer : (env old : Env) (id : Id) (v w : Value) → ((x : Id) → ValueRefines (env x) (old x)) → ValueRefines v w →
    (x : Id) → ValueRefines (with_value env id v x) (with_value old id w x)
with_value_finer env old id v w h k x = by_test (same_id x id) where
  by_test : (b : Bool) → ValueRefines (cond b v (env x)) (cond b w (old x))
  by_test true = k
  by_test false = h x

set_result_finer : (env old : Env) (id : Id) (v w : Option Value) → ((x : Id) → ValueRefines (env x) (old x)) → ResultRefines v w →
    (x : Id) → ValueRefines (set_result env id v x) (set_result old id w x)
set_result_finer env old id None None h k = h
set_result_finer env old id (Some v) (Some w) h k = with_value_finer env old id v w h k
set_result_finer env old id None (Some w) h k = λ x. elim k [ ]
set_result_finer env old id (Some v) None h k = λ x. elim k [ ]

back_finer : (n left : ℕ) (d e : Option Effect) → left ≤ n → EffectsFiner d e → WentRefines (BackRefines n) (back_with left d) (back_with left e)
back_finer n left d None within z = tt
back_finer n left (Some d) (Some e) within z = record { result = z.result; memory = z.memory; left = refl; within = within }
back_finer n left None (Some e) within z = elim z [ ]

called_finer : (n : ℕ) (new old : Calls) (vs ws : List Value) (m mm : Memory) (left : ℕ) (d e : Option Effect) (c : Option (List ℕ)) → CallsRefine n new old → left ≤ n →
    AllZip ValueRefines vs ws → MemoryRefines m mm → EffectsFiner d e → WentRefines (BackRefines n) (called_or new vs m left d c) (called_or old ws mm left e c)
called_finer n new old vs ws m mm left d e None calls within z h k = back_finer n left d e within k
called_finer n new old vs ws m mm left d e (Some callee) calls within z h k = calls callee vs ws m mm left within z h

pub act_finer : (n : ℕ) (new old : Calls) (op : Op) (t : Ty) (types : List Ty) (vs ws : List Value) (m mm : Memory) (left : ℕ) → CallsRefine n new old → left ≤ n →
    AllZip ValueRefines vs ws → MemoryRefines m mm → WentRefines (BackRefines n) (act new op t types vs m left) (act old op t types ws mm left)
act_finer n new old op t types vs ws m mm left calls within z h =
    called_finer n new old vs ws m mm left (effect_of op t types vs m) (effect_of op t types ws mm) (callee_of op) calls within z h (effect_finer op t types vs ws m mm z h)

-- the bound on one side may be written as that on the other
same_left : (n : ℕ) (types : Id → Ty) (new : Calls) (i : Inst) (r s : Reached) (w : Went Reached) → r.left ≡ s.left →
    WentRefines (ReachedRefines n) (step types new i (record { state = r.state; left = s.left })) w → WentRefines (ReachedRefines n) (step types new i r) w
same_left n types new i r s w e z =
    subst (λ k. WentRefines (ReachedRefines n) (step types new i (record { state = r.state; left = k })) w) (sym e) z

pub step_finer : (n : ℕ) (types : Id → Ty) (new old : Calls) → CallsRefine n new old → (i : Inst) (r s : Reached) → ReachedRefines n r s →
    WentRefines (ReachedRefines n) (step types new i r) (step types old i s)
step_finer n types new old calls i r s z =
    same_left n types new i r s (step types old i s) z.left
    (then_finer (BackRefines n) (ReachedRefines n)
    (act new i.op i.ty (map (type_of types) i.opds) (map (value_of r.state.env) i.opds) r.state.memory s.left)
    (act old i.op i.ty (map (type_of types) i.opds) (map (value_of s.state.env) i.opds) s.state.memory s.left)
    (reached_with r.state.env i.id) (reached_with s.state.env i.id)
    (act_finer n new old i.op i.ty (map (type_of types) i.opds) (map (value_of r.state.env) i.opds) (map (value_of s.state.env) i.opds) r.state.memory s.state.memory s.left
    calls z.within (operands_finer r.state.env s.state.env z.state.env i.opds) z.state.memory)
    (λ x y k. record {
      state = record { env = set_result_finer r.state.env s.state.env i.id x.result y.result z.state.env k.result; memory = k.memory };
      left = k.left;
      within = k.within;
    }))

-- ---- terminators

abbrev pub EndedRefines : Ended → Ended → Type 0
EndedRefines new Stops = Unit {0}
EndedRefines (Returns v m) (Returns w n) = ResultRefines v w × MemoryRefines m n
EndedRefines (Goes at s) (Goes to t) = (at ≡ to) × StateRefines s t
EndedRefines _ _ = ⊥

pub leave_finer : (op : Op) (vs ws : List Value) (s t : State) → AllZip ValueRefines vs ws → StateRefines s t → EndedRefines (leave op vs s) (leave op ws t)
leave_finer Ret vs [] s t z h = no_more (λ us. EndedRefines (leave Ret us s) (leave Ret [] t)) vs z (tt, h.memory)
leave_finer Ret vs (w ∷ []) s t z h =
    any_first (λ us. EndedRefines (leave Ret us s) (leave Ret (w ∷ []) t)) w [] vs z
    (λ v us k more. no_more (λ us. EndedRefines (leave Ret (v ∷ us) s) (leave Ret (w ∷ []) t)) us more (k, h.memory))
leave_finer (Br to) vs ws s t z h = (refl, h)
leave_finer (CondBr first second) vs (LaneValue (Some k) ∷ []) s t z h =
    lane_first (λ us. EndedRefines (leave (CondBr first second) us s) (leave (CondBr first second) (LaneValue (Some k) ∷ []) t)) (Some k) [] vs z
    (λ x us e more. no_more (λ us. EndedRefines (leave (CondBr first second) (LaneValue x ∷ us) s) (leave (CondBr first second) (LaneValue (Some k) ∷ []) t)) us more
    (subst (λ l. EndedRefines (leave (CondBr first second) (LaneValue l ∷ []) s) (leave (CondBr first second) (LaneValue (Some k) ∷ []) t)) (sym e) (refl, h)))
leave_finer (Switch other cases tos) vs (LaneValue (Some k) ∷ []) s t z h =
    lane_first (λ us. EndedRefines (leave (Switch other cases tos) us s) (leave (Switch other cases tos) (LaneValue (Some k) ∷ []) t)) (Some k) [] vs z
    (λ x us e more. no_more (λ us. EndedRefines (leave (Switch other cases tos) (LaneValue x ∷ us) s) (leave (Switch other cases tos) (LaneValue (Some k) ∷ []) t)) us more
    (subst (λ l. EndedRefines (leave (Switch other cases tos) (LaneValue l ∷ []) s) (leave (Switch other cases tos) (LaneValue (Some k) ∷ []) t)) (sym e) (refl, h)))
leave_finer op vs ws s t z h = tt

exit_finer : (n l k : ℕ) (d e : Ended) → l ≡ k → k ≤ n → EndedRefines d e → WentRefines (ExitRefines n) (exit_with l d) (exit_with k e)
exit_finer n l k d Stops same within z = tt
exit_finer n l k (Returns v m) (Returns w o) same within z = record { result = z.0; memory = z.1; left = same; within = within }
exit_finer n l k (Goes at s) (Goes to t) same within z = (z.0, record { state = z.1; left = same; within = within })
exit_finer n l k Stops (Returns w o) same within z = elim z [ ]
exit_finer n l k (Goes at s) (Returns w o) same within z = elim z [ ]
exit_finer n l k Stops (Goes to t) same within z = elim z [ ]
exit_finer n l k (Returns v m) (Goes to t) same within z = elim z [ ]

-- ---- blocks

cond_went : (R : Exit → Exit → Type 0) (b : Bool) (x y u v : Went Exit) → WentRefines R x u → WentRefines R y v → WentRefines R (cond b x y) (cond b u v)
cond_went R true x y u v p q = p
cond_went R false x y u v p q = q

pub insts_finer : (n : ℕ) (types : Id → Ty) (new old : Calls) → CallsRefine n new old → (is : List Inst) (r s : Reached) → ReachedRefines n r s →
    WentRefines (ExitRefines n) (run_insts types new is r) (run_insts types old is s)
insts_finer n types new old calls [] r s z = tt
insts_finer n types new old calls (i ∷ is) r s z =
    cond_went (ExitRefines n) (is_terminator i.op)
    (exit_with r.left (leave i.op (map (value_of r.state.env) i.opds) r.state)) (then_go (step types new i r) (run_insts types new is))
    (exit_with s.left (leave i.op (map (value_of s.state.env) i.opds) s.state)) (then_go (step types old i s) (run_insts types old is))
    (exit_finer n r.left s.left (leave i.op (map (value_of r.state.env) i.opds) r.state) (leave i.op (map (value_of s.state.env) i.opds) s.state) z.left z.within
    (leave_finer i.op (map (value_of r.state.env) i.opds) (map (value_of s.state.env) i.opds) r.state s.state (operands_finer r.state.env s.state.env z.state.env i.opds) z.state))
    (then_finer (ReachedRefines n) (ExitRefines n) (step types new i r) (step types old i s) (run_insts types new is) (run_insts types old is)
    (step_finer n types new old calls i r s z) (λ x y k. insts_finer n types new old calls is x y k))

phi_finer : (n : ℕ) (edge old : Env) (id : Id) (r s : Reached) (o : Option Opd) → ((x : Id) → ValueRefines (edge x) (old x)) → ReachedRefines n r s →
    WentRefines (ReachedRefines n) (reached_if r.left (with_phi edge id r.state o)) (reached_if s.left (with_phi old id s.state o))
phi_finer n edge old id r s None h z = tt
phi_finer n edge old id r s (Some o) h z = record {
  state = record {
    env = with_value_finer r.state.env s.state.env id (value_of edge o) (value_of old o) z.state.env (operand_finer edge old h o);
    memory = z.state.memory;
  };
  left = z.left;
  within = z.within;
}

pub enter_finer : (n : ℕ) (types : Id → Ty) (new old : Calls) → CallsRefine n new old → (from : Option ℕ) (edge before : Env) → ((x : Id) → ValueRefines (edge x) (before x)) →
    (is : List Inst) (r s : Reached) → ReachedRefines n r s →
    WentRefines (ExitRefines n) (enter types new from edge is r) (enter types old from before is s)
enter_finer n types new old calls from edge before h [] r s z = tt
enter_finer n types new old calls from edge before h (i ∷ is) r s z =
    cond_went (ExitRefines n) (is_phi i.op)
    (then_go (reached_if r.left (with_phi edge i.id r.state (arm_of from i.op i.opds))) (enter types new from edge is)) (run_insts types new (i ∷ is) r)
    (then_go (reached_if s.left (with_phi before i.id s.state (arm_of from i.op i.opds))) (enter types old from before is)) (run_insts types old (i ∷ is) s)
    (then_finer (ReachedRefines n) (ExitRefines n)
    (reached_if r.left (with_phi edge i.id r.state (arm_of from i.op i.opds))) (reached_if s.left (with_phi before i.id s.state (arm_of from i.op i.opds)))
    (enter types new from edge is) (enter types old from before is)
    (phi_finer n edge before i.id r s (arm_of from i.op i.opds) h z) (λ x y k. enter_finer n types new old calls from edge before h is x y k))
    (insts_finer n types new old calls (i ∷ is) r s z)

pub block_finer : (n : ℕ) (types : Id → Ty) (new old : Calls) → CallsRefine n new old → (from : Option ℕ) (b : Option Block) (r s : Reached) → ReachedRefines n r s →
    WentRefines (ExitRefines n) (run_block types new from r b) (run_block types old from s b)
block_finer n types new old calls from None r s z = tt
block_finer n types new old calls from (Some b) r s z = enter_finer n types new old calls from r.state.env s.state.env z.state.env b.insts r s z
