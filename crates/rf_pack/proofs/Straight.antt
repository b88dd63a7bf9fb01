-- Straight code: statements of the first forms and then `ret void`.
use Rattle.std.proofs.Common.{◌≡◌, refl, sym, ap, ◌∙◌, subst, ℕ, Bool, true, false, ◌&&◌, Option, None, Some, List, [], ◌∷◌, map, cond}
use Rattle.ir_types.specs.declared.id.Id.{Id}
use Rattle.ir_types.specs.declared.ty.Ty.{Ty}
use Rattle.ir_types.specs.declared.opd.Opd.{Opd}
use Rattle.ir_types.specs.declared.op.Op.{Op}
use Rattle.ir_types.specs.declared.op.Op.TheVariants.{Ret}
use Rattle.ir_types.specs.declared.inst.Inst.{Inst}
use Rattle.ir_model.specs.Values.{Env, value_of}
use Rattle.ir_model.specs.Step.{State}
use Rattle.ir_model.specs.Run.{Ended, Stops, Returns, Goes, is_terminator, is_phi, leave, with_phi, arm_of}
use Rattle.ir_model.specs.CallFree.{after_effect, step_of, then_ends, run_insts, enter}
use Rattle.vx_serial.specs.Pair.{is_statement_of, is_named, is_statement, is_void, is_return_of, is_return, is_last, is_straight, is_memory}
use Rattle.rf_pack.proofs.Statements.{both_true, true_of, Plain, plain}

-- the first instruction of straight code: the return, or a statement before straight code
pub data StraightFrom (i : Inst) (is : List Inst) : Type 0 where
  Last : is_return_of i.op i.opds ≡ true → is ≡ [] → StraightFrom i is
  More : is_statement_of i.op i.ty i.opds ≡ true → is_straight is ≡ true → StraightFrom i is

last-is : (is : List Inst) → is_last is ≡ true → is ≡ []
last-is [] e = refl
last-is (i ∷ is) e = absurd cc

pub straight_from : (i : Inst) (is : List Inst) → is_straight (i ∷ is) ≡ true → StraightFrom i is
straight_from i is h = by_return (is_return i) refl h
  where
    by_return : (b : Bool) → is_return i ≡ b → cond b (is_last is) (is_statement i && is_straight is) ≡ true → StraightFrom i is
    by_return true r e = Last (both_true (is_void i.ty) (is_return_of i.op i.opds) r).1 (last-is is e)
    by_return false r e =
        let p = both_true (is_statement i) (is_straight is) e in
        More (both_true (is_statement_of i.op i.ty i.opds) (is_named i.op i.name) p.0).0 p.1

pub plain_of : (i : Inst) → is_statement_of i.op i.ty i.opds ≡ true → Plain i.op i.ty i.opds
plain_of i h = plain i.op i.ty i.opds h

-- ---- returns

pub record IsReturn (op : Op) (opds : List Opd) : Type 0 where
  pub ends : is_terminator op ≡ true
  pub no_phi : is_phi op ≡ false
  pub no_memory : is_memory op ≡ false
  pub leaves : (env : Env) (s : State) → leave op (map (value_of env) opds) s ≡ Returns None s.memory

pub return-is : (op : Op) (opds : List Opd) → is_return_of op opds ≡ true → IsReturn op opds
return-is Ret [] h = record { ends = refl; no_phi = refl; no_memory = refl; leaves = λ env s. refl }
return-is op opds h = absurd (true_of h)

-- ---- runs

-- a statement steps, and the rest runs
pub run_statement : (t : Id → Ty) (i : Inst) (is : List Inst) (s : State) → is_terminator i.op ≡ false →
    run_insts t (i ∷ is) s ≡ then_ends (step_of t i s) (run_insts t is)
run_statement t i is s e = ap (λ b. cond b (leave i.op (map (value_of s.env) i.opds) s) (then_ends (step_of t i s) (run_insts t is))) e

-- the last instruction leaves
pub run_return : (t : Id → Ty) (i : Inst) (is : List Inst) (s : State) → IsReturn i.op i.opds → run_insts t (i ∷ is) s ≡ Returns None s.memory
run_return t i is s r =
    ap (λ b. cond b (leave i.op (map (value_of s.env) i.opds) s) (then_ends (step_of t i s) (run_insts t is))) r.ends ∙ r.leaves s.env s

-- straight code goes to no other block
abbrev pub IsFinal : Ended → Type 0
IsFinal Stops = Unit {0}
IsFinal (Returns v m) = Unit {0}
IsFinal (Goes to s) = ⊥

pub straight_final : (t : Id → Ty) (is : List Inst) (s : State) → is_straight is ≡ true → IsFinal (run_insts t is s)
straight_final t [] s h = tt
straight_final t (i ∷ is) s h = by_first (straight_from i is h) (λ r u. straight_final t is u r)
  where
    by_step : (o : Option State) → ((u : State) → IsFinal (run_insts t is u)) → IsFinal (then_ends o (run_insts t is))
    by_step None more = tt
    by_step (Some u) more = more u

    by_first : StraightFrom i is → (is_straight is ≡ true → (u : State) → IsFinal (run_insts t is u)) → IsFinal (run_insts t (i ∷ is) s)
    by_first (Last r e) more = subst IsFinal (sym (run_return t i is s (return-is i.op i.opds r))) tt
    by_first (More p r) more = subst IsFinal (sym (run_statement t i is s (plain_of i p).goes_on)) (by_step (step_of t i s) (more r))

-- the types of ids do not matter to straight code
pub straight_untyped : (t u : Id → Ty) (is : List Inst) (s : State) → is_straight is ≡ true → run_insts t is s ≡ run_insts u is s
straight_untyped t u [] s h = refl
straight_untyped t u (i ∷ is) s h = by_first (straight_from i is h) (λ r v. straight_untyped t u is v r)
  where
    by_step : (o : Option State) → ((v : State) → run_insts t is v ≡ run_insts u is v) → then_ends o (run_insts t is) ≡ then_ends o (run_insts u is)
    by_step None more = refl
    by_step (Some v) more = more v

    same_step : is_statement_of i.op i.ty i.opds ≡ true → step_of t i s ≡ step_of u i s
    same_step p = ap (after_effect s.env i.id) ((plain_of i p).untyped t u s.env s.memory)

    by_first : StraightFrom i is → (is_straight is ≡ true → (v : State) → run_insts t is v ≡ run_insts u is v) → run_insts t (i ∷ is) s ≡ run_insts u (i ∷ is) s
    by_first (Last r e) more = run_return t i is s (return-is i.op i.opds r) ∙ sym (run_return u i is s (return-is i.op i.opds r))
    by_first (More p r) more =
        run_statement t i is s (plain_of i p).goes_on
        ∙ by_step (step_of t i s) (more r)
        ∙ ap (λ o. then_ends o (run_insts u is)) (same_step p)
        ∙ sym (run_statement u i is s (plain_of i p).goes_on)

-- ---- blocks without phis

abbrev pub HasNoPhi : List Inst → Type 0
HasNoPhi [] = Unit {0}
HasNoPhi (i ∷ is) = is_phi i.op ≡ false

pub enter_run : (t : Id → Ty) (from : Option ℕ) (edge : Env) (is : List Inst) (s : State) → HasNoPhi is → enter t from edge is s ≡ run_insts t is s
enter_run t from edge [] s h = refl
enter_run t from edge (i ∷ is) s h =
    ap (λ b. cond b (then_ends (with_phi edge i.id s (arm_of from i.op i.opds)) (enter t from edge is)) (run_insts t (i ∷ is) s)) h

pub straight_no_phi : (is : List Inst) → is_straight is ≡ true → HasNoPhi is
straight_no_phi [] h = tt
straight_no_phi (i ∷ is) h = by_first (straight_from i is h)
  where
    by_first : StraightFrom i is → is_phi i.op ≡ false
    by_first (Last r e) = (return-is i.op i.opds r).no_phi
    by_first (More p r) = (plain_of i p).no_phi
