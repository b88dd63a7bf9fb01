-- A module with its ids given anew runs as before: a value is found under the new id of its id.
use Rattle.std.proofs.Common.{◌≡◌, refl, sym, ap, ◌∙◌, subst, ℕ, zero, suc, Bool, true, false, not, ◌&&◌, ◌||◌, Option, None, Some, List, [], ◌∷◌, ◌++◌, length, map, cond, nat_eq, slice_get, option_map}
use Rattle.std.specs.List.{AllZip}
use Rattle.std.proofs.lemmas.Option.{slice_get-map}
use Rattle.ir_types.specs.declared.id.Id.{Id}
use Rattle.ir_types.specs.declared.ty.Ty.{Ty}
use Rattle.ir_types.specs.declared.opd.Opd.{Opd}
use Rattle.ir_types.specs.declared.opd.Opd.TheVariants.{Val, Lit, Sym}
use Rattle.ir_types.specs.declared.op.Op.{Op}
use Rattle.ir_types.specs.declared.op.Op.TheVariants.{Phi, Ret, Br, CondBr, Switch}
use Rattle.ir_types.specs.declared.inst.Inst.{Inst}
use Rattle.ir_types.specs.declared.func.Param.{Param}
use Rattle.ir_types.specs.declared.func.Block.{Block}
use Rattle.ir_types.specs.declared.func.Func.{Func}
use Rattle.ir_types.specs.declared.module.Item.{Item}
use Rattle.ir_types.specs.declared.module.Item.TheVariants.{Kept, Opaque, Func as FuncItem}
use Rattle.ir_types.specs.declared.module.Module.{Module}
use Rattle.ir_types.specs.Formed.{ids_of, IsFormed}
use Rattle.ir_types.specs.Renumbered.{new_id, new_opd, new_inst, new_block, new_param, new_func, new_item, renumbered}
use Rattle.ir_model.specs.declared.value.Value.{Value}
use Rattle.ir_model.specs.declared.value.Value.TheVariants.{Lane as LaneValue}
use Rattle.ir_model.specs.Values.{Env, same_id, with_value, value_of, type_of}
use Rattle.ir_model.specs.Memory.{Memory}
use Rattle.ir_model.specs.Step.{State, Went, Lost, Halts, On, then_go, Back, Reached, Calls, act, set_result, reached_with, step}
use Rattle.ir_model.specs.Run.{Ended, Stops, Returns, Goes, Exit, Leaves, To, exit_with, is_terminator, is_phi, leave, arm_from, arm_of, with_phi, reached_if, run_insts, enter, run_block, typed_params, typed_insts, typed_blocks, types_of, start_env, is_unshared, noalias_holds, Runs, no_calls, on_exit, turn_at, runs, outcome_of, run_func, run_found, functions_of, run_of}
use Rattle.ir_model.specs.Refines.{OutcomeRefines, SameParam, SameItem, ModuleRefines}
use Rattle.ir_model.proofs.Same.{outcome_same}
use Rattle.ir_types.proofs.Formed.{Every, every_at}
use Rattle.ir_types.proofs.Among.{new_apart, In, OpdIn, InstIn, BlockIn, FuncIn, ItemIn, module_in}

module _ (ids : List Id) where
  abbrev new : Id → Id
  new = new_id 0 ids

  -- ---- operands

  -- what is found under the new id is what was found under the old one
  abbrev Moved : {A : Type 0} → (Id → A) → (Id → A) → Type 0
  Moved now before = (x : Id) → In ids x → now (new x) ≡ before x

  value_moved : (now before : Env) → Moved now before → (o : Opd) → OpdIn ids o → value_of now (new_opd ids o) ≡ value_of before o
  value_moved now before h (Val x) p = h x p
  value_moved now before h (Lit l) p = refl
  value_moved now before h (Sym g) p = refl

  type_moved : (now before : Id → Ty) → Moved now before → (o : Opd) → OpdIn ids o → type_of now (new_opd ids o) ≡ type_of before o
  type_moved now before h (Val x) p = h x p
  type_moved now before h (Lit l) p = refl
  type_moved now before h (Sym g) p = refl

  all_moved : {A : Type 0} (now before : Opd → A) → ((o : Opd) → OpdIn ids o → now (new_opd ids o) ≡ before o) →
      (os : List Opd) → Every (OpdIn ids) os → map now (map (new_opd ids) os) ≡ map before os
  all_moved now before h [] p = refl
  all_moved now before h (o ∷ os) p = ap (λ v. v ∷ map now (map (new_opd ids) os)) (h o p.0) ∙ ap (λ vs. before o ∷ vs) (all_moved now before h os p.1)

  set_moved : {A : Type 0} (now before : Id → A) (id : Id) (v : A) → Moved now before → In ids id →
      Moved (λ x. cond (same_id x (new id)) v (now x)) (λ x. cond (same_id x id) v (before x))
  set_moved now before id v h p x q =
      ap (λ b. cond b v (now (new x))) (new_apart 0 ids x id q p) ∙ ap (λ w. cond (same_id x id) v w) (h x q)

  result_moved : (now before : Env) (id : Id) (v : Option Value) → Moved now before → In ids id → Moved (set_result now (new id) v) (set_result before id v)
  result_moved now before id None h p = h
  result_moved now before id (Some v) h p = set_moved now before id v h p

  -- ---- what a part of a run comes to

  abbrev WentSame : {A B : Type 0} → (A → B → Type 0) → Went A → Went B → Type 0
  WentSame R Lost Lost = Unit {0}
  WentSame R (Halts m) (Halts n) = m ≡ n
  WentSame R (On x) (On y) = R x y
  WentSame R _ _ = ⊥

  pub record StateMoved (now before : State) : Type 0 where
    pub env : Moved now.env before.env
    pub memory : now.memory ≡ before.memory

  pub record ReachedMoved (now before : Reached) : Type 0 where
    pub state : StateMoved now.state before.state
    pub left : now.left ≡ before.left

  abbrev ExitMoved : Exit → Exit → Type 0
  ExitMoved (Leaves now) (Leaves before) = now ≡ before
  ExitMoved (To at r) (To to s) = (at ≡ to) × ReachedMoved r s
  ExitMoved _ _ = ⊥

  then_moved : {A B C D : Type 0} (R : A → B → Type 0) (S : C → D → Type 0) (x : Went A) (y : Went B) (f : A → Went C) (g : B → Went D) →
      WentSame R x y → ((u : A) (v : B) → R u v → WentSame S (f u) (g v)) → WentSame S (then_go x f) (then_go y g)
  then_moved R S Lost Lost f g z h = tt
  then_moved R S (Halts m) (Halts n) f g z h = z
  then_moved R S (On u) (On v) f g z h = h u v z
  then_moved R S Lost (Halts n) f g z h = elim z [ ]
  then_moved R S Lost (On v) f g z h = elim z [ ]
  then_moved R S (Halts m) Lost f g z h = elim z [ ]
  then_moved R S (Halts m) (On v) f g z h = elim z [ ]
  then_moved R S (On u) Lost f g z h = elim z [ ]
  then_moved R S (On u) (Halts n) f g z h = elim z [ ]

  cond_moved : (b : Bool) (x y u v : Went Exit) → WentSame ExitMoved x u → WentSame ExitMoved y v → WentSame ExitMoved (cond b x y) (cond b u v)
  cond_moved true x y u v p q = p
  cond_moved false x y u v p q = q

  -- ---- one step

  same_back : (w : Went Back) → WentSame (λ x y. x ≡ y) w w
  same_back Lost = tt
  same_back (Halts m) = refl
  same_back (On b) = refl

  act_same : (calls : Calls) (op : Op) (t : Ty) (ts us : List Ty) (vs ws : List Value) (m n : Memory) (k l : ℕ) → ts ≡ us → vs ≡ ws → m ≡ n → k ≡ l →
      WentSame (λ (x y : Back). x ≡ y) (act calls op t ts vs m k) (act calls op t us ws n l)
  act_same calls op t ts us vs ws m n k l a b c d =
      subst (λ w. WentSame (λ (x y : Back). x ≡ y) w (act calls op t us ws n l))
      (sym (ap (λ xs. act calls op t xs vs m k) a ∙ ap (λ xs. act calls op t us xs m k) b ∙ ap (λ x. act calls op t us ws x k) c ∙ ap (act calls op t us ws n) d))
      (same_back (act calls op t us ws n l))

  reached_moved : (now before : Env) (id : Id) (x y : Back) → Moved now before → In ids id → x ≡ y → WentSame ReachedMoved (reached_with now (new id) x) (reached_with before id y)
  reached_moved now before id x y h p e =
      subst (λ b. WentSame ReachedMoved (reached_with now (new id) x) (reached_with before id b)) e
      (record { state = record { env = result_moved now before id x.result h p; memory = refl }; left = refl })

  step_moved : (now before : Id → Ty) (calls : Calls) → Moved now before → (i : Inst) → InstIn ids i → (r s : Reached) → ReachedMoved r s →
      WentSame ReachedMoved (step now calls (new_inst ids i) r) (step before calls i s)
  step_moved now before calls types i p r s z =
      then_moved (λ (x y : Back). x ≡ y) ReachedMoved
      (act calls i.op i.ty (map (type_of now) (map (new_opd ids) i.opds)) (map (value_of r.state.env) (map (new_opd ids) i.opds)) r.state.memory r.left)
      (act calls i.op i.ty (map (type_of before) i.opds) (map (value_of s.state.env) i.opds) s.state.memory s.left)
      (reached_with r.state.env (new i.id)) (reached_with s.state.env i.id)
      (act_same calls i.op i.ty (map (type_of now) (map (new_opd ids) i.opds)) (map (type_of before) i.opds) (map (value_of r.state.env) (map (new_opd ids) i.opds)) (map (value_of s.state.env) i.opds)
      r.state.memory s.state.memory r.left s.left
      (all_moved (type_of now) (type_of before) (type_moved now before types) i.opds p.opds)
      (all_moved (value_of r.state.env) (value_of s.state.env) (value_moved r.state.env s.state.env z.state.env) i.opds p.opds) z.state.memory z.left)
      (λ x y e. reached_moved r.state.env s.state.env i.id x y z.state.env p.id e)

  -- ---- terminators and blocks

  abbrev EndedMoved : Ended → Ended → Type 0
  EndedMoved Stops Stops = Unit {0}
  EndedMoved (Returns v m) (Returns w n) = (v ≡ w) × (m ≡ n)
  EndedMoved (Goes at s) (Goes to t) = (at ≡ to) × StateMoved s t
  EndedMoved _ _ = ⊥

  leave_same : (op : Op) (vs : List Value) (s t : State) → StateMoved s t → EndedMoved (leave op vs s) (leave op vs t)
  leave_same Ret [] s t z = (refl, z.memory)
  leave_same Ret (v ∷ []) s t z = (refl, z.memory)
  leave_same (Br to) vs s t z = (refl, z)
  leave_same (CondBr first second) (LaneValue (Some n) ∷ []) s t z = (refl, z)
  leave_same (Switch other cases tos) (LaneValue (Some n) ∷ []) s t z = (refl, z)
  leave_same op vs s t z = tt

  leave_moved : (op : Op) (vs ws : List Value) (s t : State) → vs ≡ ws → StateMoved s t → EndedMoved (leave op vs s) (leave op ws t)
  leave_moved op vs ws s t e z = subst (λ us. EndedMoved (leave op vs s) (leave op us t)) e (leave_same op vs s t z)

  exit_moved : (k l : ℕ) (d e : Ended) → k ≡ l → EndedMoved d e → WentSame ExitMoved (exit_with k d) (exit_with l e)
  exit_moved k l Stops Stops h z = tt
  exit_moved k l (Returns v m) (Returns w n) h z = λ i. record { result = z.0 i; memory = z.1 i; left = h i }
  exit_moved k l (Goes at s) (Goes to t) h z = (z.0, record { state = z.1; left = h })
  exit_moved k l Stops (Returns w n) h z = elim z [ ]
  exit_moved k l Stops (Goes to t) h z = elim z [ ]
  exit_moved k l (Returns v m) Stops h z = elim z [ ]
  exit_moved k l (Returns v m) (Goes to t) h z = elim z [ ]
  exit_moved k l (Goes at s) Stops h z = elim z [ ]
  exit_moved k l (Goes at s) (Returns w n) h z = elim z [ ]

  insts_moved : (now before : Id → Ty) (calls : Calls) → Moved now before → (is : List Inst) → Every (InstIn ids) is → (r s : Reached) → ReachedMoved r s →
      WentSame ExitMoved (run_insts now calls (map (new_inst ids) is) r) (run_insts before calls is s)
  insts_moved now before calls types [] p r s z = tt
  insts_moved now before calls types (i ∷ is) p r s z =
      cond_moved (is_terminator i.op)
      (exit_with r.left (leave i.op (map (value_of r.state.env) (map (new_opd ids) i.opds)) r.state)) (then_go (step now calls (new_inst ids i) r) (run_insts now calls (map (new_inst ids) is)))
      (exit_with s.left (leave i.op (map (value_of s.state.env) i.opds) s.state)) (then_go (step before calls i s) (run_insts before calls is))
      (exit_moved r.left s.left (leave i.op (map (value_of r.state.env) (map (new_opd ids) i.opds)) r.state) (leave i.op (map (value_of s.state.env) i.opds) s.state) z.left
      (leave_moved i.op (map (value_of r.state.env) (map (new_opd ids) i.opds)) (map (value_of s.state.env) i.opds) r.state s.state
      (all_moved (value_of r.state.env) (value_of s.state.env) (value_moved r.state.env s.state.env z.state.env) i.opds p.0.opds) z.state))
      (then_moved ReachedMoved ExitMoved (step now calls (new_inst ids i) r) (step before calls i s) (run_insts now calls (map (new_inst ids) is)) (run_insts before calls is)
      (step_moved now before calls types i p.0 r s z) (λ x y k. insts_moved now before calls types is p.1 x y k))

  -- the arm of a phi
  pub record ArmMoved (now before : Option Opd) : Type 0 where
    pub same : now ≡ option_map (new_opd ids) before
    pub inside : (o : Opd) → before ≡ Some o → OpdIn ids o

  arm_from_moved : (from : ℕ) (bs : List ℕ) (os : List Opd) → Every (OpdIn ids) os → ArmMoved (arm_from from bs (map (new_opd ids) os)) (arm_from from bs os)
  arm_from_moved from [] os p = record { same = refl; inside = λ o e. absurd cc }
  arm_from_moved from (b ∷ bs) [] p = record { same = refl; inside = λ o e. absurd cc }
  arm_from_moved from (b ∷ bs) (o ∷ os) p = by_test (arm_from_moved from bs os p.1) (nat_eq b from)
    where
      some : (u : Opd) → Some o ≡ Some u → o ≡ u
      some u e = cc

      by_test : ArmMoved (arm_from from bs (map (new_opd ids) os)) (arm_from from bs os) → (t : Bool) →
          ArmMoved (cond t (Some (new_opd ids o)) (arm_from from bs (map (new_opd ids) os))) (cond t (Some o) (arm_from from bs os))
      by_test rest true = record { same = refl; inside = λ u e. subst (OpdIn ids) (some u e) p.0 }
      by_test rest false = rest

  arm_of_moved : (from : Option ℕ) (op : Op) (os : List Opd) → Every (OpdIn ids) os → ArmMoved (arm_of from op (map (new_opd ids) os)) (arm_of from op os)
  arm_of_moved (Some from) (Phi bs) os p = arm_from_moved from bs os p
  arm_of_moved None op os p = record { same = refl; inside = λ o e. absurd cc }
  arm_of_moved (Some from) op os p = record { same = refl; inside = λ o e. absurd cc }

  phi_moved : (now before : Env) (id : Id) (r s : Reached) (o : Option Opd) → Moved now before → In ids id → ((u : Opd) → o ≡ Some u → OpdIn ids u) → ReachedMoved r s →
      WentSame ReachedMoved (reached_if r.left (with_phi now (new id) r.state (option_map (new_opd ids) o))) (reached_if s.left (with_phi before id s.state o))
  phi_moved now before id r s None h p q z = tt
  phi_moved now before id r s (Some o) h p q z = record {
    state = record {
      env = subst (λ v. Moved (with_value r.state.env (new id) v) (with_value s.state.env id (value_of before o))) (sym (value_moved now before h o (q o refl)))
          (set_moved r.state.env s.state.env id (value_of before o) z.state.env p);
      memory = z.state.memory;
    };
    left = z.left;
  }

  enter_moved : (now before : Id → Ty) (calls : Calls) → Moved now before → (from : Option ℕ) (edge old : Env) → Moved edge old → (is : List Inst) → Every (InstIn ids) is →
      (r s : Reached) → ReachedMoved r s → WentSame ExitMoved (enter now calls from edge (map (new_inst ids) is) r) (enter before calls from old is s)
  enter_moved now before calls types from edge old h [] p r s z = tt
  enter_moved now before calls types from edge old h (i ∷ is) p r s z =
      let arm = arm_of_moved from i.op i.opds p.0.opds in
      cond_moved (is_phi i.op)
      (then_go (reached_if r.left (with_phi edge (new i.id) r.state (arm_of from i.op (map (new_opd ids) i.opds)))) (enter now calls from edge (map (new_inst ids) is)))
      (run_insts now calls (map (new_inst ids) (i ∷ is)) r)
      (then_go (reached_if s.left (with_phi old i.id s.state (arm_of from i.op i.opds))) (enter before calls from old is)) (run_insts before calls (i ∷ is) s)
      (then_moved ReachedMoved ExitMoved
      (reached_if r.left (with_phi edge (new i.id) r.state (arm_of from i.op (map (new_opd ids) i.opds)))) (reached_if s.left (with_phi old i.id s.state (arm_of from i.op i.opds)))
      (enter now calls from edge (map (new_inst ids) is)) (enter before calls from old is)
      (subst (λ a. WentSame ReachedMoved (reached_if r.left (with_phi edge (new i.id) r.state a)) (reached_if s.left (with_phi old i.id s.state (arm_of from i.op i.opds)))) (sym arm.same)
      (phi_moved edge old i.id r s (arm_of from i.op i.opds) h p.0.id arm.inside z))
      (λ x y k. enter_moved now before calls types from edge old h is p.1 x y k))
      (insts_moved now before calls types (i ∷ is) p r s z)

  block_moved : (now before : Id → Ty) (calls : Calls) → Moved now before → (from : Option ℕ) (b : Option Block) → ((c : Block) → b ≡ Some c → BlockIn ids c) → (r s : Reached) → ReachedMoved r s →
      WentSame ExitMoved (run_block now calls from r (option_map (new_block ids) b)) (run_block before calls from s b)
  block_moved now before calls types from None p r s z = tt
  block_moved now before calls types from (Some b) p r s z = enter_moved now before calls types from r.state.env s.state.env z.state.env b.insts (p b refl) r s z

  -- ---- functions

  typed_insts_moved : (is : List Inst) (now before : Id → Ty) → Every (InstIn ids) is → Moved now before → Moved (typed_insts (map (new_inst ids) is) now) (typed_insts is before)
  typed_insts_moved [] now before p h x q = h x q
  typed_insts_moved (i ∷ is) now before p h x q =
      ap (λ b. cond b i.ty (typed_insts (map (new_inst ids) is) now (new x))) (new_apart 0 ids x i.id q p.0.id)
      ∙ ap (λ t. cond (same_id x i.id) i.ty t) (typed_insts_moved is now before p.1 h x q)

  typed_blocks_moved : (bs : List Block) → Every (BlockIn ids) bs → Moved (typed_blocks (map (new_block ids) bs)) (typed_blocks bs)
  typed_blocks_moved [] p x q = refl
  typed_blocks_moved (b ∷ bs) p x q = typed_insts_moved b.insts (typed_blocks (map (new_block ids) bs)) (typed_blocks bs) p.0 (typed_blocks_moved bs p.1) x q

  typed_params_moved : (ps : List Param) (now before : Id → Ty) → Every (λ (p : Param). In ids p.id) ps → Moved now before → Moved (typed_params (map (new_param ids) ps) now) (typed_params ps before)
  typed_params_moved [] now before h k x q = k x q
  typed_params_moved (p ∷ ps) now before h k x q =
      ap (λ b. cond b p.ty (typed_params (map (new_param ids) ps) now (new x))) (new_apart 0 ids x p.id q h.0)
      ∙ ap (λ t. cond (same_id x p.id) p.ty t) (typed_params_moved ps now before h.1 k x q)

  types_moved : (f : Func) → FuncIn ids f → Moved (types_of (new_func ids f)) (types_of f)
  types_moved f p = typed_params_moved f.params (typed_blocks (map (new_block ids) f.blocks)) (typed_blocks f.blocks) p.params (typed_blocks_moved f.blocks p.blocks)

  start_moved : (ps : List Param) (vs : List Value) → Every (λ (p : Param). In ids p.id) ps → Moved (start_env (map (new_param ids) ps) vs) (start_env ps vs)
  start_moved [] vs h x q = refl
  start_moved (p ∷ ps) [] h x q = refl
  start_moved (p ∷ ps) (v ∷ vs) h x q =
      ap (λ b. cond b v (start_env (map (new_param ids) ps) vs (new x))) (new_apart 0 ids x p.id q h.0)
      ∙ ap (λ w. cond (same_id x p.id) v w) (start_moved ps vs h.1 x q)

  noalias_same : (globals : ℕ) (before : List Value) (ps : List Param) (vs : List Value) → noalias_holds globals before (map (new_param ids) ps) vs ≡ noalias_holds globals before ps vs
  noalias_same globals before [] vs = refl
  noalias_same globals before (p ∷ ps) [] = refl
  noalias_same globals before (p ∷ ps) (v ∷ vs) = ap (λ b. (not p.noalias || is_unshared globals v (before ++ vs)) && b) (noalias_same globals (v ∷ before) ps vs)

  exit_on : (x y : Exit) (f g : ℕ → Reached → Went Back) → ((to : ℕ) (r s : Reached) → ReachedMoved r s → f to r ≡ g to s) → ExitMoved x y → on_exit f x ≡ on_exit g y
  exit_on (Leaves b) (Leaves c) f g h z = ap On z
  exit_on (To at r) (To to s) f g h z = ap (λ n. f n r) z.0 ∙ h to r s z.1
  exit_on (Leaves b) (To to s) f g h z = elim z [ ]
  exit_on (To at r) (Leaves c) f g h z = elim z [ ]

  then_exit_moved : (x y : Went Exit) (f g : ℕ → Reached → Went Back) → ((to : ℕ) (r s : Reached) → ReachedMoved r s → f to r ≡ g to s) → WentSame ExitMoved x y →
      then_go x (on_exit f) ≡ then_go y (on_exit g)
  then_exit_moved Lost Lost f g h z = refl
  then_exit_moved (Halts m) (Halts n) f g h z = ap Halts z
  then_exit_moved (On x) (On y) f g h z = exit_on x y f g h z
  then_exit_moved Lost (Halts n) f g h z = elim z [ ]
  then_exit_moved Lost (On y) f g h z = elim z [ ]
  then_exit_moved (Halts m) Lost f g h z = elim z [ ]
  then_exit_moved (Halts m) (On y) f g h z = elim z [ ]
  then_exit_moved (On x) Lost f g h z = elim z [ ]
  then_exit_moved (On x) (Halts n) f g h z = elim z [ ]

  turn_moved : (calls : Calls) (now before : Runs) (f : Func) → FuncIn ids f → (from : Option ℕ) (at : ℕ) (s t : State) (k l : ℕ) → StateMoved s t → k ≡ l →
      ((to : ℕ) (r q : Reached) → ReachedMoved r q → now (new_func ids f) (Some at) to r ≡ before f (Some at) to q) →
      turn_at calls now (new_func ids f) from at s k ≡ turn_at calls before f from at t l
  turn_moved calls now before f p from at s t k zero z e h =
      ap (turn_at calls now (new_func ids f) from at s) e ∙ ap Halts z.memory
  turn_moved calls now before f p from at s t k (suc l) z e h =
      ap (turn_at calls now (new_func ids f) from at s) e
      ∙ ap (λ b. then_go (run_block (types_of (new_func ids f)) calls from (record { state = s; left = l }) b) (on_exit (now (new_func ids f) (Some at)))) (slice_get-map (new_block ids) f.blocks at)
      ∙ then_exit_moved (run_block (types_of (new_func ids f)) calls from (record { state = s; left = l }) (option_map (new_block ids) (slice_get f.blocks at)))
      (run_block (types_of f) calls from (record { state = t; left = l }) (slice_get f.blocks at)) (now (new_func ids f) (Some at)) (before f (Some at)) h
      (block_moved (types_of (new_func ids f)) (types_of f) calls (types_moved f p) from (slice_get f.blocks at)
      (λ c found. every_at (BlockIn ids) f.blocks at c p.blocks found) (record { state = s; left = l }) (record { state = t; left = l }) (record { state = z; left = refl }))

  runs_moved : (f : Func) → FuncIn ids f → (fuel : ℕ) (from : Option ℕ) (at : ℕ) (r s : Reached) → ReachedMoved r s →
      runs no_calls fuel (new_func ids f) from at r ≡ runs no_calls fuel f from at s
  runs_moved f p zero from at r s z = ap Halts z.state.memory
  runs_moved f p (suc fuel) from at r s z =
      turn_moved (no_calls (runs no_calls fuel)) (runs no_calls fuel) (runs no_calls fuel) f p from at r.state s.state r.left s.left z.state z.left
      (λ to x y k. runs_moved f p fuel (Some at) to x y k)

  func_moved : (globals : ℕ) (f : Func) → FuncIn ids f → (args : List Value) (m : Memory) (n : ℕ) →
      run_func no_calls globals (new_func ids f) args m n ≡ run_func no_calls globals f args m n
  func_moved globals f p args m n =
      ap (λ b. cond b (runs no_calls n (new_func ids f) None 0 (record { state = record { env = start_env (map (new_param ids) f.params) args; memory = m }; left = n })) Lost) (noalias_same globals [] f.params args)
      ∙ ap (λ w. cond (noalias_holds globals [] f.params args) w Lost)
      (runs_moved f p n None 0 (record { state = record { env = start_env (map (new_param ids) f.params) args; memory = m }; left = n }) (record { state = record { env = start_env f.params args; memory = m }; left = n })
      (record { state = record { env = start_moved f.params args p.params; memory = refl }; left = refl }))

  -- ---- modules

  functions_moved : (items : List Item) → functions_of (map (new_item ids) items) ≡ map (new_func ids) (functions_of items)
  functions_moved [] = refl
  functions_moved (Kept text ∷ items) = functions_moved items
  functions_moved (Opaque text ∷ items) = functions_moved items
  functions_moved (FuncItem f ∷ items) = ap (λ fs. new_func ids f ∷ fs) (functions_moved items)

  functions_in : (items : List Item) → Every (ItemIn ids) items → Every (FuncIn ids) (functions_of items)
  functions_in [] h = tt
  functions_in (Kept text ∷ items) h = functions_in items h.1
  functions_in (Opaque text ∷ items) h = functions_in items h.1
  functions_in (FuncItem f ∷ items) h = (h.0, functions_in items h.1)

  found_moved : (globals : ℕ) (o : Option Func) → ((f : Func) → o ≡ Some f → FuncIn ids f) → (args : List Value) (m : Memory) (n : ℕ) →
      run_found globals (option_map (new_func ids) o) args m n ≡ run_found globals o args m n
  found_moved globals None h args m n = refl
  found_moved globals (Some f) h args m n = ap outcome_of (func_moved globals f (h f refl) args m n)

  pub items_run : (globals : ℕ) (items : List Item) → Every (ItemIn ids) items → (func : ℕ) (args : List Value) (m : Memory) (n : ℕ) →
      run_found globals (slice_get (functions_of (map (new_item ids) items)) func) args m n ≡ run_found globals (slice_get (functions_of items) func) args m n
  items_run globals items h func args m n =
      ap (λ fs. run_found globals (slice_get fs func) args m n) (functions_moved items)
      ∙ ap (λ o. run_found globals o args m n) (slice_get-map (new_func ids) (functions_of items) func)
      ∙ found_moved globals (slice_get (functions_of items) func) (λ f e. every_at (FuncIn ids) (functions_of items) func f (functions_in items h) e) args m n

-- ---- headers

new_params : (ids : List Id) (ps : List Param) → AllZip SameParam (map (new_param ids) ps) ps
new_params ids [] = tt
new_params ids (p ∷ ps) = (record { name = refl; ty = refl; attrs = refl; noalias = refl }, new_params ids ps)

old_params : (ids : List Id) (ps : List Param) → AllZip SameParam ps (map (new_param ids) ps)
old_params ids [] = tt
old_params ids (p ∷ ps) = (record { name = refl; ty = refl; attrs = refl; noalias = refl }, old_params ids ps)

new_items : (ids : List Id) (items : List Item) → AllZip SameItem (map (new_item ids) items) items
new_items ids [] = tt
new_items ids (Kept text ∷ items) = (refl, new_items ids items)
new_items ids (Opaque text ∷ items) = (refl, new_items ids items)
new_items ids (FuncItem f ∷ items) = (record { before = refl; ret = refl; name = refl; params = new_params ids f.params; after = refl }, new_items ids items)

old_items : (ids : List Id) (items : List Item) → AllZip SameItem items (map (new_item ids) items)
old_items ids [] = tt
old_items ids (Kept text ∷ items) = (refl, old_items ids items)
old_items ids (Opaque text ∷ items) = (refl, old_items ids items)
old_items ids (FuncItem f ∷ items) = (record { before = refl; ret = refl; name = refl; params = old_params ids f.params; after = refl }, old_items ids items)

-- ---- the module

pub run_moved : (m : Module) → IsFormed m → (func : ℕ) (args : List Value) (memory : Memory) (bound : ℕ) →
    run_of (renumbered m) func args memory bound ≡ run_of m func args memory bound
run_moved m h func args memory bound =
    items_run (ids_of m) (length m.globals) m.items (module_in m h) func args memory bound

pub new_refines : (m : Module) → IsFormed m → ModuleRefines (renumbered m) m
new_refines m h = record {
  items = new_items (ids_of m) m.items;
  runs = λ func f found args memory fits bound.
      subst (λ o. OutcomeRefines o (run_of m func args memory bound)) (sym (run_moved m h func args memory bound)) (outcome_same (run_of m func args memory bound));
}

pub old_refines : (m : Module) → IsFormed m → ModuleRefines m (renumbered m)
old_refines m h = record {
  items = old_items (ids_of m) m.items;
  runs = λ func f found args memory fits bound.
      subst (λ o. OutcomeRefines (run_of m func args memory bound) o) (sym (run_moved m h func args memory bound)) (outcome_same (run_of m func args memory bound));
}
