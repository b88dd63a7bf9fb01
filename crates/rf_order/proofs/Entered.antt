-- Phis bring values of their types' shapes, and leave the roots of the kinds that are known.
use Rattle.std.proofs.Common.{◌≡◌, refl, sym, ap, ◌∙◌, subst, ℕ, zero, suc, ◌+◌, ◌-◌, ◌<◌, ◌⊎◌, inl, inr, Bool, true, false, cond, Option, None, Some, List, [], ◌∷◌, ◌++◌, length, length-append, map, slice_get, option_map, arith}
use Rattle.std.specs.List.{Contains}
use Rattle.std.proofs.lemmas.Option.{slice_get-map}
use Rattle.std.proofs.lemmas.List.Elements.{All-contains}
use Rattle.ir_types.specs.declared.id.Id.{Id}
use Rattle.ir_types.specs.declared.ty.Ty.{Ty}
use Rattle.ir_types.specs.declared.opd.Opd.{Opd}
use Rattle.ir_types.specs.declared.opd.Opd.TheVariants.{Val, Lit, Sym}
use Rattle.ir_types.specs.declared.op.Op.{Op}
use Rattle.ir_types.specs.declared.op.Op.TheVariants.{Phi}
use Rattle.ir_types.specs.declared.inst.Inst.{Inst}
use Rattle.ir_types.specs.declared.func.Block.{Block}
use Rattle.ir_types.specs.declared.func.Func.{Func}
use Rattle.ir_types.specs.declared.module.Module.{Module}
use Rattle.ir_types.specs.Typed.{IsTyped}
use Rattle.ir_types.specs.Walks.{targets_at}
use Rattle.ir_types.specs.Available.{targets_of, graph_of, insts_at, stands_on, walk_end, before_use, IsAvailableAt}
use Rattle.ir_types.specs.Formed.{given_ty, opd_ty, IsOpd, is_alloca, IsTarget, IsIncoming, IsFormedInst}
use Rattle.ir_types.proofs.Formed.{Every, every_at, every_of_all, IsValued}
use Rattle.ir_types.proofs.Among.{same_is}
use Rattle.ir_model.specs.declared.value.Value.{Value}
use Rattle.ir_model.specs.Values.{Env, same_id, with_value, pointer_of, value_of, type_of}
use Rattle.ir_model.specs.Step.{State, On, then_go, Reached}
use Rattle.ir_model.specs.Run.{is_phi, arm_of, with_phi, reached_if, types_of}
use Rattle.ir_model.specs.Shapes.{HasShape}
use Rattle.ir_model.proofs.Walked.{stands_next, insts_found, targets_found, counted_at, contained_at, at_contained, Arm, arm_found}
use Rattle.ir_model.proofs.Shaped.{OpdShape, opd_shape, next_shaped}
use Rattle.ir_model.proofs.Sound.{params_formed}
use Rattle.ir_model.specs.Shapes.{ResultHasShape}
use Rattle.ir_model.proofs.Shaped.{result_shape}
use Rattle.vx_view.specs.Answers.{found}
use Rattle.vx_view.specs.Conflicts.{Allocated, Unknown, value_kind, kind_of}
use Rattle.rf_order.specs.Ready.{has_kind, NamesOne, is_known}
use Rattle.rf_order.specs.Blocks.{ArePhis, IsEntered, IsCut, CameFrom, run_phis, PhisAreEntered}
use Rattle.rf_order.proofs.Shapes.{never_kinds}
use Rattle.rf_order.proofs.Blocks.{get_middle, of_items, item, once_all, once, func, available}
use Rattle.vx_serial.proofs.Decided.{true_false}

phi_no_alloca : (op : Op) → is_phi op ≡ true → is_alloca op ≡ false
phi_no_alloca (Phi blocks) h = refl
phi_no_alloca op h = absurd (true_false (sym h))

phi_gives : (op : Op) (t : Ty) → is_phi op ≡ true → given_ty op t ≡ t
phi_gives (Phi blocks) t h = refl
phi_gives op t h = absurd (true_false (sym h))

module _ (m : Module) (f : Func) (walk : List ℕ) (at : ℕ) (b : Block) (phis before insts : List Inst) (last : Inst) (after : List Inst) (cut : IsCut m f walk at b phis before insts last after) where
  abbrev Types : Id → Ty
  Types = types_of f

  get_or_none : (xs : List (List ℕ)) (k : ℕ) → slice_get xs k ≡ None → targets_at xs k ≡ []
  get_or_none [] k e = refl
  get_or_none (x ∷ xs) zero e = absurd cc
  get_or_none (x ∷ xs) (suc k) e = get_or_none xs k e

  -- targets are blocks, and not the first
  target : (from x : ℕ) → Contains (targets_at (graph_of f) from) x → IsTarget f x
  target from x h = by_block (slice_get f.blocks from) refl
    where
      by_last : (c : Block) → slice_get f.blocks from ≡ Some c → (o : Option Inst) → slice_get c.insts (length c.insts - 1) ≡ o → Contains (targets_of o) x → IsTarget f x
      by_last c found None e k = nothing k where
        nothing : Contains [] x → IsTarget f x
        nothing k = absurd (let less = k.1 in omega arith)
      by_last c found (Some i) e k = All-contains (IsTarget f) (Rattle.ir_types.specs.Available.op_targets i.op) x (((func m f walk at b phis before insts last after cut).blocks from c found).insts (length c.insts - 1) i e).targets k

      by_block : (o : Option Block) → slice_get f.blocks from ≡ o → IsTarget f x
      by_block None found = absurd (let less = within h in omega arith)
        where
          no_targets : targets_at (graph_of f) from ≡ []
          no_targets = get_or_none (graph_of f) from (slice_get-map Rattle.ir_types.specs.Available.block_targets f.blocks from ∙ ap (option_map Rattle.ir_types.specs.Available.block_targets) found)

          within : Contains (targets_at (graph_of f) from) x → 0 < 0
          within k = let d : Contains [] x = subst (λ ts. Contains ts x) no_targets k in let less = d.1 in omega arith
      by_block (Some c) found = by_last c found (slice_get c.insts (length c.insts - 1)) refl (subst (λ ts. Contains ts x) (targets_found f from c found) h)

  -- what a phi brings
  record Brought (from : Option ℕ) (edge : State) (op : Op) (t : Ty) (opds : List Opd) : Type 0 where
    arm : Opd
    is : arm_of from op opds ≡ Some arm
    shape : HasShape (length edge.memory) t (value_of edge.env arm)

  -- at the start no block is entered from another, and so it has no phi
  no_phi_at_start : (blocks : List ℕ) (opds : List Opd) → at ≡ 0 → 0 < length blocks → IsIncoming f at (Phi blocks) opds → ⊥
  no_phi_at_start [] opds start some h = absurd (omega arith)
  no_phi_at_start (c ∷ blocks) opds start some h =
      let k = counted_at at c (targets_at (graph_of f) c) (c ∷ blocks) (sym (h.0 c)) 0 refl in
      let t = target c at (at_contained (targets_at (graph_of f) c) k.0 at k.1) in
      let less = t.0 in omega arith

  brought : (from : Option ℕ) (edge : State) → CameFrom m f walk at from edge → (k : ℕ) (op : Op) (t : Ty) (opds : List Opd) → is_phi op ≡ true →
      IsTyped f.ret op t (map (opd_ty m f) opds) → IsIncoming f at op opds → Every IsOpd opds →
      ((slot : ℕ) (x : Id) (end : ℕ) → slice_get opds slot ≡ Some (Val x) → walk_end op slot at ≡ Some end → IsAvailableAt f x (before_use op (insts_at f end) k) end) →
      Brought from edge op t opds
  brought None edge came k (Phi blocks) t opds phi h incoming lits stands = elim (no_phi_at_start blocks opds came (let some = h.2 in let long = h.1 in omega arith) incoming) [ ]
  brought (Some from) edge came k (Phi blocks) t opds phi h incoming lits stands = record {
    arm = arm.opd;
    is = arm.found;
    shape = subst (λ u. HasShape (length edge.memory) u (value_of edge.env arm.opd)) same one.shape;
  }
    where
      place : (j : ℕ) × (slice_get blocks j ≡ Some from)
      place =
          let c = contained_at (targets_at (graph_of f) from) at came.3.0 in
          counted_at from at blocks (targets_at (graph_of f) from) (incoming.0 from) c.0 c.1

      arm : Arm from blocks opds
      arm = arm_found from blocks opds place.0 place.1 (h.1 ∙ long opds) where
        long : (os : List Opd) → length (map (opd_ty m f) os) ≡ length os
        long [] = refl
        long (o ∷ os) = ap suc (long os)

      type : opd_ty m f arm.opd ≡ Some t
      type = every_at (λ u. u ≡ Some t) (map (opd_ty m f) opds) arm.slot (opd_ty m f arm.opd) (every_of_all (λ u. u ≡ Some t) (map (opd_ty m f) opds) h.3)
          (slice_get-map (opd_ty m f) opds arm.slot ∙ ap (option_map (opd_ty m f)) arm.here)

      one : OpdShape m f edge arm.opd
      one = opd_shape m f came.0 (length (insts_at f from)) edge came.4 arm.opd (every_at IsOpd opds arm.slot arm.opd lits arm.here)
          (λ x e. stands arm.slot x from (arm.here ∙ ap Some e) arm.block came.0 came.1 came.2) (subst IsValued (sym type) h.0)

      same : type_of Types arm.opd ≡ t
      same = some (sym one.type ∙ type) where
        some : Some (type_of Types arm.opd) ≡ Some t → type_of Types arm.opd ≡ t
        some e = cc
  brought from edge came k op t opds phi h incoming lits stands = absurd (true_false (sym phi))

  -- ---- one phi

  module _ (k : ℕ) (i : Inst) (here : slice_get b.insts k ≡ Some i) (phi : is_phi i.op ≡ true) where
    phi_kind : kind_of m (Val i.id) ≡ Unknown
    phi_kind =
        let it = item m f walk at b phis before insts last after cut in
        let s = of_items m.items it.0 f at b k i 0 it.1 cut.there here (once_all m f walk at b phis before insts last after cut) in
        ap (λ p. value_kind p (found m i.id)) s.0 ∙ ap (value_kind None) s.1.1 ∙ ap (λ (i : Inst). cond (is_alloca i.op) Allocated Unknown) s.1.2 ∙ ap (λ c. cond c Allocated Unknown) (phi_no_alloca i.op phi)

    next_stands : (x : Id) → stands_on f x (k + 1) walk ≡ true → (stands_on f x k walk ≡ true) ⊎ (same_id i.id x ≡ true)
    next_stands x h = stands_next f x walk at k i cut.ends (ap (λ is. slice_get is k) (insts_found f at b cut.there) ∙ here) h

    -- a root of a known kind is not what the phi gives
    root_before : (a : Opd) → is_known (length m.globals) (λ x. stands_on f x (k + 1) walk) a ≡ true → has_kind (kind_of m a) ≡ true → is_known (length m.globals) (λ x. stands_on f x k walk) a ≡ true
    root_before (Val x) h kind = by_case (next_stands x h) where
      by_case : (stands_on f x k walk ≡ true) ⊎ (same_id i.id x ≡ true) → stands_on f x k walk ≡ true
      by_case (inl s) = s
      by_case (inr same) = absurd (true_false (sym kind ∙ ap has_kind (ap (λ x. kind_of m (Val x)) (sym (same_is i.id x same)) ∙ phi_kind)))
    root_before (Lit l) h kind = refl
    root_before (Sym g) h kind = h

    root_value : (env : Env) (v : Value) (a : Opd) → has_kind (kind_of m a) ≡ true → value_of (with_value env i.id v) a ≡ value_of env a
    root_value env v (Val x) kind = ap (λ t. cond t v (env x)) (apart (same_id x i.id) refl) where
      apart : (t : Bool) → same_id x i.id ≡ t → t ≡ false
      apart false e = refl
      apart true e = absurd (true_false (sym kind ∙ ap has_kind (ap (λ x. kind_of m (Val x)) (same_is x i.id e) ∙ phi_kind)))
    root_value env v (Lit l) kind = refl
    root_value env v (Sym g) kind = refl

    one_phi : (s : State) (v : Value) → IsEntered m f walk k s → HasShape (length s.memory) i.ty v → IsEntered m f walk (k + 1) (record { env = with_value s.env i.id v; memory = s.memory })
    one_phi s v en shape = record {
      shaped =
          next_shaped m f (params_formed m cut.formed) (available m f walk at b phis before insts last after cut) (once m f walk at b phis before insts last after cut) at b cut.there walk cut.ends k i here s en.shaped (Some v) s.memory
          (subst (λ u. ResultHasShape (length s.memory) u (Some v)) (sym (phi_gives i.op i.ty phi)) (result_shape (length s.memory) i.ty v shape)) (omega arith);
      within = λ a h kind. subst (λ w. NamesOne (length s.memory) (pointer_of w)) (sym (root_value s.env v a kind)) (en.within a (root_before a h kind) kind);
      roots = λ a c ha hc differ never.
          (let kinds = never_kinds (kind_of m a) (kind_of m c) never in
          λ o z y ea ec. en.roots a c (root_before a ha kinds.0) (root_before c hc kinds.1) differ never o z y
          (ap pointer_of (sym (root_value s.env v a kinds.0)) ∙ ea) (ap pointer_of (sym (root_value s.env v c kinds.1)) ∙ ec));
    }

  -- ---- all phis

  append_more : (xs : List Inst) (y : Inst) (ys : List Inst) → (xs ++ y ∷ []) ++ ys ≡ xs ++ y ∷ ys
  append_more [] y ys = refl
  append_more (x ∷ xs) y ys = ap (λ r. x ∷ r) (append_more xs y ys)

  all_phis : (from : Option ℕ) (edge : State) → CameFrom m f walk at from edge → (ps front : List Inst) (r q : Reached) → ArePhis ps → b.insts ≡ front ++ (ps ++ ((before ++ insts) ++ last ∷ after)) →
      r.state.memory ≡ edge.memory → IsEntered m f walk (length front) r.state → run_phis from edge.env ps r ≡ On q → IsEntered m f walk (length front + length ps) q.state
  all_phis from edge came [] front r q are parts memory en e =
      let same : r ≡ q = cc in
      subst (λ n. IsEntered m f walk n q.state) (plain (length front)) (subst (λ (p : Reached). IsEntered m f walk (length front) p.state) same en)
    where
      plain : (n : ℕ) → n ≡ n + 0
      plain n = omega arith
  all_phis from edge came (i ∷ ps) front r q are parts memory en e =
      subst (λ n. IsEntered m f walk n q.state) (count (length (front ++ i ∷ [])) (length front) (length ps) (length-append front (i ∷ [])))
      (all_phis from edge came ps (front ++ i ∷ []) next q are.1 (parts ∙ sym (append_more front i (ps ++ ((before ++ insts) ++ last ∷ after)))) memory
      (subst (λ n. IsEntered m f walk n next.state) (sym (length-append front (i ∷ [])))
      (one_phi (length front) i here are.0 r.state (value_of edge.env come.arm) en
      (subst (λ (n : List Rattle.ir_model.specs.Memory.Object). HasShape (length n) i.ty (value_of edge.env come.arm)) (sym memory) come.shape)))
      (ap (λ a. then_go (reached_if r.left (with_phi edge.env i.id r.state a)) (run_phis from edge.env ps)) (sym come.is) ∙ e))
    where
      count : (a n p : ℕ) → a ≡ n + 1 → a + p ≡ n + suc p
      count a n p e = omega arith

      here : slice_get b.insts (length front) ≡ Some i
      here = ap (λ is. slice_get is (length front)) parts ∙ get_middle front (ps ++ ((before ++ insts) ++ last ∷ after)) i

      h : IsFormedInst m f at (length front) i
      h = ((func m f walk at b phis before insts last after cut).blocks at b cut.there).insts (length front) i here

      come : Brought from edge i.op i.ty i.opds
      come = brought from edge came (length front) i.op i.ty i.opds are.0 h.typed h.incoming (every_of_all IsOpd i.opds h.operands)
          (λ slot x end there w. available m f walk at b phis before insts last after cut at b cut.there (length front) i here slot (Val x) there end w)

      next : Reached
      next = record { state = record { env = with_value r.state.env i.id (value_of edge.env come.arm); memory = r.state.memory }; left = r.left }

pub phis_entered : PhisAreEntered
phis_entered m f walk at b phis before insts last after cut from r q came en e =
    subst (λ n. IsEntered m f walk n q.state) (plain (length phis))
    (all_phis m f walk at b phis before insts last after cut from r.state came phis [] r q cut.phis_first cut.parts refl en e)
  where
    plain : (n : ℕ) → 0 + n ≡ n
    plain n = omega arith
