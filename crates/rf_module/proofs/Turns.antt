-- The groups of a window come in turn: what a member of a group uses that stands in the window stands in a group before.
use Rattle.std.proofs.Common.{◌≡◌, refl, sym, ap, ◌∙◌, subst, ℕ, suc, ◌+◌, ◌<◌, ◌≤◌, ◌⊎◌, inl, inr, Bool, true, false, ◌&&◌, ◌||◌, Option, None, Some, List, [], ◌∷◌, ◌++◌, map, cond, slice_get, arith}
use Rattle.std.specs.Bool.{⊤}
use Rattle.ir_types.specs.declared.id.Id.{Id}
use Rattle.ir_types.specs.declared.inst.Inst.{Inst}
use Rattle.ir_types.specs.declared.module.Module.{Module}
use Rattle.ir_types.specs.Available.{same_id}
use Rattle.ir_types.specs.Formed.{is_alloca}
use Rattle.ir_types.proofs.Formed.{Every}
use Rattle.ir_types.proofs.Among.{same_is, same_itself}
use Rattle.vx_order.specs.Groups.{has}
use Rattle.vx_order.proofs.Placing.{head_or_more, at_head, in_more}
use Rattle.vx_view.specs.Conflicts.{conflict_in}
use Rattle.vx_serial.specs.Window.{with_inst, insts_at, order_in}
use Rattle.vx_serial.specs.Bundles.{AreOnce, ids_of, AreBundles}
use Rattle.vx_serial.proofs.Decided.{or_case}
use Rattle.rf_order.proofs.Schedules.{InTurn}
use Rattle.rf_order.proofs.Windows.{depends_if, depends_at, orders_in_turn}
use Rattle.rf_rewrite.proofs.Contexts.{one_of, times, times_append}
use Rattle.rf_rewrite.proofs.Gone.{uses_id}

abbrev pub Turns : List Inst → List Inst → List (List Inst) → Type 0
Turns window placed [] = ⊤
Turns window placed (g ∷ gs) = Every (λ (i : Inst). (v : Id) → uses_id v i ≡ true → 1 ≤ times v window → 1 ≤ times v placed) g × Turns window (placed ++ g) gs

some_is : {A : Type 0} {p q : A} → Some p ≡ Some q → p ≡ q
some_is e = cc

-- an id that stands in a list stands at a place
place_at : (v : Id) (l : List Inst) → 1 ≤ times v l → (x : ℕ) × (j : Inst) × (slice_get l x ≡ Some j) × (j.id ≡ v)
place_at v [] some = absurd (omega (arith, some))
place_at v (i ∷ l) some = by_test (same_id i.id v) refl some (place_at v l)
  where
    by_test : (b : Bool) → same_id i.id v ≡ b → 1 ≤ cond b 1 0 + times v l → (1 ≤ times v l → (x : ℕ) × (j : Inst) × (slice_get l x ≡ Some j) × (j.id ≡ v)) → (x : ℕ) × (j : Inst) × (slice_get (i ∷ l) x ≡ Some j) × (j.id ≡ v)
    by_test true t s more = (0, i, refl, same_is i.id v t)
    by_test false t s more = let h = more (omega (arith, s)) in (suc h.0, h.1, h.2, h.3)

own_times : (i : Inst) (l : List Inst) → 1 ≤ times i.id (i ∷ l)
own_times i l = let one : one_of i.id i.id ≡ 1 = ap (λ b. cond b 1 0) (same_itself i.id) in omega (arith, one)

module _ (m : Module) (block insts : List Inst)
    (before : (y x : ℕ) (i j : Inst) → slice_get insts y ≡ Some i → slice_get insts x ≡ Some j → uses_id j.id i ≡ true → x < y) where
  -- an instruction of places stands there
  at_place : (g : List ℕ) (x : ℕ) (i : Inst) → has g x ≡ true → slice_get insts x ≡ Some i → 1 ≤ times i.id (insts_at insts g)
  at_place [] x i h e = absurd cc
  at_place (p ∷ g) x i h e = by_first (head_or_more p x g h) (at_place g x i)
    where
      later : (o : Option Inst) → 1 ≤ times i.id (insts_at insts g) → 1 ≤ times i.id (with_inst o (insts_at insts g))
      later None some = some
      later (Some j) some = omega (arith, some)

      by_first : (p ≡ x) ⊎ (has g x ≡ true) → (has g x ≡ true → slice_get insts x ≡ Some i → 1 ≤ times i.id (insts_at insts g)) → 1 ≤ times i.id (with_inst (slice_get insts p) (insts_at insts g))
      by_first (inl s) more = subst (λ o. 1 ≤ times i.id (with_inst o (insts_at insts g))) (sym (ap (slice_get insts) s ∙ e)) (own_times i (insts_at insts g))
      by_first (inr k) more = later (slice_get insts p) (more k e)

  -- all that members use is placed
  all_placed : (g h : List ℕ) (placed : List Inst) → ((y : ℕ) → has h y ≡ true → has g y ≡ true) →
      ((y : ℕ) → has g y ≡ true → (x : ℕ) → x < y → depends_at m block insts y x ≡ true → (j : Inst) → slice_get insts x ≡ Some j → 1 ≤ times j.id placed) →
      Every (λ (i : Inst). (v : Id) → uses_id v i ≡ true → 1 ≤ times v insts → 1 ≤ times v placed) (insts_at insts h)
  all_placed g [] placed sub ready = tt
  all_placed g (p ∷ h) placed sub ready = by_inst (slice_get insts p) refl (all_placed g h placed (λ y k. sub y (in_more p y h k)) ready)
    where
      by_inst : (o : Option Inst) → slice_get insts p ≡ o → Every (λ (i : Inst). (v : Id) → uses_id v i ≡ true → 1 ≤ times v insts → 1 ≤ times v placed) (insts_at insts h) →
          Every (λ (i : Inst). (v : Id) → uses_id v i ≡ true → 1 ≤ times v insts → 1 ≤ times v placed) (with_inst o (insts_at insts h))
      by_inst None e rest = rest
      by_inst (Some i) e rest = (one, rest)
        where
          one : (v : Id) → uses_id v i ≡ true → 1 ≤ times v insts → 1 ≤ times v placed
          one v u some =
              let at = place_at v insts some in
              let does : uses_id at.1.id i ≡ true = ap (λ w. uses_id w i) at.3 ∙ u in
              let less = before p at.0 i at.1 e at.2 does in
              subst (λ w. 1 ≤ times w placed) at.3
              (ready p (sub p (at_head p p h refl)) at.0 less
              (ap (λ o. depends_if m block o (slice_get insts at.0)) e ∙ ap (depends_if m block (Some i)) at.2
              ∙ ap (λ b. b || conflict_in m block at.1 i || is_alloca at.1.op && is_alloca i.op) does)
              at.1 at.2)

  in_turn : (gs : List (List ℕ)) (done : ℕ → Bool) (placed : List Inst) → ((x : ℕ) (i : Inst) → done x ≡ true → slice_get insts x ≡ Some i → 1 ≤ times i.id placed) →
      InTurn (depends_at m block insts) done gs → Turns insts placed (map (insts_at insts) gs)
  in_turn [] done placed are t = tt
  in_turn (g ∷ gs) done placed are t = (
    all_placed g g placed (λ y k. k) (λ y k x less d j e. are x j (t.0 y k x less d) e),
    in_turn gs (λ x. has g x || done x) (placed ++ insts_at insts g) then t.1,
  )
    where
      then : (x : ℕ) (i : Inst) → (has g x || done x) ≡ true → slice_get insts x ≡ Some i → 1 ≤ times i.id (placed ++ insts_at insts g)
      then x i h e = by_case (or_case (has g x) (done x) h)
        where
          sum : times i.id (placed ++ insts_at insts g) ≡ times i.id placed + times i.id (insts_at insts g)
          sum = times_append i.id placed (insts_at insts g)

          by_case : (has g x ≡ true) ⊎ (done x ≡ true) → 1 ≤ times i.id (placed ++ insts_at insts g)
          by_case (inl k) = let some = at_place g x i k e in omega (arith, some, sum)
          by_case (inr k) = let some = are x i k e in omega (arith, some, sum)

  pub groups_turn : (bundles : List (List Id)) → AreOnce (ids_of insts) → AreBundles insts bundles → (groups : List (List Inst)) → order_in m block insts bundles ≡ Some groups → Turns insts [] groups
  groups_turn bundles once are groups e =
      let t = orders_in_turn m block insts bundles once are groups e in
      subst (Turns insts []) (sym t.are) (in_turn t.places (λ x. false) [] (λ x i h at. absurd cc) t.turn)
