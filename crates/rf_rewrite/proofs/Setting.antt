-- What goes of a block whose window was written anew: all that the removals ask holds, and the block that they leave is the rewritten one.
use Rattle.std.proofs.Common.{◌≡◌, refl, sym, ap, ◌∙◌, subst, ℕ, zero, suc, ◌+◌, ◌≤◌, ◌⊎◌, inl, inr, Bool, true, false, not, ◌&&◌, ◌||◌, Some, List, [], ◌∷◌, ◌++◌, cond, nat_eq, arith, append_assoc}
use Rattle.std.specs.List.{list_any}
use Rattle.std.proofs.lemmas.Bool.Decides.{nat_tests}
use Rattle.ir_types.specs.declared.id.Id.{Id}
use Rattle.ir_types.specs.declared.inst.Inst.{Inst}
use Rattle.ir_types.specs.Available.{same_id}
use Rattle.ir_types.specs.Formed.{is_phi}
use Rattle.ir_types.proofs.Formed.{Every}
use Rattle.ir_types.proofs.Among.{same_is, same_itself}
use Rattle.vx_view.specs.Answers.{funcs_of, find, uses_of, uses_in, is_value}
use Rattle.vx_serial.specs.Bundles.{AreOnce, ids_of}
use Rattle.vx_serial.specs.Rewriting.{created, is_created, is_id_in, without, uses_value}
use Rattle.vx_serial.specs.Changing.{not_among}
use Rattle.rf_rewrite.proofs.Contexts.{Context, plug, one_of, times, times_append, around}
use Rattle.rf_rewrite.proofs.Parts.{NoneAround, none_around}
use Rattle.rf_rewrite.proofs.Window.{find_append, find_front, find_times}
use Rattle.rf_rewrite.proofs.Gone.{uses_id, Loose, LooseUse, Removable, AllRemovable, Going, without_none}
use Rattle.rf_rewrite.proofs.Making.{IsExtract, IsKept, Kind}
use Rattle.rf_rewrite.proofs.Trees.{once_both}
use Rattle.rf_rewrite.specs.Removing.{among}
use Rattle.rf_rewrite.proofs.Removing.{among_append, among_none, among_without, Shut, Closing}
use Rattle.rf_rewrite.proofs.Scan.{users}
use Rattle.rf_rewrite.proofs.Left.{without_append, gone_times, kept_times, fewer_times, without_agree, without_all, without_stays, moved, moved_stands, stands_moved, in_not_among, not_among_once, in_both, ids_times, times_ids_in, user_in}
use Rattle.vx_serial.proofs.Decided.{true_false, and_left, and_right}
use Rattle.rf_rewrite.proofs.Facts.{append_none}

-- an instruction of the block that may be removed
pub record MayGo (block : List Inst) (y : Id) : Type 0 where
  pub inst : Inst
  pub stands : find y block ≡ Some inst
  pub may : Removable inst

pub record Setting (globals region : ℕ) (base : Id → ℕ) (c : Context) (front window : List Inst) (x : Inst) (zs : List Inst) (lanes gone : List Id) (new ws : List Inst) : Type 0 where
  pub few : (y : Id) → around c y + times y (front ++ (window ++ x ∷ zs)) ≤ 1
  pub lane : (y : Id) → is_id_in lanes y ≡ true → (1 ≤ times y window) × MayGo (front ++ (window ++ x ∷ zs)) y
  pub goes : (y : Id) → is_id_in gone y ≡ true →
      MayGo (front ++ (window ++ x ∷ zs)) y × (is_id_in lanes y ≡ false) × (users lanes gone (uses_of y (funcs_of (plug c (front ++ (window ++ x ∷ zs))).items)) ≡ true) × (uses_value y new ≡ false)
  pub lanes_once : AreOnce lanes
  pub gone_once : AreOnce gone
  pub kinds : Every (Kind globals region lanes window base) ws
  pub unwritten : (y : Id) → is_id_in gone y ≡ true → times y ws ≡ 0
  pub unwanted : (y : Id) → is_id_in lanes y ≡ true → times y ws ≡ 0 →
      (users lanes gone (uses_of y (funcs_of (plug c (front ++ (window ++ x ∷ zs))).items)) ≡ true) × (uses_value y new ≡ false)
  pub unused : (y : Id) → uses_value y new ≡ false → Every (λ (i : Inst). is_created region i ≡ true → uses_id y i ≡ false) ws
  pub covers : (y : Id) → 1 ≤ times y window → is_id_in lanes y ≡ false → is_id_in gone y ≡ false → 1 ≤ times y ws
  pub old : (y : Id) → 1 ≤ times y window → nat_eq y.region (suc region) ≡ false
  pub old_gone : (y : Id) → is_id_in gone y ≡ true → nat_eq y.region (suc region) ≡ false

-- what an instruction uses stands before it
abbrev pub Earlier : Context → List Inst → Type 0
Earlier c block = (as_front rest : List Inst) (i : Inst) (v : Id) → block ≡ as_front ++ i ∷ rest → is_phi i.op ≡ false → uses_id v i ≡ true → around c v ≡ 0 → times v (i ∷ rest) ≡ 0

module _ (globals region : ℕ) (base : Id → ℕ) (c : Context) (front window : List Inst) (x : Inst) (zs : List Inst) (lanes gone : List Id) (new ws : List Inst)
    (s : Setting globals region base c front window x zs lanes gone new ws) where
  abbrev pub block : List Inst
  block = front ++ (window ++ x ∷ zs)

  -- what is removed
  abbrev pub ds : List Id
  ds = not_among (ids_of ws) lanes ++ gone

  not_true : (b : Bool) → not b ≡ true → b ≡ false
  not_true true e = absurd cc
  not_true false e = refl

  none_written : (y : Id) → is_id_in (ids_of ws) y ≡ false → times y ws ≡ 0
  none_written y e = by_number (times y ws) refl
    where
      by_number : (n : ℕ) → times y ws ≡ n → times y ws ≡ 0
      by_number zero z = z
      by_number (suc n) z = absurd (true_false (sym (times_ids_in y ws (omega (arith, z))) ∙ e))

  not_written : (y : Id) → times y ws ≡ 0 → is_id_in (ids_of ws) y ≡ false
  not_written y z = by_test (is_id_in (ids_of ws) y) refl
    where
      by_test : (b : Bool) → is_id_in (ids_of ws) y ≡ b → b ≡ false
      by_test true e = let some = ids_times y ws e in absurd (omega (arith, some, z))
      by_test false e = refl

  removed_case : (y : Id) → is_id_in ds y ≡ true → ((is_id_in lanes y ≡ true) × (times y ws ≡ 0)) ⊎ (is_id_in gone y ≡ true)
  removed_case y h = by_test (is_id_in (not_among (ids_of ws) lanes) y) refl (sym (in_both (not_among (ids_of ws) lanes) gone y) ∙ h)
    where
      by_test : (b : Bool) → is_id_in (not_among (ids_of ws) lanes) y ≡ b → (b || is_id_in gone y) ≡ true → ((is_id_in lanes y ≡ true) × (times y ws ≡ 0)) ⊎ (is_id_in gone y ≡ true)
      by_test true e r =
          let both : (is_id_in lanes y && not (is_id_in (ids_of ws) y)) ≡ true = sym (in_not_among (ids_of ws) lanes y) ∙ e in
          inl (and_left (is_id_in lanes y) (not (is_id_in (ids_of ws) y)) both, none_written y (not_true (is_id_in (ids_of ws) y) (and_right (is_id_in lanes y) (not (is_id_in (ids_of ws) y)) both)))
      by_test false e r = inr r

  removed_lane : (y : Id) → is_id_in lanes y ≡ true → times y ws ≡ 0 → is_id_in ds y ≡ true
  removed_lane y h z =
      in_both (not_among (ids_of ws) lanes) gone y
      ∙ ap (λ b. b || is_id_in gone y) (in_not_among (ids_of ws) lanes y ∙ ap (λ b. b && not (is_id_in (ids_of ws) y)) h ∙ ap (λ b. not b) (not_written y z))

  removed_gone : (y : Id) → is_id_in gone y ≡ true → is_id_in ds y ≡ true
  removed_gone y h = in_both (not_among (ids_of ws) lanes) gone y ∙ ap (λ b. is_id_in (not_among (ids_of ws) lanes) y || b) h ∙ or_true (is_id_in (not_among (ids_of ws) lanes) y)
    where
      or_true : (b : Bool) → (b || true) ≡ true
      or_true true = refl
      or_true false = refl

  -- what holds of each that is removed
  pub record Removed (y : Id) : Type 0 where
    pub may : MayGo block y
    pub used : users lanes gone (uses_of y (funcs_of (plug c block).items)) ≡ true
    pub created : uses_value y new ≡ false
    pub unwritten : times y ws ≡ 0
    pub old : nat_eq y.region (suc region) ≡ false

  removed : (y : Id) → is_id_in ds y ≡ true → Removed y
  removed y h = by_case (removed_case y h)
    where
      by_case : ((is_id_in lanes y ≡ true) × (times y ws ≡ 0)) ⊎ (is_id_in gone y ≡ true) → Removed y
      by_case (inl e) = let u = s.unwanted y e.0 e.1 in record { may = (s.lane y e.0).1; used = u.0; created = u.1; unwritten = e.1; old = s.old y (s.lane y e.0).0 }
      by_case (inr e) = let g = s.goes y e in record { may = g.0; used = g.2; created = g.3; unwritten = s.unwritten y e; old = s.old_gone y e }

  stands_once : (y : Id) → is_id_in ds y ≡ true → times y block ≡ 1
  stands_once y h = let r = removed y h in let some = find_times y block r.may.inst r.may.stands in let le = s.few y in omega (arith, some, le)

  stands_here : (y : Id) → is_id_in ds y ≡ true → around c y ≡ 0
  stands_here y h = let one = stands_once y h in let le = s.few y in omega (arith, one, le)

  -- no user around the block is a lane or goes
  none_either : (z : Id) → 1 ≤ around c z → (is_id_in lanes z || is_id_in gone z) ≡ false
  none_either z some = both (is_id_in lanes z) refl (is_id_in gone z) refl
    where
      absent : MayGo block z → ⊥
      absent g = let here = find_times z block g.inst g.stands in let le = s.few z in omega (arith, here, le, some)

      both : (a : Bool) → is_id_in lanes z ≡ a → (b : Bool) → is_id_in gone z ≡ b → (a || b) ≡ false
      both true e b f = absurd (absent (s.lane z e).1)
      both false e true f = absurd (absent (s.goes z f).0)
      both false e false f = refl

  uses_here : (y : Id) → is_id_in ds y ≡ true → NoneAround c y × (users lanes gone (uses_in y block) ≡ true)
  uses_here y h = none_around (λ z. is_id_in lanes z || is_id_in gone z) y c block none_either (removed y h).used

  user_either : (y : Id) → is_id_in ds y ≡ true → (pre post : List Inst) (i : Inst) → block ≡ pre ++ i ∷ post → uses_id y i ≡ true → (is_id_in lanes i.id || is_id_in gone i.id) ≡ true
  user_either y h pre post i e u =
      user_in (λ z. is_id_in lanes z || is_id_in gone z) y pre post i (subst (λ l. users lanes gone (uses_in y l) ≡ true) e (uses_here y h).1) u

  -- an instruction of the block is the one that is found there
  finds_at : (pre post : List Inst) (i : Inst) → block ≡ pre ++ i ∷ post → find i.id block ≡ Some i
  finds_at pre post i e =
      let le = s.few i.id in
      let whole = ap (times i.id) e in
      let sum = times_append i.id pre (i ∷ post) in
      let one : one_of i.id i.id ≡ 1 = ap (λ b. cond b 1 0) (same_itself i.id) in
      ap (find i.id) e ∙ find_append i.id pre (i ∷ post) (omega (arith, le, whole, sum, one)) ∙ ap (λ b. cond b (Some i) (find i.id post)) (same_itself i.id)

  some_is : {p q : Inst} → Some p ≡ Some q → p ≡ q
  some_is e = cc

  may_at : (pre post : List Inst) (i : Inst) → block ≡ pre ++ i ∷ post → MayGo block i.id → Removable i
  may_at pre post i e g = subst Removable (some_is (sym g.stands ∙ finds_at pre post i e)) g.may

  either_may : (z : Id) → (is_id_in lanes z || is_id_in gone z) ≡ true → MayGo block z
  either_may z e = by_test (is_id_in lanes z) refl e
    where
      by_test : (b : Bool) → is_id_in lanes z ≡ b → (b || is_id_in gone z) ≡ true → MayGo block z
      by_test true l r = (s.lane z l).1
      by_test false l r = (s.goes z r).0

  -- ---- loose, part by part

  loose_part : Earlier c block → (taken : List Id) (pre xs post tail : List Inst) → block ≡ pre ++ (xs ++ post) →
      ((z : Id) → 1 ≤ times z xs → is_id_in taken z ≡ false → (is_id_in lanes z || is_id_in gone z) ≡ true → is_id_in ds z ≡ true) →
      ((y : Id) → is_id_in ds y ≡ true → times y post ≡ 0 → times y tail ≡ 0) → Loose ds tail → Loose ds (without taken xs ++ tail)
  loose_part earlier taken pre [] post tail e stays ends loose = loose
  loose_part earlier taken pre (i ∷ xs) post tail e stays ends loose =
      by_test (is_id_in taken i.id) refl
      (loose_part earlier taken (pre ++ i ∷ []) xs post tail (e ∙ sym (append_assoc pre (i ∷ []) (xs ++ post))) (λ z some t q. stays z (omega (arith, some)) t q) ends loose)
    where
      loose_use : is_id_in taken i.id ≡ false → LooseUse ds i (without taken xs ++ tail)
      loose_use t y h u =
          let q = user_either y h pre (xs ++ post) i e u in
          let own : one_of i.id i.id ≡ 1 = ap (λ b. cond b 1 0) (same_itself i.id) in
          let may = may_at pre (xs ++ post) i e (either_may i.id q) in
          let none = earlier pre (xs ++ post) i y e may.0 u (stands_here y h) in
          let sum = times_append y xs post in
          let few = fewer_times taken y xs in
          let last = ends y h (omega (arith, none, sum)) in
          let all = times_append y (without taken xs) tail in (
            stays i.id (omega (arith, own)) t q,
            apart (same_id i.id y) none,
            omega (arith, none, sum, few, last, all),
          )
        where
          apart : (b : Bool) → cond b 1 0 + times y (xs ++ post) ≡ 0 → b ≡ false
          apart true z = absurd (omega (arith, z))
          apart false z = refl

      by_test : (b : Bool) → is_id_in taken i.id ≡ b → Loose ds (without taken xs ++ tail) → Loose ds (cond b (without taken xs) (i ∷ without taken xs) ++ tail)
      by_test true t rest = rest
      by_test false t rest = (loose_use t, rest)

  -- what was written uses nothing that is removed
  written_unused : (is : List Inst) → Every (Kind globals region lanes window base) is → ((y : Id) → 1 ≤ times y is → 1 ≤ times y ws) →
      (y : Id) → is_id_in ds y ≡ true → Every (λ (i : Inst). is_created region i ≡ true → uses_id y i ≡ false) is → Every (λ (i : Inst). uses_id y i ≡ false) is
  written_unused [] k more y h n = tt
  written_unused (i ∷ is) k more y h n = (by_kind k.0, written_unused is k.1 (λ z some. more z (omega (arith, some))) y h n.1)
    where
      own : 1 ≤ times i.id ws
      own = more i.id (let one : one_of i.id i.id ≡ 1 = ap (λ b. cond b 1 0) (same_itself i.id) in omega (arith, one))

      by_kind : (is_created region i ≡ true) ⊎ (IsExtract globals region lanes window base i ⊎ IsKept globals region lanes window base i) → uses_id y i ≡ false
      by_kind (inl cr) = n.0 cr
      by_kind (inr (inl ex)) = ap (list_any (is_value y)) ex.1.2 ∙ vector (same_id (created region ex.1.0) y) refl
        where
          vector : (b : Bool) → same_id (created region ex.1.0) y ≡ b → (b || false) ≡ false
          vector true t =
              let same : suc region ≡ y.region = ap (λ (v : Id). v.region) (same_is (created region ex.1.0) y t) in
              let r = removed y h in
              let young = r.old in
              absurd (grind (arith, nat_tests))
          vector false t = refl
      by_kind (inr (inr kept)) = by_use (uses_id y i) refl
        where
          -- a kept instruction is one of the block
          whole : find i.id block ≡ Some i
          whole =
              let some = find_times i.id window i kept.0 in
              let le = s.few i.id in
              let sum = times_append i.id front (window ++ x ∷ zs) in
              let then = times_append i.id window (x ∷ zs) in
              find_append i.id front (window ++ x ∷ zs) (omega (arith, some, le, sum, then)) ∙ find_front i.id window (x ∷ zs) i kept.0

          parts : (l : List Inst) → find i.id l ≡ Some i → (pre : List Inst) × (post : List Inst) × (l ≡ pre ++ i ∷ post)
          parts [] e = absurd cc
          parts (j ∷ l) e = by_first (same_id j.id i.id) e (parts l)
            where
              by_first : (b : Bool) → cond b (Some j) (find i.id l) ≡ Some i → (find i.id l ≡ Some i → (pre : List Inst) × (post : List Inst) × (l ≡ pre ++ i ∷ post)) →
                  (pre : List Inst) × (post : List Inst) × (j ∷ l ≡ pre ++ i ∷ post)
              by_first true r more = ([], l, ap (λ u. u ∷ l) (some_is r))
              by_first false r more = let p = more r in (j ∷ p.0, p.1, ap (λ u. j ∷ u) p.2)

          by_use : (b : Bool) → uses_id y i ≡ b → b ≡ false
          by_use true u =
              let p = parts block whole in
              let q = user_either y h p.0 p.1 i p.2 u in
              let goes : is_id_in gone i.id ≡ true = sym (ap (λ b. b || is_id_in gone i.id) kept.1) ∙ q in
              let none = s.unwritten i.id goes in
              absurd (omega (arith, none, own))
          by_use false u = refl

  loose_written : (is : List Inst) (tail : List Inst) → ((y : Id) → is_id_in ds y ≡ true → Every (λ (i : Inst). uses_id y i ≡ false) is) → Loose ds tail → Loose ds (is ++ tail)
  loose_written [] tail n loose = loose
  loose_written (i ∷ is) tail n loose = ((λ y h u. absurd (true_false (sym u ∙ (n y h).0))), loose_written is tail (λ y h. (n y h).1) loose)

  -- ---- all of it

  abbrev pub remains : List Inst
  remains = without (moved globals region lanes ws) window

  abbrev pub after : List Inst
  after = front ++ (remains ++ (ws ++ x ∷ zs))

  -- a lane stands in the window, and nowhere else
  lane_window : (z : Id) → is_id_in lanes z ≡ true → (times z front ≡ 0) × (times z (x ∷ zs) ≡ 0)
  lane_window z h =
      let some = (s.lane z h).0 in
      let le = s.few z in
      let sum = times_append z front (window ++ x ∷ zs) in
      let then = times_append z window (x ∷ zs) in
      (omega (arith, some, le, sum, then), omega (arith, some, le, sum, then))

  -- of what stands elsewhere, what is a lane or goes does go
  stays_outside : (l : List Inst) → ((z : Id) → is_id_in lanes z ≡ true → times z l ≡ 0) → (z : Id) → 1 ≤ times z l → is_id_in [] z ≡ false → (is_id_in lanes z || is_id_in gone z) ≡ true → is_id_in ds z ≡ true
  stays_outside l none z some t q = by_test (is_id_in lanes z) refl q
    where
      by_test : (b : Bool) → is_id_in lanes z ≡ b → (b || is_id_in gone z) ≡ true → is_id_in ds z ≡ true
      by_test true e r = let zero = none z e in absurd (omega (arith, zero, some))
      by_test false e r = removed_gone z r

  window_in : (z : Id) → 1 ≤ times z window → 1 ≤ times z block
  window_in z some =
      let sum = times_append z front (window ++ x ∷ zs) in
      let then = times_append z window (x ∷ zs) in
      omega (arith, some, sum, then)

  not_moved : (z : Id) → 1 ≤ times z window → is_id_in (moved globals region lanes ws) z ≡ false → times z ws ≡ 0
  not_moved z some t = by_number (times z ws) refl
    where
      by_number : (n : ℕ) → times z ws ≡ n → times z ws ≡ 0
      by_number zero e = e
      by_number (suc n) e = absurd (true_false (sym (stands_moved globals region lanes ws z (omega (arith, e)) (s.old z some)) ∙ t))

  stays_window : (z : Id) → 1 ≤ times z window → is_id_in (moved globals region lanes ws) z ≡ false → (is_id_in lanes z || is_id_in gone z) ≡ true → is_id_in ds z ≡ true
  stays_window z some t q = by_test (is_id_in lanes z) refl q
    where
      by_test : (b : Bool) → is_id_in lanes z ≡ b → (b || is_id_in gone z) ≡ true → is_id_in ds z ≡ true
      by_test true e r = removed_lane z e (not_moved z some t)
      by_test false e r = removed_gone z r

  loose_after : Earlier c block → Loose ds after
  loose_after earlier =
      subst (λ l. Loose ds (l ++ (remains ++ (ws ++ x ∷ zs)))) (without_none front)
      (loose_part earlier [] [] front (window ++ x ∷ zs) (remains ++ (ws ++ x ∷ zs)) refl (stays_outside front (λ z h. (lane_window z h).0)) middle
      (loose_part earlier (moved globals region lanes ws) front window (x ∷ zs) (ws ++ x ∷ zs) refl stays_window then
      (loose_written ws (x ∷ zs) (λ y h. written_unused ws s.kinds (λ z some. some) y h (s.unused y (removed y h).created)) last)))
    where
      then : (y : Id) → is_id_in ds y ≡ true → times y (x ∷ zs) ≡ 0 → times y (ws ++ x ∷ zs) ≡ 0
      then y h z = let sum = times_append y ws (x ∷ zs) in let none = (removed y h).unwritten in omega (arith, sum, none, z)

      middle : (y : Id) → is_id_in ds y ≡ true → times y (window ++ x ∷ zs) ≡ 0 → times y (remains ++ (ws ++ x ∷ zs)) ≡ 0
      middle y h z =
          let sum = times_append y window (x ∷ zs) in
          let all = times_append y remains (ws ++ x ∷ zs) in
          let few = fewer_times (moved globals region lanes ws) y window in
          let rest = then y h (omega (arith, z, sum)) in
          omega (arith, z, sum, all, few, rest)

      last : Loose ds (x ∷ zs)
      last =
          subst (Loose ds) (append_none (without [] (x ∷ zs)) ∙ without_none (x ∷ zs))
          (loose_part earlier [] (front ++ window) (x ∷ zs) [] [] (sym (append_assoc front window (x ∷ zs)) ∙ ap (λ u. (front ++ window) ++ u) (sym (append_none (x ∷ zs))))
          (stays_outside (x ∷ zs) (λ z h. (lane_window z h).1)) (λ y h z. refl) tt)

  -- ---- removable

  removable_part : (taken : List Id) (pre xs post tail : List Inst) → block ≡ pre ++ (xs ++ post) → AllRemovable ds tail → AllRemovable ds (without taken xs ++ tail)
  removable_part taken pre [] post tail e rest = rest
  removable_part taken pre (i ∷ xs) post tail e rest =
      by_test (is_id_in taken i.id) (removable_part taken (pre ++ i ∷ []) xs post tail (e ∙ sym (append_assoc pre (i ∷ []) (xs ++ post))) rest)
    where
      by_test : (b : Bool) → AllRemovable ds (without taken xs ++ tail) → AllRemovable ds (cond b (without taken xs) (i ∷ without taken xs) ++ tail)
      by_test true r = r
      by_test false r = ((λ h. may_at pre (xs ++ post) i e (removed i.id h).may), r)

  removable_written : (is tail : List Inst) → ((y : Id) → 1 ≤ times y is → 1 ≤ times y ws) → AllRemovable ds tail → AllRemovable ds (is ++ tail)
  removable_written [] tail more rest = rest
  removable_written (i ∷ is) tail more rest = (
    (λ h. let none = (removed i.id h).unwritten in let one : one_of i.id i.id ≡ 1 = ap (λ b. cond b 1 0) (same_itself i.id) in let some = more i.id (omega (arith, one)) in absurd (omega (arith, none, some))),
    removable_written is tail (λ y some. more y (omega (arith, some))) rest,
  )

  removable_after : AllRemovable ds after
  removable_after =
      subst (λ l. AllRemovable ds (l ++ (remains ++ (ws ++ x ∷ zs)))) (without_none front)
      (removable_part [] [] front (window ++ x ∷ zs) (remains ++ (ws ++ x ∷ zs)) refl
      (removable_part (moved globals region lanes ws) front window (x ∷ zs) (ws ++ x ∷ zs) refl (removable_written ws (x ∷ zs) (λ y some. some) last)))
    where
      last : AllRemovable ds (x ∷ zs)
      last =
          subst (AllRemovable ds) (append_none (without [] (x ∷ zs)) ∙ without_none (x ∷ zs))
          (removable_part [] (front ++ window) (x ∷ zs) [] [] (sym (append_assoc front window (x ∷ zs)) ∙ ap (λ u. (front ++ window) ++ u) (sym (append_none (x ∷ zs)))) tt)

  stands_after : (y : Id) → is_id_in ds y ≡ true → times y after ≡ 1
  stands_after y h =
      let was = stands_once y h in
      let sum = times_append y front (window ++ x ∷ zs) in
      let then = times_append y window (x ∷ zs) in
      let now = times_append y front (remains ++ (ws ++ x ∷ zs)) in
      let next = times_append y remains (ws ++ x ∷ zs) in
      let last = times_append y ws (x ∷ zs) in
      let none = (removed y h).unwritten in
      let same = kept_times (moved globals region lanes ws) y window (unmoved (is_id_in (moved globals region lanes ws) y) refl none) in
      omega (arith, was, sum, then, now, next, last, none, same)
    where
      unmoved : (b : Bool) → is_id_in (moved globals region lanes ws) y ≡ b → times y ws ≡ 0 → b ≡ false
      unmoved true e z = let some = moved_stands globals region lanes ws y e in absurd (omega (arith, some, z))
      unmoved false e z = refl

  both_once : AreOnce ds
  both_once = once_both (not_among (ids_of ws) lanes) gone (not_among_once (ids_of ws) lanes s.lanes_once) s.gone_once apart
    where
      apart : (y : Id) → is_id_in (not_among (ids_of ws) lanes) y ≡ true → is_id_in gone y ≡ false
      apart y h = by_test (is_id_in gone y) refl
        where
          lane : is_id_in lanes y ≡ true
          lane = and_left (is_id_in lanes y) (not (is_id_in (ids_of ws) y)) (sym (in_not_among (ids_of ws) lanes y) ∙ h)

          by_test : (b : Bool) → is_id_in gone y ≡ b → b ≡ false
          by_test true g = absurd (true_false (sym lane ∙ (s.goes y g).1))
          by_test false g = refl

  pub going : Earlier c block → Going c ds after
  going earlier = record {
    once = both_once;
    loose = loose_after earlier;
    removable = removable_after;
    stand = stands_after;
    here = stands_here;
    unused = λ y h. (uses_here y h).0;
  }

  -- ---- what the removals leave

  outside_agree : (l : List Inst) → ((z : Id) → is_id_in lanes z ≡ true → times z l ≡ 0) → without ds l ≡ without gone l
  outside_agree l none = without_agree ds gone l (λ y some. in_both (not_among (ids_of ws) lanes) gone y ∙ ap (λ b. b || is_id_in gone y) (not_lane y some))
    where
      not_lane : (y : Id) → 1 ≤ times y l → is_id_in (not_among (ids_of ws) lanes) y ≡ false
      not_lane y some = in_not_among (ids_of ws) lanes y ∙ by_test (is_id_in lanes y) refl
        where
          by_test : (b : Bool) → is_id_in lanes y ≡ b → (b && not (is_id_in (ids_of ws) y)) ≡ false
          by_test true e = let zero = none y e in absurd (omega (arith, zero, some))
          by_test false e = refl

  all_remains : without ds remains ≡ []
  all_remains = without_all ds remains (λ y some. by_test y some (is_id_in lanes y) refl (is_id_in gone y) refl)
    where
      by_test : (y : Id) → 1 ≤ times y remains → (a : Bool) → is_id_in lanes y ≡ a → (b : Bool) → is_id_in gone y ≡ b → is_id_in ds y ≡ true
      by_test y some a e b f =
          let few = fewer_times (moved globals region lanes ws) y window in
          go (omega (arith, some, few)) (is_id_in (moved globals region lanes ws) y) refl a e b f
        where
          go : 1 ≤ times y window → (t : Bool) → is_id_in (moved globals region lanes ws) y ≡ t → (a : Bool) → is_id_in lanes y ≡ a → (b : Bool) → is_id_in gone y ≡ b → is_id_in ds y ≡ true
          go there true t a e b f = let none = gone_times (moved globals region lanes ws) y window t in absurd (omega (arith, some, none))
          go there false t true e b f = removed_lane y e (not_moved y there t)
          go there false t false e true f = removed_gone y f
          go there false t false e false f = let written = s.covers y there e f in let none = not_moved y there t in absurd (omega (arith, written, none))

  written_stays : (y : Id) → 1 ≤ times y ws → is_id_in ds y ≡ false
  written_stays y some = by_test (is_id_in ds y) refl
    where
      by_test : (b : Bool) → is_id_in ds y ≡ b → b ≡ false
      by_test true h = let none = (removed y h).unwritten in absurd (omega (arith, none, some))
      by_test false h = refl

  pub leaves : without ds after ≡ without gone front ++ (ws ++ without gone (x ∷ zs))
  leaves =
      without_append ds front (remains ++ (ws ++ x ∷ zs))
      ∙ ap (λ u. u ++ without ds (remains ++ (ws ++ x ∷ zs))) (outside_agree front (λ z h. (lane_window z h).0))
      ∙ ap (λ u. without gone front ++ u) (
      without_append ds remains (ws ++ x ∷ zs)
      ∙ ap (λ u. u ++ without ds (ws ++ x ∷ zs)) all_remains
      ∙ without_append ds ws (x ∷ zs)
      ∙ ap (λ u. u ++ without ds (x ∷ zs)) (without_stays ds ws written_stays)
      ∙ ap (λ u. ws ++ u) (outside_agree (x ∷ zs) (λ z h. (lane_window z h).1)))

  -- those that are removed stand in the block as they stood
  pub among_after : among ds after ≡ among ds block
  among_after =
      among_append ds front (remains ++ (ws ++ x ∷ zs))
      ∙ ap (λ u. among ds front ++ u) (
      among_append ds remains (ws ++ x ∷ zs)
      ∙ ap (λ u. u ++ among ds (ws ++ x ∷ zs)) (among_without ds (moved globals region lanes ws) window taken_stays)
      ∙ ap (λ u. among ds window ++ u) (among_append ds ws (x ∷ zs) ∙ ap (λ u. u ++ among ds (x ∷ zs)) (among_none ds ws written_stays))
      ∙ sym (among_append ds window (x ∷ zs)))
      ∙ sym (among_append ds front (window ++ x ∷ zs))
    where
      taken_stays : (y : Id) → 1 ≤ times y window → is_id_in (moved globals region lanes ws) y ≡ true → is_id_in ds y ≡ false
      taken_stays y some t = written_stays y (moved_stands globals region lanes ws y t)

  -- ---- what is removed is used by what is removed alone

  shut_part : (taken : List Id) (pre xs post : List Inst) → block ≡ pre ++ (xs ++ post) →
      ((z : Id) → 1 ≤ times z xs → is_id_in taken z ≡ false → (is_id_in lanes z || is_id_in gone z) ≡ true → is_id_in ds z ≡ true) → Shut ds (without taken xs)
  shut_part taken pre [] post e stays = tt
  shut_part taken pre (i ∷ xs) post e stays =
      by_test (is_id_in taken i.id) refl (shut_part taken (pre ++ i ∷ []) xs post (e ∙ sym (append_assoc pre (i ∷ []) (xs ++ post))) (λ z some t q. stays z (omega (arith, some)) t q))
    where
      by_test : (b : Bool) → is_id_in taken i.id ≡ b → Shut ds (without taken xs) → Shut ds (cond b (without taken xs) (i ∷ without taken xs))
      by_test true t rest = rest
      by_test false t rest = (
        (λ y h u. stays i.id (let own : one_of i.id i.id ≡ 1 = ap (λ b. cond b 1 0) (same_itself i.id) in omega (arith, own)) t (user_either y h pre (xs ++ post) i e u)),
        rest,
      )

  shut_unused : (is : List Inst) → ((y : Id) → is_id_in ds y ≡ true → Every (λ (i : Inst). uses_id y i ≡ false) is) → Shut ds is
  shut_unused [] n = tt
  shut_unused (i ∷ is) n = ((λ y h u. absurd (true_false (sym u ∙ (n y h).0))), shut_unused is (λ y h. (n y h).1))

  shut_both : (xs ys : List Inst) → Shut ds xs → Shut ds ys → Shut ds (xs ++ ys)
  shut_both [] ys h k = k
  shut_both (i ∷ xs) ys h k = (h.0, shut_both xs ys h.1 k)

  pub closing : Closing c ds after
  closing = record {
    shut =
        shut_both front (remains ++ (ws ++ x ∷ zs))
        (subst (Shut ds) (without_none front) (shut_part [] [] front (window ++ x ∷ zs) refl (stays_outside front (λ z h. (lane_window z h).0))))
        (shut_both remains (ws ++ x ∷ zs) (shut_part (moved globals region lanes ws) front window (x ∷ zs) refl stays_window)
        (shut_both ws (x ∷ zs) (shut_unused ws (λ y h. written_unused ws s.kinds (λ z some. some) y h (s.unused y (removed y h).created)))
        (subst (Shut ds) (without_none (x ∷ zs))
        (shut_part [] (front ++ window) (x ∷ zs) [] (sym (append_assoc front window (x ∷ zs)) ∙ ap (λ u. (front ++ window) ++ u) (sym (append_none (x ∷ zs)))) (stays_outside (x ∷ zs) (λ z h. (lane_window z h).1))))));
    here = stands_here;
    unused = λ y h. (uses_here y h).0;
  }
