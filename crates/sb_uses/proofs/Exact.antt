-- Use lists that are exact stay exact after each kind of change that fits.
use Rattle.std.proofs.Common.{◌≡◌, refl, sym, ap, ◌∙◌, subst, ℕ, zero, suc, ◌+◌, ◌<◌, ◌≤◌, Bool, true, false, ◌&&◌, None, Some, List, [], ◌∷◌, ◌++◌, cond, nat_eq, slice_get, slice_set, arith}
use Rattle.std.proofs.lemmas.Bool.Decides.{nat_tests}
use Rattle.ir_types.specs.declared.id.Id.{Id}
use Rattle.ir_types.specs.declared.id.Use.{Use}
use Rattle.ir_types.specs.declared.opd.Opd.{Opd}
use Rattle.ir_types.specs.declared.opd.Opd.TheVariants.{Val, Lit, Sym}
use Rattle.ir_types.specs.declared.inst.Inst.{Inst}
use Rattle.ir_types.specs.declared.func.Block.{Block}
use Rattle.ir_types.specs.declared.func.Func.{Func}
use Rattle.ir_types.specs.declared.module.Module.{Module}
use Rattle.ir_types.specs.Available.{same_id}
use Rattle.ir_types.specs.Formed.{ids_of}
use Rattle.ir_types.proofs.Among.{same_is, same_itself, Once}
use Rattle.vx_view.specs.declared.change.Change.{Change}
use Rattle.vx_view.specs.declared.change.Change.TheVariants.{Insert, Remove, Move, Replace, SetOperand}
use Rattle.vx_view.specs.Answers.{funcs_of, found, Standing, is_value, slots_from, uses_in, uses_in_blocks, uses_of}
use Rattle.vx_view.specs.Changes.{moved, applied, Fits}
use Rattle.vx_view.specs.Uses.{Lists, same_use, times, taken, IsExact}
use Rattle.vx_view.specs.UsesAfter.{opd_added, opd_taken, all_added, all_taken, without_uses, without_slot, slot_taken, lists_after}
use Rattle.sb_uses.specs.Places.{has}
use Rattle.sb_uses.specs.Whole.{Apart}
use Rattle.sb_uses.specs.Stock.{AllApart, slot_use, HasSlot, LacksSlot, HasSlots, LacksSlots}
use Rattle.sb_uses.specs.Totals.{total_in, total_of_blocks, total_of_funcs, total, IdsApart}
use Rattle.sb_uses.proofs.Segments.{use-is, use-itself}
use Rattle.sb_uses.proofs.Stocks.{at-list}
use Rattle.sb_uses.proofs.Totals.{found_total, not_found, less_total, one_of, apart_once, insts_apart}
use Rattle.sb_uses.proofs.Changed.{same_found, insert_total, remove_total, put_total, set_total, move_total, apart_after}

-- ---- one list

times_has : (u : Use) (us : List Use) → 1 ≤ times u us → has u us ≡ true
times_has u [] le = absurd (omega (arith, le))
times_has u (v ∷ vs) le = by_test (same_use v u) le (times_has u vs)
  where
    by_test : (b : Bool) → 1 ≤ cond b (1 + times u vs) (times u vs) → (1 ≤ times u vs → has u vs ≡ true) → cond b true (has u vs) ≡ true
    by_test true h more = refl
    by_test false h more = more h

times_lacks : (u : Use) (us : List Use) → times u us ≡ 0 → has u us ≡ false
times_lacks u [] e = refl
times_lacks u (v ∷ vs) e = by_test (same_use v u) e (times_lacks u vs)
  where
    by_test : (b : Bool) → cond b (1 + times u vs) (times u vs) ≡ 0 → (times u vs ≡ 0 → has u vs ≡ false) → cond b true (has u vs) ≡ false
    by_test true h more = absurd (omega (arith, h))
    by_test false h more = more h

times_taken : (u : Use) (us : List Use) → 1 ≤ times u us → times u (taken u us) + 1 ≡ times u us
times_taken u [] le = absurd (omega (arith, le))
times_taken u (v ∷ vs) le = by_test (same_use v u) refl le (times_taken u vs)
  where
    by_test : (b : Bool) → same_use v u ≡ b → 1 ≤ cond b (1 + times u vs) (times u vs) → (1 ≤ times u vs → times u (taken u vs) + 1 ≡ times u vs) →
        times u (cond b vs (v ∷ taken u vs)) + 1 ≡ cond b (1 + times u vs) (times u vs)
    by_test true t h more = omega (arith)
    by_test false t h more = ap (λ b. cond b (1 + times u (taken u vs)) (times u (taken u vs)) + 1) t ∙ more h

times_other : (w u : Use) (us : List Use) → same_use w u ≡ false → times u (taken w us) ≡ times u us
times_other w u [] e = refl
times_other w u (v ∷ vs) e = by_test (same_use v w) refl (times_other w u vs e)
  where
    by_test : (b : Bool) → same_use v w ≡ b → times u (taken w vs) ≡ times u vs → times u (cond b vs (v ∷ taken w vs)) ≡ cond (same_use v u) (1 + times u vs) (times u vs)
    by_test true t r = sym (ap (λ b. cond b (1 + times u vs) (times u vs)) (ap (λ y. same_use y u) (use-is v w t) ∙ e))
    by_test false t r = ap (λ n. cond (same_use v u) (1 + n) n) r

-- ---- slots of one value, and how often one use is among them

abbrev one_if : Bool → ℕ
one_if c = cond c 1 0

module _ (v : Id) (u : Use) where
  abbrev pub slots : Inst → ℕ
  slots i = times u (slots_from v i.id 0 i.opds)

  abbrev one_slot : Id → ℕ → Opd → ℕ
  one_slot user k o = cond (is_value v o) (cond (same_use (slot_use user k) u) 1 0) 0

  slots_first : (user : Id) (k : ℕ) (o : Opd) (os : List Opd) → times u (slots_from v user k (o ∷ os)) ≡ one_slot user k o + times u (slots_from v user (suc k) os)
  slots_first user k o os = by_test (is_value v o)
    where
      by_use : (c : Bool) → cond c (1 + times u (slots_from v user (suc k) os)) (times u (slots_from v user (suc k) os)) ≡ cond c 1 0 + times u (slots_from v user (suc k) os)
      by_use true = refl
      by_use false = omega (arith)

      by_test : (b : Bool) → times u (cond b (slot_use user k ∷ slots_from v user (suc k) os) (slots_from v user (suc k) os)) ≡ cond b (cond (same_use (slot_use user k) u) 1 0) 0 + times u (slots_from v user (suc k) os)
      by_test true = by_use (same_use (slot_use user k) u)
      by_test false = omega (arith)

  other_user : (user : Id) (k : ℕ) (os : List Opd) → same_id user u.user ≡ false → times u (slots_from v user k os) ≡ 0
  other_user user k [] e = refl
  other_user user k (o ∷ os) e =
      let one : one_slot user k o ≡ 0 = by_test (is_value v o) in
      let first = slots_first user k o os in
      let rest = other_user user (suc k) os e in
      omega (arith, one, first, rest)
    where
      by_test : (b : Bool) → cond b (one_if (same_use (slot_use user k) u)) 0 ≡ 0
      by_test true = ap (λ c. one_if (c && nat_eq k u.slot)) e
      by_test false = refl

  later_slots : (user : Id) (k : ℕ) (os : List Opd) → u.slot < k → times u (slots_from v user k os) ≡ 0
  later_slots user k [] less = refl
  later_slots user k (o ∷ os) less =
      let one : one_slot user k o ≡ 0 = by_test (is_value v o) in
      let first = slots_first user k o os in
      let rest = later_slots user (suc k) os (omega (arith, less)) in
      omega (arith, one, first, rest)
    where
      differ : (b : Bool) → (b && nat_eq k u.slot) ≡ false
      differ true = grind (arith, nat_tests)
      differ false = refl

      by_test : (b : Bool) → cond b (one_if (same_use (slot_use user k) u)) 0 ≡ 0
      by_test true = ap one_if (differ (same_id user u.user))
      by_test false = refl

  slots_once : (user : Id) (k : ℕ) (os : List Opd) → times u (slots_from v user k os) ≤ 1
  slots_once user k [] = omega (arith)
  slots_once user k (o ∷ os) = by_test (same_use (slot_use user k) u) refl (is_value v o) (slots_first user k o os) (slots_once user (suc k) os)
    where
      by_test : (c : Bool) → same_use (slot_use user k) u ≡ c → (b : Bool) → times u (slots_from v user k (o ∷ os)) ≡ cond b (cond c 1 0) 0 + times u (slots_from v user (suc k) os) →
          times u (slots_from v user (suc k) os) ≤ 1 → times u (slots_from v user k (o ∷ os)) ≤ 1
      by_test true t true e le =
          let at : k ≡ u.slot = ap (λ (w : Use). w.slot) (use-is (slot_use user k) u t) in
          let none = later_slots user (suc k) os (omega (arith, at)) in
          omega (arith, e, none)
      by_test true t false e le = omega (arith, e, le)
      by_test false t true e le = omega (arith, e, le)
      by_test false t false e le = omega (arith, e, le)

  -- ---- a module's uses are a total

  use_append : (xs ys : List Use) → times u (xs ++ ys) ≡ times u xs + times u ys
  use_append [] ys = omega (arith)
  use_append (x ∷ xs) ys = by_test (same_use x u) (use_append xs ys)
    where
      by_test : (b : Bool) → times u (xs ++ ys) ≡ times u xs + times u ys → cond b (1 + times u (xs ++ ys)) (times u (xs ++ ys)) ≡ cond b (1 + times u xs) (times u xs) + times u ys
      by_test true e = omega (arith, e)
      by_test false e = e

  uses_in_total : (l : List Inst) → times u (uses_in v l) ≡ total_in slots l
  uses_in_total [] = refl
  uses_in_total (i ∷ is) = let sum = use_append (slots_from v i.id 0 i.opds) (uses_in v is) in let rest = uses_in_total is in omega (arith, sum, rest)

  uses_blocks_total : (bs : List Block) → times u (uses_in_blocks v bs) ≡ total_of_blocks slots bs
  uses_blocks_total [] = refl
  uses_blocks_total (b ∷ bs) =
      let sum = use_append (uses_in v b.insts) (uses_in_blocks v bs) in let here = uses_in_total b.insts in let rest = uses_blocks_total bs in omega (arith, sum, here, rest)

  uses_funcs_total : (fs : List Func) → times u (uses_of v fs) ≡ total_of_funcs slots fs
  uses_funcs_total [] = refl
  uses_funcs_total (f ∷ fs) =
      let sum = use_append (uses_in_blocks v f.blocks) (uses_of v fs) in let here = uses_blocks_total f.blocks in let rest = uses_funcs_total fs in omega (arith, sum, here, rest)

  pub uses_total : (m : Module) → times u (uses_of v (funcs_of m.items)) ≡ total slots m
  uses_total m = uses_funcs_total (funcs_of m.items)

  none_of : (i : Inst) → same_id i.id u.user ≡ false → slots i ≡ 0
  none_of i e = other_user i.id 0 i.opds e

  uses_once : (m : Module) → IdsApart m → total slots m ≤ 1
  uses_once m apart =
      let less = less_total slots (one_of u.user) less_each m in
      let once = insts_apart m apart u.user in
      omega (arith, less, once)
    where
      less_each : (i : Inst) → slots i ≤ one_of u.user i
      less_each i = by_test (same_id i.id u.user) refl
        where
          by_test : (b : Bool) → same_id i.id u.user ≡ b → slots i ≤ cond b 1 0
          by_test true t = slots_once i.id 0 i.opds
          by_test false t = let none = none_of i t in omega (arith, none)

  -- ---- lists after slots came and went

  came_one : (user : Id) (k : ℕ) (o : Opd) (lists : Lists) → times u (opd_added user k o lists v) ≡ times u (lists v) + one_slot user k o
  came_one user k (Val x) lists = ap (times u) (at-list (λ us. slot_use user k ∷ us) x v lists) ∙ by_test (same_id x v)
    where
      by_use : (c : Bool) → cond c (1 + times u (lists v)) (times u (lists v)) ≡ times u (lists v) + cond c 1 0
      by_use true = omega (arith)
      by_use false = omega (arith)

      by_test : (b : Bool) → times u (cond b (slot_use user k ∷ lists v) (lists v)) ≡ times u (lists v) + cond b (cond (same_use (slot_use user k) u) 1 0) 0
      by_test true = by_use (same_use (slot_use user k) u)
      by_test false = omega (arith)
  came_one user k (Lit l) lists = omega (arith)
  came_one user k (Sym g) lists = omega (arith)

  came_all : (user : Id) (k : ℕ) (os : List Opd) (lists : Lists) → times u (all_added user k os lists v) ≡ times u (lists v) + times u (slots_from v user k os)
  came_all user k [] lists = omega (arith)
  came_all user k (o ∷ os) lists =
      let rest = came_all user (suc k) os (opd_added user k o lists) in
      let here = came_one user k o lists in
      let first = slots_first user k o os in
      omega (arith, rest, here, first)

  went_one : (user : Id) (k : ℕ) (o : Opd) (lists : Lists) → one_slot user k o ≤ times u (lists v) → times u (opd_taken user k o lists v) + one_slot user k o ≡ times u (lists v)
  went_one user k (Val x) lists le = ap (λ us. times u us + one_slot user k (Val x)) (at-list (taken (slot_use user k)) x v lists) ∙ by_test (same_id x v) (same_use (slot_use user k) u) refl le
    where
      by_test : (b c : Bool) → same_use (slot_use user k) u ≡ c → cond b (cond c 1 0) 0 ≤ times u (lists v) → times u (cond b (taken (slot_use user k) (lists v)) (lists v)) + cond b (cond c 1 0) 0 ≡ times u (lists v)
      by_test true true t h =
          subst (λ w. times u (taken w (lists v)) + 1 ≡ times u (lists v)) (sym (use-is (slot_use user k) u t)) (times_taken u (lists v) h)
      by_test true false t h = let same = times_other (slot_use user k) u (lists v) t in omega (arith, same)
      by_test false c t h = omega (arith)
  went_one user k (Lit l) lists le = omega (arith)
  went_one user k (Sym g) lists le = omega (arith)

  went_all : (user : Id) (k : ℕ) (os : List Opd) (lists : Lists) → times u (slots_from v user k os) ≤ times u (lists v) → times u (all_taken user k os lists v) + times u (slots_from v user k os) ≡ times u (lists v)
  went_all user k [] lists le = omega (arith)
  went_all user k (o ∷ os) lists le =
      let first = slots_first user k o os in
      let here = went_one user k o lists (omega (arith, le, first)) in
      let rest = went_all user (suc k) os (opd_taken user k o lists) (omega (arith, le, first, here)) in
      omega (arith, rest, here, first)

  -- another operand in a slot
  set_slot : (user : Id) (k j : ℕ) (os : List Opd) (old new : Opd) → slice_get os j ≡ Some old →
      times u (slots_from v user k (slice_set os j new)) + one_slot user (k + j) old ≡ times u (slots_from v user k os) + one_slot user (k + j) new
  set_slot user k j [] old new e = absurd (no_none e) where
    no_none : None ≡ Some old → ⊥
    no_none f = cc
  set_slot user k zero (o ∷ os) old new e =
      let is_it : o ≡ old = some_is e in
      let first = slots_first user k new os in
      let was = slots_first user k o os in
      let one : one_slot user (k + 0) old ≡ one_slot user k o = ap (λ i. one_slot user i old) at ∙ ap (one_slot user k) (sym is_it) in
      let other : one_slot user (k + 0) new ≡ one_slot user k new = ap (λ i. one_slot user i new) at in
      omega (arith, first, was, one, other)
    where
      some_is : Some o ≡ Some old → o ≡ old
      some_is f = cc

      at : k + 0 ≡ k
      at = omega (arith)
  set_slot user k (suc j) (o ∷ os) old new e =
      let rest = set_slot user (suc k) j os old new e in
      let now = slots_first user k o (slice_set os j new) in
      let was = slots_first user k o os in
      let one : one_slot user (k + suc j) old ≡ one_slot user (suc k + j) old = ap (λ i. one_slot user i old) at in
      let other : one_slot user (k + suc j) new ≡ one_slot user (suc k + j) new = ap (λ i. one_slot user i new) at in
      omega (arith, rest, now, was, one, other)
    where
      at : k + suc j ≡ suc k + j
      at = omega (arith)

  at_slot : (user : Id) (k j : ℕ) (os : List Opd) (old : Opd) → slice_get os j ≡ Some old → one_slot user (k + j) old ≤ times u (slots_from v user k os)
  at_slot user k j [] old e = absurd (no_none e) where
    no_none : None ≡ Some old → ⊥
    no_none f = cc
  at_slot user k zero (o ∷ os) old e =
      let first = slots_first user k o os in
      let one : one_slot user (k + 0) old ≡ one_slot user k o = ap (λ i. one_slot user i old) at ∙ ap (one_slot user k) (sym (some_is e)) in
      omega (arith, first, one)
    where
      some_is : Some o ≡ Some old → o ≡ old
      some_is f = cc

      at : k + 0 ≡ k
      at = omega (arith)
  at_slot user k (suc j) (o ∷ os) old e =
      let rest = at_slot user (suc k) j os old e in
      let was = slots_first user k o os in
      let one : one_slot user (k + suc j) old ≡ one_slot user (suc k + j) old = ap (λ i. one_slot user i old) at in
      omega (arith, rest, was, one)
    where
      at : k + suc j ≡ suc k + j
      at = omega (arith)

  -- a slot holds the value as often as its operand says
  only_slot : (user : Id) (k j : ℕ) (os : List Opd) (old : Opd) → slice_get os j ≡ Some old → same_use (slot_use user (k + j)) u ≡ true → times u (slots_from v user k os) ≤ one_slot user (k + j) old
  only_slot user k j [] old e is = absurd (no_none e) where
    no_none : None ≡ Some old → ⊥
    no_none f = cc
  only_slot user k zero (o ∷ os) old e is =
      let first = slots_first user k o os in
      let one : one_slot user (k + 0) old ≡ one_slot user k o = ap (λ i. one_slot user i old) at ∙ ap (one_slot user k) (sym (some_is e)) in
      let slot : k + 0 ≡ u.slot = ap (λ (w : Use). w.slot) (use-is (slot_use user (k + 0)) u is) in
      let none = later_slots user (suc k) os (omega (arith, slot)) in
      omega (arith, first, one, none)
    where
      some_is : Some o ≡ Some old → o ≡ old
      some_is f = cc

      at : k + 0 ≡ k
      at = omega (arith)
  only_slot user k (suc j) (o ∷ os) old e is =
      let rest = only_slot user (suc k) j os old e (subst (λ i. same_use (slot_use user i) u ≡ true) at is) in
      let was = slots_first user k o os in
      let one : one_slot user (k + suc j) old ≡ one_slot user (suc k + j) old = ap (λ i. one_slot user i old) at in
      let none : one_slot user k o ≡ 0 = by_test (is_value v o) in
      omega (arith, rest, was, one, none)
    where
      at : k + suc j ≡ suc k + j
      at = omega (arith)

      slot : k + suc j ≡ u.slot
      slot = ap (λ (w : Use). w.slot) (use-is (slot_use user (k + suc j)) u is)

      differ : (b : Bool) → (b && nat_eq k u.slot) ≡ false
      differ true = grind (arith, nat_tests)
      differ false = refl

      by_test : (b : Bool) → cond b (one_if (same_use (slot_use user k) u)) 0 ≡ 0
      by_test true = ap one_if (differ (same_id user u.user))
      by_test false = refl

  -- ---- the list of the value after a change

  module _ (m : Module) (lists : Lists) (apart : IdsApart m) (exact : IsExact m lists) where
    once_ids : Once (ids_of m)
    once_ids = apart_once m apart

    counted : times u (lists v) ≡ total slots m
    counted = exact.same v u ∙ uses_total m

    after_taking : (x : Id) (s : Standing) → found m x ≡ Some s → times u (all_taken s.inst.id 0 s.inst.opds lists v) + slots s.inst ≡ total slots m
    after_taking x s e =
        let sum = remove_total slots m x s once_ids e in
        let all = counted in
        let went = went_all s.inst.id 0 s.inst.opds lists (omega (arith, sum, all)) in
        omega (arith, went, all)

    after_total : (c : Change) → Fits m c → times u (lists_after m c lists v) ≡ total slots (applied c m)
    after_total (Insert x new) fits =
        let came = came_all new.id 0 new.opds lists in
        let sum = insert_total slots m x new fits.0.0 once_ids fits.0.1 in
        let all = counted in
        omega (arith, came, sum, all)
    after_total (Remove x) fits =
        let s = fits.0.0 in
        let e : found m x ≡ Some s = fits.0.1 in
        let went = after_taking x s e in
        let sum = remove_total slots m x s once_ids e in
        let same : times u (without_uses (found m x) lists v) ≡ times u (all_taken s.inst.id 0 s.inst.opds lists v) = ap (λ o. times u (without_uses o lists v)) e in
        omega (arith, went, sum, same)
    after_total (Move y x) fits =
        let s = fits.0.2.1.0 in
        let e : found m y ≡ Some s = fits.0.2.1.1 in
        counted ∙ sym (ap (λ o. total slots (moved x m o)) e ∙ move_total slots m x y s fits.0.0 once_ids e fits.0.1 fits.1)
    after_total (Replace new) fits =
        let s = fits.0.0 in
        let e : found m new.id ≡ Some s = fits.0.1 in
        let went = after_taking new.id s e in
        let sum = put_total slots m new s once_ids e in
        let came = came_all new.id 0 new.opds (without_uses (found m new.id) lists) in
        let same : times u (without_uses (found m new.id) lists v) ≡ times u (all_taken s.inst.id 0 s.inst.opds lists v) = ap (λ o. times u (without_uses o lists v)) e in
        omega (arith, went, sum, came, same)
    after_total (SetOperand x slot o) fits =
        let s = fits.0.0 in
        let e : found m x ≡ Some s = fits.0.1 in
        let old = fits.0.2.0 in
        let here : slice_get s.inst.opds slot ≡ Some old = fits.0.2.1 in
        let id_is : s.inst.id ≡ x = same_is s.inst.id x (same_found m x s once_ids e) in
        let zero_is : 0 + slot ≡ slot = omega (arith) in
        let sum = set_total slots m x slot o s once_ids e in
        let set = set_slot s.inst.id 0 slot s.inst.opds old o here in
        let old_one : one_slot s.inst.id (0 + slot) old ≡ one_slot s.inst.id slot old = ap (λ i. one_slot s.inst.id i old) zero_is in
        let new_one : one_slot s.inst.id (0 + slot) o ≡ one_slot x slot o = ap (λ i. one_slot s.inst.id i o) zero_is ∙ ap (λ i. one_slot i slot o) id_is in
        let le = at_slot s.inst.id 0 slot s.inst.opds old here in
        let all = counted in
        let part = remove_total slots m x s once_ids e in
        let went = went_one s.inst.id slot old lists (omega (arith, le, old_one, all, part)) in
        let same : times u (without_slot slot (found m x) lists v) ≡ times u (opd_taken s.inst.id slot old lists v) =
        ap (λ q. times u (without_slot slot q lists v)) e ∙ ap (λ q. times u (slot_taken s.inst.id slot q lists v)) here in
        let came = came_one x slot o (without_slot slot (found m x) lists) in
        omega (arith, sum, set, old_one, new_one, went, same, came, all)

pub lists_exact : (m : Module) (c : Change) (lists : Lists) → IdsApart m → Fits m c → IsExact m lists → IsExact (applied c m) (lists_after m c lists)
lists_exact m c lists apart fits exact = record {
  same = λ v u. after_total v u m lists apart exact c fits ∙ sym (uses_total v u (applied c m));
  once = λ v u. subst (λ n. n ≤ 1) (sym (after_total v u m lists apart exact c fits)) (uses_once v u (applied c m) (apart_after m c apart fits));
}

-- ---- what is listed, and what is not

slot_itself : (v user : Id) (k : ℕ) → one_slot v (slot_use user k) user k (Val v) ≡ 1
slot_itself v user k = ap (λ b. cond b (one_if (same_use (slot_use user k) (slot_use user k))) 0) (same_itself v) ∙ ap one_if (use-itself (slot_use user k))

has_each : (user : Id) (k : ℕ) (os : List Opd) (lists : Lists) → ((v : Id) (u : Use) → times u (slots_from v user k os) ≤ times u (lists v)) → HasSlots user k os lists
has_each user k [] lists le = tt
has_each user k (o ∷ os) lists le =
    (first o (λ v u. le v u), has_each user (suc k) os lists (λ v u. let sum = slots_first v u user k o os in let all = le v u in omega (arith, sum, all)))
  where
    first : (p : Opd) → ((v : Id) (u : Use) → times u (slots_from v user k (p ∷ os)) ≤ times u (lists v)) → HasSlot user k p lists
    first (Val v) all =
        let sum = slots_first v (slot_use user k) user k (Val v) os in
        let one = slot_itself v user k in
        let part = all v (slot_use user k) in
        times_has (slot_use user k) (lists v) (omega (arith, sum, one, part))
    first (Lit l) all = tt
    first (Sym g) all = tt

lacks_each : (user : Id) (k : ℕ) (os : List Opd) (lists : Lists) → ((v : Id) (j : ℕ) → times (slot_use user j) (lists v) ≡ 0) → LacksSlots user k os lists
lacks_each user k [] lists none = tt
lacks_each user k (o ∷ os) lists none = (first o, lacks_each user (suc k) os lists none)
  where
    first : (p : Opd) → LacksSlot user k p lists
    first (Val v) = times_lacks (slot_use user k) (lists v) (none v k)
    first (Lit l) = tt
    first (Sym g) = tt

module _ (m : Module) (lists : Lists) (apart : IdsApart m) (exact : IsExact m lists) where
  pub listed : (x : Id) (s : Standing) → found m x ≡ Some s → HasSlots x 0 s.inst.opds lists
  listed x s e =
      let id_is : s.inst.id ≡ x = same_is s.inst.id x (same_found m x s (apart_once m apart) e) in
      subst (λ y. HasSlots y 0 s.inst.opds lists) id_is
      (has_each s.inst.id 0 s.inst.opds lists (λ v u. let sum = remove_total (slots v u) m x s (apart_once m apart) e in let all = counted v u m lists apart exact in omega (arith, sum, all)))

  pub not_listed : (x : Id) (os : List Opd) → found m x ≡ None → LacksSlots x 0 os lists
  not_listed x os e = lacks_each x 0 os lists (λ v j. counted v (slot_use x j) m lists apart exact ∙ not_found (slots v (slot_use x j)) x (none_of v (slot_use x j)) m e)

  pub not_listed_then : (x : Id) (os : List Opd) (s : Standing) → found m x ≡ Some s → LacksSlots x 0 os (all_taken x 0 s.inst.opds lists)
  not_listed_then x os s e =
      let id_is : s.inst.id ≡ x = same_is s.inst.id x (same_found m x s (apart_once m apart) e) in
      subst (λ y. LacksSlots x 0 os (all_taken y 0 s.inst.opds lists)) id_is
      (lacks_each x 0 os (all_taken s.inst.id 0 s.inst.opds lists) (λ v j.
      let went = after_taking v (slot_use x j) m lists apart exact x s e in
      let all = found_total (slots v (slot_use x j)) x (none_of v (slot_use x j)) m s (apart_once m apart) e in
      omega (arith, went, all)))

  pub slot_listed : (x : Id) (slot : ℕ) (old : Opd) (s : Standing) → found m x ≡ Some s → slice_get s.inst.opds slot ≡ Some old → HasSlot x slot old lists
  slot_listed x slot old s e here = first old here
    where
      first : (p : Opd) → slice_get s.inst.opds slot ≡ Some p → HasSlot x slot p lists
      first (Val v) h =
          let id_is : s.inst.id ≡ x = same_is s.inst.id x (same_found m x s (apart_once m apart) e) in
          let zero_is : 0 + slot ≡ slot = omega (arith) in
          let le = at_slot v (slot_use x slot) s.inst.id 0 slot s.inst.opds (Val v) h in
          let own : one_slot v (slot_use x slot) s.inst.id (0 + slot) (Val v) ≡ 1 =
          ap (λ i. one_slot v (slot_use x slot) s.inst.id i (Val v)) zero_is ∙ ap (λ y. one_slot v (slot_use x slot) y slot (Val v)) id_is ∙ slot_itself v x slot in
          let sum = remove_total (slots v (slot_use x slot)) m x s (apart_once m apart) e in
          let all = counted v (slot_use x slot) m lists apart exact in
          times_has (slot_use x slot) (lists v) (omega (arith, le, own, sum, all))
      first (Lit l) h = tt
      first (Sym g) h = tt

  pub slot_not_listed_then : (x : Id) (slot : ℕ) (old new : Opd) (s : Standing) → found m x ≡ Some s → slice_get s.inst.opds slot ≡ Some old → LacksSlot x slot new (opd_taken x slot old lists)
  slot_not_listed_then x slot old new s e here = first new
    where
      first : (p : Opd) → LacksSlot x slot p (opd_taken x slot old lists)
      first (Val v) =
          let id_is : s.inst.id ≡ x = same_is s.inst.id x (same_found m x s (apart_once m apart) e) in
          let zero_is : 0 + slot ≡ slot = omega (arith) in
          let at : slot_use s.inst.id (0 + slot) ≡ slot_use x slot = λ i. record { user = id_is i; slot = zero_is i } in
          let le = at_slot v (slot_use x slot) s.inst.id 0 slot s.inst.opds old here in
          let most = only_slot v (slot_use x slot) s.inst.id 0 slot s.inst.opds old here (ap (λ w. same_use w (slot_use x slot)) at ∙ use-itself (slot_use x slot)) in
          let one : one_slot v (slot_use x slot) s.inst.id (0 + slot) old ≡ one_slot v (slot_use x slot) x slot old =
          ap (λ i. one_slot v (slot_use x slot) s.inst.id i old) zero_is ∙ ap (λ y. one_slot v (slot_use x slot) y slot old) id_is in
          let all = counted v (slot_use x slot) m lists apart exact in
          let own = found_total (slots v (slot_use x slot)) x (none_of v (slot_use x slot)) m s (apart_once m apart) e in
          let went = went_one v (slot_use x slot) x slot old lists (omega (arith, le, one, all, own)) in
          times_lacks (slot_use x slot) (opd_taken x slot old lists v) (omega (arith, most, one, all, own, went))
      first (Lit l) = tt
      first (Sym g) = tt

-- ---- lists that are exact have no use twice

apart_list : (us : List Use) → ((u : Use) → times u us ≤ 1) → Apart us
apart_list [] h = tt
apart_list (x ∷ xs) h = (times_lacks x xs own, apart_list xs (λ u. rest u (h u)))
  where
    own : times x xs ≡ 0
    own = let le = h x in let at : times x (x ∷ xs) ≡ 1 + times x xs = ap (λ b. cond b (1 + times x xs) (times x xs)) (use-itself x) in omega (arith, le, at)

    rest : (u : Use) → cond (same_use x u) (1 + times u xs) (times u xs) ≤ 1 → times u xs ≤ 1
    rest u le = by_test (same_use x u) le
      where
        by_test : (b : Bool) → cond b (1 + times u xs) (times u xs) ≤ 1 → times u xs ≤ 1
        by_test true e = omega (arith, e)
        by_test false e = e

pub exact_apart : (m : Module) (lists : Lists) → IsExact m lists → AllApart lists
exact_apart m lists exact v = apart_list (lists v) (exact.once v)
