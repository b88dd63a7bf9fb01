-- What goes: it may, its users are lanes or go too, and nothing created uses it; and lanes without an extract are like that.
use Rattle.std.proofs.Common.{◌≡◌, refl, sym, ap, ◌∙◌, ℕ, zero, suc, ◌+◌, ◌≤◌, Bool, true, false, not, ◌&&◌, ◌||◌, Some, List, [], ◌∷◌, ◌++◌, cond, arith, append_assoc}
use Rattle.std.specs.List.{list_any, list_all}
use Rattle.ir_types.specs.declared.id.Id.{Id}
use Rattle.ir_types.specs.declared.id.Use.{Use}
use Rattle.ir_types.specs.declared.op.Op.{Op}
use Rattle.ir_types.specs.declared.op.Op.TheVariants as op
use Rattle.ir_types.specs.declared.inst.Inst.{Inst}
use Rattle.ir_types.specs.declared.module.Module.{Module}
use Rattle.ir_types.specs.Available.{same_id}
use Rattle.ir_types.specs.Formed.{is_phi, is_alloca, is_terminator}
use Rattle.ir_types.proofs.Among.{same_is, same_itself, swapped}
use Rattle.vx_view.specs.Answers.{funcs_of, uses_of, find}
use Rattle.vx_serial.specs.Bundles.{AreOnce}
use Rattle.vx_serial.specs.Rewriting.{uses_value, may_go, is_id_in, some, goes_with, those_gone, going, is_stayer, is_wanted}
use Rattle.rf_rewrite.proofs.Contexts.{one_of, times, times_append}
use Rattle.rf_rewrite.proofs.Window.{find_append}
use Rattle.rf_rewrite.proofs.Gone.{Removable}
use Rattle.vx_serial.proofs.Decided.{true_false}

pub record AllFive (a b c d e : Bool) : Type 0 where
  pub first : a ≡ true
  pub second : b ≡ true
  pub third : c ≡ true
  pub fourth : d ≡ true
  pub fifth : e ≡ true

pub all_five : (a b c d e : Bool) → (a && b && c && d && e) ≡ true → AllFive a b c d e
all_five true true true true true h = record { first = refl; second = refl; third = refl; fourth = refl; fifth = refl }
all_five true true true true false h = absurd cc
all_five true true true false e h = absurd cc
all_five true true false d e h = absurd cc
all_five true false c d e h = absurd cc
all_five false b c d e h = absurd cc

five_all : (a b c d e : Bool) → AllFive a b c d e → (a && b && c && d && e) ≡ true
five_all a b c d e h =
    ap (λ x. x && b && c && d && e) h.first ∙ ap (λ x. true && x && c && d && e) h.second ∙ ap (λ x. true && true && x && d && e) h.third
    ∙ ap (λ x. true && true && true && x && e) h.fourth ∙ ap (λ x. true && true && true && true && x) h.fifth

false_of_not : (b : Bool) → not b ≡ true → b ≡ false
false_of_not true e = absurd cc
false_of_not false e = refl

goes_removable : (o : Op) → may_go o ≡ true → (is_phi o ≡ false) × (is_alloca o ≡ false) × (is_terminator o ≡ false)
goes_removable (op.Bin o flags) e = (refl, refl, refl)
goes_removable (op.Icmp pred) e = (refl, refl, refl)
goes_removable (op.Cast o nneg) e = (refl, refl, refl)
goes_removable op.Select e = (refl, refl, refl)
goes_removable op.Extract e = (refl, refl, refl)
goes_removable op.Insert e = (refl, refl, refl)
goes_removable (op.Shuffle mask) e = (refl, refl, refl)
goes_removable (op.Gep elem inbounds) e = (refl, refl, refl)
goes_removable (op.Load align) e = absurd cc
goes_removable (op.Store align) e = absurd cc
goes_removable (op.Alloca elem align) e = absurd cc
goes_removable (op.Phi blocks) e = absurd cc
goes_removable op.Ret e = absurd cc
goes_removable (op.Br to) e = absurd cc
goes_removable (op.CondBr first second) e = absurd cc
goes_removable (op.Switch other cases to) e = absurd cc
goes_removable op.Unreachable e = absurd cc
goes_removable (op.Call site) e = absurd cc

-- a lane, or one that goes
abbrev pub is_either : List Id → List Id → Id → Bool
is_either lanes gone x = is_id_in lanes x || is_id_in gone x

abbrev pub users : List Id → List Id → List Use → Bool
users lanes gone us = list_all (λ (u : Use). is_id_in lanes u.user || is_id_in gone u.user) us

users_more : (lanes few more : List Id) → ((y : Id) → is_id_in few y ≡ true → is_id_in more y ≡ true) → (us : List Use) → users lanes few us ≡ true → users lanes more us ≡ true
users_more lanes few more grow [] e = refl
users_more lanes few more grow (u ∷ us) e = by_user (is_id_in lanes u.user) (is_id_in few u.user) refl e (users_more lanes few more grow us)
  where
    or_true : (b : Bool) → (b || true) ≡ true
    or_true true = refl
    or_true false = refl

    by_user : (l f : Bool) → is_id_in few u.user ≡ f → ((l || f) && users lanes few us) ≡ true → (users lanes few us ≡ true → users lanes more us ≡ true) →
        ((l || is_id_in more u.user) && users lanes more us) ≡ true
    by_user true f s r rest = rest r
    by_user false true s r rest = ap (λ b. b && users lanes more us) (grow u.user s) ∙ rest r
    by_user false false s r rest = absurd cc

module _ (m : Module) (lanes : List Id) (new block : List Inst) where
  -- ---- more goes with more

  pub goes_more : (few more : List Id) → ((y : Id) → is_id_in few y ≡ true → is_id_in more y ≡ true) → (i : Inst) → goes_with m lanes new few i ≡ true → goes_with m lanes new more i ≡ true
  goes_more few more grow i h =
      let all = all_five (may_go i.op) (not (is_id_in lanes i.id)) (some (uses_of i.id (funcs_of m.items))) (users lanes few (uses_of i.id (funcs_of m.items))) (not (uses_value i.id new)) h in
      five_all (may_go i.op) (not (is_id_in lanes i.id)) (some (uses_of i.id (funcs_of m.items))) (users lanes more (uses_of i.id (funcs_of m.items))) (not (uses_value i.id new))
      (record { first = all.first; second = all.second; third = all.third; fourth = users_more lanes few more grow (uses_of i.id (funcs_of m.items)) all.fourth; fifth = all.fifth })

  those_more : (few more : List Id) → ((y : Id) → is_id_in few y ≡ true → is_id_in more y ≡ true) → (is : List Inst) (y : Id) →
      is_id_in (those_gone m lanes new few is) y ≡ true → is_id_in (those_gone m lanes new more is) y ≡ true
  those_more few more grow [] y h = h
  those_more few more grow (i ∷ is) y h =
      by_test (goes_with m lanes new few i) refl (goes_with m lanes new more i) refl h (those_more few more grow is y)
    where
      by_test : (a : Bool) → goes_with m lanes new few i ≡ a → (b : Bool) → goes_with m lanes new more i ≡ b → is_id_in (cond a (i.id ∷ those_gone m lanes new few is) (those_gone m lanes new few is)) y ≡ true →
          (is_id_in (those_gone m lanes new few is) y ≡ true → is_id_in (those_gone m lanes new more is) y ≡ true) →
          is_id_in (cond b (i.id ∷ those_gone m lanes new more is) (those_gone m lanes new more is)) y ≡ true
      by_test true e false f r rest = absurd (true_false (sym (goes_more few more grow i e) ∙ f))
      by_test true e true f r rest = by_own (same_id y i.id) r
        where
          by_own : (b : Bool) → (b || is_id_in (those_gone m lanes new few is) y) ≡ true → (b || is_id_in (those_gone m lanes new more is) y) ≡ true
          by_own true s = refl
          by_own false s = rest s
      by_test false e true f r rest = later (same_id y i.id) (rest r)
        where
          later : (b : Bool) → is_id_in (those_gone m lanes new more is) y ≡ true → (b || is_id_in (those_gone m lanes new more is) y) ≡ true
          later true s = refl
          later false s = s
      by_test false e false f r rest = rest r

  pub going_more : (n : ℕ) (y : Id) → is_id_in (going n m lanes new block) y ≡ true → is_id_in (going (suc n) m lanes new block) y ≡ true
  going_more zero y h = absurd cc
  going_more (suc n) y h = those_more (going n m lanes new block) (going (suc n) m lanes new block) (going_more n) block y h

  -- ---- one that goes

  pub record Leaves (gone : List Id) (y : Id) : Type 0 where
    pub inst : Inst
    pub stands : find y block ≡ Some inst
    pub may : Removable inst
    pub other : is_id_in lanes y ≡ false
    pub used : users lanes gone (uses_of y (funcs_of m.items)) ≡ true
    pub created : uses_value y new ≡ false

  module _ (few : (y : Id) → times y block ≤ 1) where
    those_leave : (gone : List Id) (front is : List Inst) (y : Id) → block ≡ front ++ is → is_id_in (those_gone m lanes new gone is) y ≡ true → Leaves gone y
    those_leave gone front [] y e h = absurd cc
    those_leave gone front (i ∷ is) y e h =
        by_test (goes_with m lanes new gone i) refl h (those_leave gone (front ++ i ∷ []) is y (e ∙ sym (append_assoc front (i ∷ []) is)))
      where
        by_test : (a : Bool) → goes_with m lanes new gone i ≡ a → is_id_in (cond a (i.id ∷ those_gone m lanes new gone is) (those_gone m lanes new gone is)) y ≡ true →
            (is_id_in (those_gone m lanes new gone is) y ≡ true → Leaves gone y) → Leaves gone y
        by_test false g r rest = rest r
        by_test true g r rest = by_own (same_id y i.id) refl r
          where
            all : AllFive (may_go i.op) (not (is_id_in lanes i.id)) (some (uses_of i.id (funcs_of m.items))) (users lanes gone (uses_of i.id (funcs_of m.items))) (not (uses_value i.id new))
            all = all_five (may_go i.op) (not (is_id_in lanes i.id)) (some (uses_of i.id (funcs_of m.items))) (users lanes gone (uses_of i.id (funcs_of m.items))) (not (uses_value i.id new)) g

            finds : find i.id block ≡ Some i
            finds =
                let le = few i.id in
                let whole = ap (times i.id) e in
                let sum = times_append i.id front (i ∷ is) in
                let one : one_of i.id i.id ≡ 1 = ap (λ b. cond b 1 0) (same_itself i.id) in
                ap (find i.id) e ∙ find_append i.id front (i ∷ is) (omega (arith, le, whole, sum, one)) ∙ ap (λ b. cond b (Some i) (find i.id is)) (same_itself i.id)

            by_own : (b : Bool) → same_id y i.id ≡ b → (b || is_id_in (those_gone m lanes new gone is) y) ≡ true → Leaves gone y
            by_own false s q = rest q
            by_own true s q =
                let same : y ≡ i.id = same_is y i.id s in
                record {
                  inst = i;
                  stands = ap (λ v. find v block) same ∙ finds;
                  may = goes_removable i.op all.first;
                  other = ap (is_id_in lanes) same ∙ false_of_not (is_id_in lanes i.id) all.second;
                  used = ap (λ v. users lanes gone (uses_of v (funcs_of m.items))) same ∙ all.fourth;
                  created = ap (λ v. uses_value v new) same ∙ false_of_not (uses_value i.id new) all.fifth;
                }

    -- what goes by so many looks, with users that are lanes or go so
    pub going_leaves : (n : ℕ) (y : Id) → is_id_in (going n m lanes new block) y ≡ true → Leaves (going n m lanes new block) y
    going_leaves zero y h = absurd cc
    going_leaves (suc n) y h =
        let r = those_leave (going n m lanes new block) [] block y refl h in
        record {
          inst = r.inst;
          stands = r.stands;
          may = r.may;
          other = r.other;
          used = users_more lanes (going n m lanes new block) (going (suc n) m lanes new block) (going_more n) (uses_of y (funcs_of m.items)) r.used;
          created = r.created;
        }

  -- ---- each goes once

  those_stand : (gone : List Id) (is : List Inst) (y : Id) → is_id_in (those_gone m lanes new gone is) y ≡ true → 1 ≤ times y is
  those_stand gone [] y h = absurd cc
  those_stand gone (i ∷ is) y h = by_test (goes_with m lanes new gone i) h (those_stand gone is y)
    where
      by_test : (a : Bool) → is_id_in (cond a (i.id ∷ those_gone m lanes new gone is) (those_gone m lanes new gone is)) y ≡ true → (is_id_in (those_gone m lanes new gone is) y ≡ true → 1 ≤ times y is) →
          1 ≤ one_of i.id y + times y is
      by_test false r rest = let some = rest r in omega (arith, some)
      by_test true r rest = by_own (same_id y i.id) refl r
        where
          by_own : (b : Bool) → same_id y i.id ≡ b → (b || is_id_in (those_gone m lanes new gone is) y) ≡ true → 1 ≤ one_of i.id y + times y is
          by_own true s q = let one : one_of i.id y ≡ 1 = ap (λ b. cond b 1 0) (swapped i.id y ∙ s) in omega (arith, one)
          by_own false s q = let some = rest q in omega (arith, some)

  those_once : (gone : List Id) (is : List Inst) → ((y : Id) → times y is ≤ 1) → AreOnce (those_gone m lanes new gone is)
  those_once gone [] le = tt
  those_once gone (i ∷ is) le = by_test (goes_with m lanes new gone i) (those_once gone is (λ y. let l = le y in omega (arith, l)))
    where
      none : (b : Bool) → is_id_in (those_gone m lanes new gone is) i.id ≡ b → b ≡ false
      none true h =
          let some = those_stand gone is i.id h in
          let one : one_of i.id i.id ≡ 1 = ap (λ b. cond b 1 0) (same_itself i.id) in
          let l = le i.id in
          absurd (omega (arith, some, one, l))
      none false h = refl

      by_test : (a : Bool) → AreOnce (those_gone m lanes new gone is) → AreOnce (cond a (i.id ∷ those_gone m lanes new gone is) (those_gone m lanes new gone is))
      by_test false rest = rest
      by_test true rest = (none (is_id_in (those_gone m lanes new gone is) i.id) refl, rest)

  pub going_once : (n : ℕ) → ((y : Id) → times y block ≤ 1) → AreOnce (going n m lanes new block)
  going_once zero le = tt
  going_once (suc n) le = those_once (going n m lanes new block) block le

-- ---- lanes that are not wanted

stayers_none : (lanes gone : List Id) (us : List Use) → list_any (is_stayer lanes gone) us ≡ false → users lanes gone us ≡ true
stayers_none lanes gone [] e = refl
stayers_none lanes gone (u ∷ us) e = by_user (is_id_in lanes u.user) (is_id_in gone u.user) e (stayers_none lanes gone us)
  where
    by_user : (a b : Bool) → ((not a && not b) || list_any (is_stayer lanes gone) us) ≡ false → (list_any (is_stayer lanes gone) us ≡ false → users lanes gone us ≡ true) →
        ((a || b) && users lanes gone us) ≡ true
    by_user true b r more = more r
    by_user false true r more = more r
    by_user false false r more = absurd cc

pub unwanted : (m : Module) (lanes gone : List Id) (new : List Inst) (x : Id) → is_wanted m lanes gone new x ≡ false →
    (users lanes gone (uses_of x (funcs_of m.items)) ≡ true) × (uses_value x new ≡ false)
unwanted m lanes gone new x e = both (list_any (is_stayer lanes gone) (uses_of x (funcs_of m.items))) refl e
  where
    both : (b : Bool) → list_any (is_stayer lanes gone) (uses_of x (funcs_of m.items)) ≡ b → (b || uses_value x new) ≡ false →
        (users lanes gone (uses_of x (funcs_of m.items)) ≡ true) × (uses_value x new ≡ false)
    both true s r = absurd cc
    both false s r = (stayers_none lanes gone (uses_of x (funcs_of m.items)) s, r)
