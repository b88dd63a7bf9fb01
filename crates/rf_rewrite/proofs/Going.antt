-- Ids that go in turn, with which no other instruction goes, are what goes by looking at the block again and again.
use Rattle.std.proofs.Common.{◌≡◌, refl, sym, ap, ◌∙◌, subst, ℕ, zero, suc, ◌+◌, ◌-◌, ◌≤◌, Bool, true, false, not, ◌||◌, Some, List, [], ◌∷◌, ◌++◌, cond, arith, length, append_assoc}
use Rattle.ir_types.specs.declared.id.Id.{Id}
use Rattle.ir_types.specs.declared.inst.Inst.{Inst}
use Rattle.ir_types.specs.declared.module.Module.{Module}
use Rattle.ir_types.specs.Available.{same_id}
use Rattle.ir_types.specs.Formed.{IsFormed}
use Rattle.ir_types.proofs.Among.{same_is, same_itself, swapped}
use Rattle.vx_view.specs.Answers.{funcs_of, find, uses_of, uses_in}
use Rattle.vx_view.specs.Changes.{each, removing}
use Rattle.vx_serial.specs.Bundles.{AreOnce}
use Rattle.vx_serial.specs.Legal.{ids_of}
use Rattle.vx_serial.specs.Rewriting.{is_id_in, some, uses_value, may_go, goes_with, those_gone, going}
use Rattle.rf_rewrite.specs.Removing.{among, GoInTurn, is_either, NoMoreGo, AllStand, GoneAre}
use Rattle.rf_rewrite.proofs.Contexts.{Context, plug, one_of, times, times_append, around}
use Rattle.rf_rewrite.proofs.Parts.{NoneAround, no_uses_plug, none_around, split_found}
use Rattle.rf_rewrite.proofs.Window.{find_append, find_times}
use Rattle.rf_rewrite.proofs.Gone.{uses_id, NoneUses, unused_in, other_times}
use Rattle.rf_rewrite.proofs.Scan.{AllFive, all_five, users, goes_more, going_more}
use Rattle.rf_rewrite.proofs.Left.{user_in}
use Rattle.rf_rewrite.proofs.Blocks.{times_few}
use Rattle.rf_rewrite.proofs.Facts.{some_is}
use Rattle.vx_serial.proofs.Decided.{true_false}

own_one : (i : Inst) → one_of i.id i.id ≡ 1
own_one i = ap (λ b. cond b 1 0) (same_itself i.id)

or_later : (a b : Bool) → b ≡ true → (a || b) ≡ true
or_later true b e = refl
or_later false b e = e

-- an instruction of a list in which no id stands twice is the one that is found
found_at : (front rest : List Inst) (i : Inst) → ((y : Id) → times y (front ++ i ∷ rest) ≤ 1) → find i.id (front ++ i ∷ rest) ≡ Some i
found_at front rest i few =
    let le = few i.id in
    let sum = times_append i.id front (i ∷ rest) in
    let one = own_one i in
    find_append i.id front (i ∷ rest) (omega (arith, le, sum, one)) ∙ ap (λ b. cond b (Some i) (find i.id rest)) (same_itself i.id)

-- ---- no more ids than instructions

removed_length : (x : Id) (l : List Inst) → length (each (removing x) l) + times x l ≡ length l
removed_length x [] = refl
removed_length x (i ∷ l) = by_test (same_id i.id x) (removed_length x l)
  where
    by_test : (b : Bool) → length (each (removing x) l) + times x l ≡ length l → length (cond b [] (i ∷ []) ++ each (removing x) l) + (cond b 1 0 + times x l) ≡ suc (length l)
    by_test true e = omega (arith, e)
    by_test false e = omega (arith, e)

pub no_more : (xs : List Id) (l : List Inst) → AreOnce xs → ((y : Id) → is_id_in xs y ≡ true → 1 ≤ times y l) → length xs ≤ length l
no_more [] l once stand = omega (arith)
no_more (x ∷ xs) l once stand =
    let here = stand x (ap (λ b. b || is_id_in xs x) (same_itself x)) in
    let long = removed_length x l in
    let rest = no_more xs (each (removing x) l) once.1 others in
    omega (arith, here, long, rest)
  where
    apart : (y : Id) → is_id_in xs y ≡ true → same_id x y ≡ false
    apart y h = by_test (same_id x y) refl
      where
        by_test : (b : Bool) → same_id x y ≡ b → b ≡ false
        by_test true t = absurd (true_false (sym (ap (is_id_in xs) (same_is x y t) ∙ h) ∙ once.0))
        by_test false t = refl

    others : (y : Id) → is_id_in xs y ≡ true → 1 ≤ times y (each (removing x) l)
    others y h =
        let some = stand y (or_later (same_id y x) (is_id_in xs y) h) in
        let same = other_times x y l (apart y h) in
        omega (arith, some, same)

module _ (m : Module) (lanes : List Id) (new block : List Inst) where
  in_those : (gone : List Id) (is : List Inst) (x : Id) (i : Inst) → find x is ≡ Some i → goes_with m lanes new gone i ≡ true → is_id_in (those_gone m lanes new gone is) x ≡ true
  in_those gone [] x i e g = absurd cc
  in_those gone (j ∷ is) x i e g = by_same (same_id j.id x) refl e (in_those gone is x i)
    where
      by_same : (b : Bool) → same_id j.id x ≡ b → cond b (Some j) (find x is) ≡ Some i → (find x is ≡ Some i → goes_with m lanes new gone i ≡ true → is_id_in (those_gone m lanes new gone is) x ≡ true) →
          is_id_in (cond (goes_with m lanes new gone j) (j.id ∷ those_gone m lanes new gone is) (those_gone m lanes new gone is)) x ≡ true
      by_same true t r more =
          ap (λ b. is_id_in (cond b (j.id ∷ those_gone m lanes new gone is) (those_gone m lanes new gone is)) x) (ap (goes_with m lanes new gone) (some_is r) ∙ g)
          ∙ ap (λ b. b || is_id_in (those_gone m lanes new gone is) x) (swapped x j.id ∙ t)
      by_same false t r more = later (goes_with m lanes new gone j) (more r g)
        where
          later : (b : Bool) → is_id_in (those_gone m lanes new gone is) x ≡ true → is_id_in (cond b (j.id ∷ those_gone m lanes new gone is) (those_gone m lanes new gone is)) x ≡ true
          later true h = or_later (same_id x j.id) (is_id_in (those_gone m lanes new gone is) x) h
          later false h = h

  turn_stands : (gone : List Id) → GoInTurn m lanes new block gone → (y : Id) → is_id_in gone y ≡ true → (i : Inst) × (find y block ≡ Some i)
  turn_stands [] t y h = absurd cc
  turn_stands (x ∷ xs) t y h = by_same (same_id y x) refl h (turn_stands xs t.1 y)
    where
      by_same : (b : Bool) → same_id y x ≡ b → (b || is_id_in xs y) ≡ true → (is_id_in xs y ≡ true → (i : Inst) × (find y block ≡ Some i)) → (i : Inst) × (find y block ≡ Some i)
      by_same true s r more = (t.0.0, ap (λ v. find v block) (same_is y x s) ∙ t.0.1)
      by_same false s r more = more r

  turn_once : (gone : List Id) → GoInTurn m lanes new block gone → AreOnce gone
  turn_once [] t = tt
  turn_once (x ∷ xs) t = (t.0.2, turn_once xs t.1)

  turn_goes : (gone : List Id) → GoInTurn m lanes new block gone → (y : Id) → is_id_in gone y ≡ true → is_id_in (going (length gone) m lanes new block) y ≡ true
  turn_goes [] t y h = h
  turn_goes (x ∷ xs) t y h = by_same (same_id y x) refl h (turn_goes xs t.1)
    where
      by_same : (b : Bool) → same_id y x ≡ b → (b || is_id_in xs y) ≡ true → ((z : Id) → is_id_in xs z ≡ true → is_id_in (going (length xs) m lanes new block) z ≡ true) →
          is_id_in (going (suc (length xs)) m lanes new block) y ≡ true
      by_same false s r more = going_more m lanes new block (length xs) y (more y r)
      by_same true s r more =
          ap (is_id_in (going (suc (length xs)) m lanes new block)) (same_is y x s)
          ∙ in_those (going (length xs) m lanes new block) block x t.0.0 t.0.1 (goes_more m lanes new block xs (going (length xs) m lanes new block) more t.0.0 t.0.3)

  goes_later : (k n : ℕ) (y : Id) → is_id_in (going n m lanes new block) y ≡ true → is_id_in (going (k + n) m lanes new block) y ≡ true
  goes_later zero n y h = subst (λ k. is_id_in (going k m lanes new block) y ≡ true) (plain n) h
    where
      plain : (k : ℕ) → k ≡ 0 + k
      plain k = omega (arith)
  goes_later (suc k) n y h = subst (λ j. is_id_in (going j m lanes new block) y ≡ true) (next k n) (going_more m lanes new block (k + n) y (goes_later k n y h))
    where
      next : (a b : ℕ) → suc (a + b) ≡ suc a + b
      next a b = omega (arith)

  module _ (few : (y : Id) → times y block ≤ 1) where
    pub record Goer (gone : List Id) (y : Id) : Type 0 where
      pub inst : Inst
      pub stands : find inst.id block ≡ Some inst
      pub own : same_id y inst.id ≡ true
      pub goes : goes_with m lanes new gone inst ≡ true

    those_are : (gone : List Id) (front is : List Inst) (y : Id) → block ≡ front ++ is → is_id_in (those_gone m lanes new gone is) y ≡ true → Goer gone y
    those_are gone front [] y e h = absurd cc
    those_are gone front (i ∷ is) y e h = by_test (goes_with m lanes new gone i) refl h (those_are gone (front ++ i ∷ []) is y (e ∙ sym (append_assoc front (i ∷ []) is)))
      where
        by_test : (a : Bool) → goes_with m lanes new gone i ≡ a → is_id_in (cond a (i.id ∷ those_gone m lanes new gone is) (those_gone m lanes new gone is)) y ≡ true →
            (is_id_in (those_gone m lanes new gone is) y ≡ true → Goer gone y) → Goer gone y
        by_test false g r more = more r
        by_test true g r more = by_own (same_id y i.id) refl r
          where
            by_own : (b : Bool) → same_id y i.id ≡ b → (b || is_id_in (those_gone m lanes new gone is) y) ≡ true → Goer gone y
            by_own false s q = more q
            by_own true s q = record {
              inst = i;
              stands = ap (find i.id) e ∙ found_at front is i (λ z. subst (λ l. times z l ≤ 1) e (few z));
              own = s;
              goes = g;
            }

    -- ---- those that go in turn, where no more goes

    module _ (gone : List Id) (turn : GoInTurn m lanes new block gone) (closed : (i : Inst) → find i.id block ≡ Some i → goes_with m lanes new gone i ≡ true → is_id_in gone i.id ≡ true) where
      below : (n : ℕ) (y : Id) → is_id_in (going n m lanes new block) y ≡ true → is_id_in gone y ≡ true
      below zero y h = absurd cc
      below (suc n) y h =
          let g = those_are (going n m lanes new block) [] block y refl h in
          ap (is_id_in gone) (same_is y g.inst.id g.own) ∙ closed g.inst g.stands (goes_more m lanes new block (going n m lanes new block) gone (below n) g.inst g.goes)

      above : (y : Id) → is_id_in gone y ≡ true → is_id_in (going (length block) m lanes new block) y ≡ true
      above y h =
          let le = no_more gone block (turn_once gone turn) stand in
          subst (λ n. is_id_in (going n m lanes new block) y ≡ true) (omega (arith, le)) (goes_later (length block - length gone) (length gone) y (turn_goes gone turn y h))
        where
          stand : (z : Id) → is_id_in gone z ≡ true → 1 ≤ times z block
          stand z e = let s = turn_stands gone turn z e in find_times z block s.0 s.1

      in_order : (n : ℕ) → suc n ≡ length block → (front is : List Inst) → block ≡ front ++ is → those_gone m lanes new (going n m lanes new block) is ≡ ids_of (among gone is)
      in_order n long front [] e = refl
      in_order n long front (i ∷ is) e =
          ap (λ b. cond b (i.id ∷ those_gone m lanes new (going n m lanes new block) is) (those_gone m lanes new (going n m lanes new block) is)) same
          ∙ ap (λ r. cond (is_id_in gone i.id) (i.id ∷ r) r) (in_order n long (front ++ i ∷ []) is (e ∙ sym (append_assoc front (i ∷ []) is)))
          ∙ out (is_id_in gone i.id)
        where
          stands : find i.id block ≡ Some i
          stands = ap (find i.id) e ∙ found_at front is i (λ z. subst (λ l. times z l ≤ 1) e (few z))

          same : goes_with m lanes new (going n m lanes new block) i ≡ is_id_in gone i.id
          same = by_goes (goes_with m lanes new (going n m lanes new block) i) refl (is_id_in gone i.id) refl
            where
              by_goes : (a : Bool) → goes_with m lanes new (going n m lanes new block) i ≡ a → (b : Bool) → is_id_in gone i.id ≡ b → a ≡ b
              by_goes true g true h = refl
              by_goes false g false h = refl
              by_goes true g false h = absurd (true_false (sym (below (suc n) i.id (in_those (going n m lanes new block) block i.id i stands g)) ∙ h))
              by_goes false g true h =
                  let goer = those_are (going n m lanes new block) [] block i.id refl (subst (λ k. is_id_in (going k m lanes new block) i.id ≡ true) (sym long) (above i.id h)) in
                  let one : Some i ≡ Some goer.inst = sym stands ∙ ap (λ v. find v block) (same_is i.id goer.inst.id goer.own) ∙ goer.stands in
                  absurd (true_false (sym goer.goes ∙ ap (goes_with m lanes new (going n m lanes new block)) (sym (some_is one)) ∙ g))

          out : (b : Bool) → cond b (i.id ∷ ids_of (among gone is)) (ids_of (among gone is)) ≡ ids_of (cond b (i ∷ among gone is) (among gone is))
          out true = refl
          out false = refl

      pub all_are : going (length block) m lanes new block ≡ ids_of (among gone block)
      all_are = by_block block refl
        where
          by_block : (l : List Inst) → block ≡ l → going (length block) m lanes new block ≡ ids_of (among gone block)
          by_block [] e = ap (λ n. going n m lanes new block) (ap length e) ∙ sym (ap (λ l. ids_of (among gone l)) e)
          by_block (i ∷ is) e = ap (λ n. going n m lanes new block) (ap length e) ∙ in_order (length is) (sym (ap length e)) [] block refl

-- ---- where a user of what goes with them is a lane or gone

pub record User (y : Id) (l : List Inst) : Type 0 where
  pub front : List Inst
  pub rest : List Inst
  pub inst : Inst
  pub are : l ≡ front ++ inst ∷ rest
  pub does : uses_id y inst ≡ true

user_of : (y : Id) (l : List Inst) → uses_value y l ≡ true → User y l
user_of y [] e = absurd cc
user_of y (i ∷ l) e = by_use (uses_id y i) refl e (user_of y l)
  where
    by_use : (b : Bool) → uses_id y i ≡ b → (b || uses_value y l) ≡ true → (uses_value y l ≡ true → User y l) → User y (i ∷ l)
    by_use true u r more = record { front = []; rest = l; inst = i; are = refl; does = u }
    by_use false u r more = let z = more r in record { front = i ∷ z.front; rest = z.rest; inst = z.inst; are = ap (λ t. i ∷ t) z.are; does = z.does }

none_use : (y : Id) (l : List Inst) → uses_value y l ≡ false → NoneUses y l
none_use y [] e = tt
none_use y (i ∷ l) e = by_use (uses_id y i) refl e (none_use y l)
  where
    by_use : (b : Bool) → uses_id y i ≡ b → (b || uses_value y l) ≡ false → (uses_value y l ≡ false → NoneUses y l) → NoneUses y (i ∷ l)
    by_use true u r more = absurd cc
    by_use false u r more = (u, more r)

module _ (c : Context) (block : List Inst) (formed : IsFormed (plug c block)) (lanes : List Id) (new : List Inst) (gone : List Id)
    (stand : AllStand lanes block) (turn : GoInTurn (plug c block) lanes new block gone) (done : NoMoreGo (plug c block) lanes new block gone) where
  few : (y : Id) → around c y + times y block ≤ 1
  few = times_few c block formed

  few_in : (y : Id) → times y block ≤ 1
  few_in y = let le = few y in omega (arith, le)

  -- what is a lane or gone stands nowhere else
  never : (z : Id) → 1 ≤ around c z → is_either lanes gone z ≡ false
  never z some = both (is_id_in lanes z) refl (is_id_in gone z) refl
    where
      absent : (i : Inst) → find z block ≡ Some i → ⊥
      absent i e = let here = find_times z block i e in let le = few z in omega (arith, here, le, some)

      both : (a : Bool) → is_id_in lanes z ≡ a → (b : Bool) → is_id_in gone z ≡ b → (a || b) ≡ false
      both true e b f = let s = stand z e in absurd (absent s.0 s.1)
      both false e true f = let s = turn_stands (plug c block) lanes new block gone turn z f in absurd (absent s.0 s.1)
      both false e false f = refl

  closed : (i : Inst) → find i.id block ≡ Some i → goes_with (plug c block) lanes new gone i ≡ true → is_id_in gone i.id ≡ true
  closed i e g = by_use (uses_value i.id block) refl
    where
      all : AllFive (may_go i.op) (not (is_id_in lanes i.id)) (some (uses_of i.id (funcs_of (plug c block).items))) (users lanes gone (uses_of i.id (funcs_of (plug c block).items))) (not (uses_value i.id new))
      all = all_five (may_go i.op) (not (is_id_in lanes i.id)) (some (uses_of i.id (funcs_of (plug c block).items))) (users lanes gone (uses_of i.id (funcs_of (plug c block).items))) (not (uses_value i.id new)) g

      here : NoneAround c i.id × (users lanes gone (uses_in i.id block) ≡ true)
      here = none_around (is_either lanes gone) i.id c block never all.fourth

      by_use : (b : Bool) → uses_value i.id block ≡ b → is_id_in gone i.id ≡ true
      by_use false u =
          absurd (true_false (sym all.third ∙ ap some (no_uses_plug c block i.id here.0 (unused_in i.id block (none_use i.id block u)))))
      by_use true u =
          let z = user_of i.id block u in
          done z.inst i
          (ap (find z.inst.id) z.are ∙ found_at z.front z.rest z.inst (λ y. subst (λ l. times y l ≤ 1) z.are (few_in y)))
          e
          (user_in (is_either lanes gone) i.id z.front z.rest z.inst (subst (λ l. users lanes gone (uses_in i.id l) ≡ true) z.are here.1) z.does)
          z.does g

  pub gone_here : going (length block) (plug c block) lanes new block ≡ ids_of (among gone block)
  gone_here = all_are (plug c block) lanes new block few_in gone turn closed

-- ---- the law

pub gone_in_turn : GoneAre
gone_in_turn m x s lanes new gone formed found_is stand =
    let at = split_found m x s found_is in
    subst
    (λ n. IsFormed n → GoInTurn n lanes new s.block gone → NoMoreGo n lanes new s.block gone → going (length s.block) n lanes new s.block ≡ ids_of (among gone s.block))
    at.whole (λ f. gone_here at.context s.block f lanes new gone stand) formed
