-- The removals: while some of what goes is left, one of it is unused, and so all of it goes.
use Rattle.std.proofs.Common.{◌≡◌, refl, sym, ap, ◌∙◌, subst, ℕ, zero, suc, ◌+◌, ◌≤◌, Bool, true, false, not, ◌||◌, Option, None, Some, List, [], ◌∷◌, ◌++◌, cond, arith, length}
use Rattle.std.specs.Bool.{⊤}
use Rattle.std.specs.List.{list_any}
use Rattle.ir_types.specs.declared.id.Id.{Id}
use Rattle.ir_types.specs.declared.id.Use.{Use}
use Rattle.ir_types.specs.declared.opd.Opd.{Opd}
use Rattle.ir_types.specs.declared.inst.Inst.{Inst}
use Rattle.ir_types.specs.declared.module.Module.{Module}
use Rattle.ir_types.specs.Available.{same_id}
use Rattle.ir_types.specs.Formed.{is_phi, is_alloca, is_terminator}
use Rattle.ir_types.proofs.Among.{same_is, same_itself}
use Rattle.vx_view.specs.declared.change.Change.TheVariants.{Remove}
use Rattle.vx_view.specs.Answers.{funcs_of, find, is_value, slots_from, uses_of, uses_in, is_less_id}
use Rattle.vx_view.specs.Changes.{each, removing as removing_edit, applied, all_applied, Fits, AllFit}
use Rattle.vx_serial.specs.Bundles.{AreOnce}
use Rattle.vx_serial.specs.Rewriting.{is_id_in, without, some}
use Rattle.vx_serial.specs.Changing.{is_unused, greater, greatest_unused, other_than, removing, removals}
use Rattle.rf_rewrite.proofs.Contexts.{Context, plug, one_of, times, around, place_of, some_find, found_plug, edited_plug}
use Rattle.rf_rewrite.proofs.Parts.{NoneAround, no_uses_plug, empty_both}
use Rattle.rf_rewrite.proofs.Window.{removing_only}
use Rattle.rf_rewrite.proofs.Facts.{some_is}

-- ---- booleans

or_cases : {P : Type 0} (a b : Bool) → (a || b) ≡ true → (a ≡ true → P) → (b ≡ true → P) → P
or_cases true b e f g = f refl
or_cases false b e f g = g e

true_not_false : {b : Bool} → b ≡ true → b ≡ false → ⊥
true_not_false e f = cc

-- ---- uses

abbrev pub uses_id : Id → Inst → Bool
uses_id y i = list_any (is_value y) i.opds

slots_unused : (y user : Id) (slot : ℕ) (os : List Opd) → list_any (is_value y) os ≡ false → slots_from y user slot os ≡ []
slots_unused y user slot [] e = refl
slots_unused y user slot (o ∷ os) e = by_test (is_value y o) e (slots_unused y user (suc slot) os)
  where
    by_test : (b : Bool) → (b || list_any (is_value y) os) ≡ false → (list_any (is_value y) os ≡ false → slots_from y user (suc slot) os ≡ []) →
        cond b (record { user = user; slot = slot } ∷ slots_from y user (suc slot) os) (slots_from y user (suc slot) os) ≡ []
    by_test true r more = absurd cc
    by_test false r more = more r

pub used_by : (y user : Id) (slot : ℕ) (os : List Opd) → list_any (is_value y) os ≡ true → (k : ℕ) × (us : List Use) × (slots_from y user slot os ≡ record { user = user; slot = k } ∷ us)
used_by y user slot [] e = absurd cc
used_by y user slot (o ∷ os) e = by_test (is_value y o) e (used_by y user (suc slot) os)
  where
    by_test : (b : Bool) → (b || list_any (is_value y) os) ≡ true → (list_any (is_value y) os ≡ true → (k : ℕ) × (us : List Use) × (slots_from y user (suc slot) os ≡ record { user = user; slot = k } ∷ us)) →
        (k : ℕ) × (us : List Use) × (cond b (record { user = user; slot = slot } ∷ slots_from y user (suc slot) os) (slots_from y user (suc slot) os) ≡ record { user = user; slot = k } ∷ us)
    by_test true r more = (slot, slots_from y user (suc slot) os, refl)
    by_test false r more = more r

-- no instruction of a list uses a value
abbrev pub NoneUses : Id → List Inst → Type 0
NoneUses y [] = ⊤
NoneUses y (i ∷ is) = (uses_id y i ≡ false) × NoneUses y is

pub unused_in : (y : Id) (l : List Inst) → NoneUses y l → uses_in y l ≡ []
unused_in y [] h = refl
unused_in y (i ∷ is) h = empty_both (slots_from y i.id 0 i.opds) (uses_in y is) (slots_unused y i.id 0 i.opds h.0) (unused_in y is h.1)

-- ---- what goes: each user of it goes too, and stands after it

abbrev pub LooseUse : List Id → Inst → List Inst → Type 0
LooseUse ds i l = (y : Id) → is_id_in ds y ≡ true → uses_id y i ≡ true → (is_id_in ds i.id ≡ true) × (same_id i.id y ≡ false) × (times y l ≡ 0)

abbrev pub Loose : List Id → List Inst → Type 0
Loose ds [] = ⊤
Loose ds (i ∷ l) = LooseUse ds i l × Loose ds l

abbrev pub Removable : Inst → Type 0
Removable i = (is_phi i.op ≡ false) × (is_alloca i.op ≡ false) × (is_terminator i.op ≡ false)

abbrev pub AllRemovable : List Id → List Inst → Type 0
AllRemovable ds [] = ⊤
AllRemovable ds (i ∷ l) = (is_id_in ds i.id ≡ true → Removable i) × AllRemovable ds l

-- ---- one that is unused

abbrev stands_in : List Id → List Inst → Bool
stands_in ds l = list_any (λ (i : Inst). is_id_in ds i.id) l

not_standing : (ds : List Id) (y : Id) (l : List Inst) → is_id_in ds y ≡ true → stands_in ds l ≡ false → times y l ≡ 0
not_standing ds y [] h e = refl
not_standing ds y (i ∷ l) h e = by_test (is_id_in ds i.id) refl e (not_standing ds y l h)
  where
    by_test : (b : Bool) → is_id_in ds i.id ≡ b → (b || stands_in ds l) ≡ false → (stands_in ds l ≡ false → times y l ≡ 0) → one_of i.id y + times y l ≡ 0
    by_test true t r more = absurd cc
    by_test false t r more = by_same (same_id i.id y) refl (more r)
      where
        by_same : (b : Bool) → same_id i.id y ≡ b → times y l ≡ 0 → cond b 1 0 + times y l ≡ 0
        by_same true s z = absurd (true_not_false (ap (is_id_in ds) (same_is i.id y s) ∙ h) t)
        by_same false s z = omega (arith, z)

standing : (ds : List Id) (y : Id) (l : List Inst) → is_id_in ds y ≡ true → 1 ≤ times y l → stands_in ds l ≡ true
standing ds y l h e = by_test (stands_in ds l) refl
  where
    by_test : (b : Bool) → stands_in ds l ≡ b → b ≡ true
    by_test true t = refl
    by_test false t = let none = not_standing ds y l h t in absurd (omega (arith, none, e))

-- what uses none of what goes, where none of it stands among the users
none_uses : (ds : List Id) (y : Id) (l : List Inst) → is_id_in ds y ≡ true → Loose ds l → stands_in ds l ≡ false → NoneUses y l
none_uses ds y [] h loose e = tt
none_uses ds y (i ∷ l) h loose e = by_test (is_id_in ds i.id) refl e (none_uses ds y l h loose.1)
  where
    by_test : (b : Bool) → is_id_in ds i.id ≡ b → (b || stands_in ds l) ≡ false → (stands_in ds l ≡ false → NoneUses y l) → NoneUses y (i ∷ l)
    by_test true t r more = absurd cc
    by_test false t r more = (by_use (uses_id y i) refl, more r)
      where
        by_use : (b : Bool) → uses_id y i ≡ b → b ≡ false
        by_use true u = absurd (true_not_false (loose.0 y h u).0 t)
        by_use false u = refl

pub record Last (ds : List Id) (l : List Inst) : Type 0 where
  pub one : Id
  pub goes : is_id_in ds one ≡ true
  pub stands : 1 ≤ times one l
  pub unused : NoneUses one l

last : (ds : List Id) (l : List Inst) → Loose ds l → stands_in ds l ≡ true → Last ds l
last ds [] loose e = absurd cc
last ds (i ∷ l) loose e = by_rest (stands_in ds l) refl e (last ds l loose.1)
  where
    by_rest : (b : Bool) → stands_in ds l ≡ b → (is_id_in ds i.id || b) ≡ true → (stands_in ds l ≡ true → Last ds l) → Last ds (i ∷ l)
    by_rest true t r more =
        let z = more t in
        record { one = z.one; goes = z.goes; stands = (let s = z.stands in omega (arith, s)); unused = (by_use z.one z.goes z.stands (uses_id z.one i) refl, z.unused) }
      where
        by_use : (y : Id) → is_id_in ds y ≡ true → 1 ≤ times y l → (b : Bool) → uses_id y i ≡ b → b ≡ false
        by_use y g s true u = let none = (loose.0 y g u).2 in absurd (omega (arith, s, none))
        by_use y g s false u = refl
    by_rest false t r more = by_own (is_id_in ds i.id) refl r
      where
        by_own : (b : Bool) → is_id_in ds i.id ≡ b → (b || false) ≡ true → Last ds (i ∷ l)
        by_own false o s = absurd cc
        by_own true o s = record {
          one = i.id;
          goes = o;
          stands = (let one : one_of i.id i.id ≡ 1 = ap (λ b. cond b 1 0) (same_itself i.id) in omega (arith, one));
          unused = (by_use (uses_id i.id i) refl, none_uses ds i.id l o loose.1 t);
        }
          where
            by_use : (b : Bool) → uses_id i.id i ≡ b → b ≡ false
            by_use true u = absurd (true_not_false (same_itself i.id) (loose.0 i.id o u).1)
            by_use false u = refl

-- ---- the greatest that is unused

pub record Greatest (m : Module) (ds : List Id) : Type 0 where
  pub one : Id
  pub is : greatest_unused m ds ≡ Some one
  pub goes : is_id_in ds one ≡ true
  pub unused : is_unused m one ≡ true

head_in : (x : Id) (xs : List Id) → is_id_in (x ∷ xs) x ≡ true
head_in x xs = ap (λ b. b || is_id_in xs x) (same_itself x)

tail_in : (x y : Id) (xs : List Id) → is_id_in xs y ≡ true → is_id_in (x ∷ xs) y ≡ true
tail_in x y xs h = by_test (same_id y x) h
  where
    by_test : (b : Bool) → is_id_in xs y ≡ true → (b || is_id_in xs y) ≡ true
    by_test true e = refl
    by_test false e = e

-- with the first one
greatest_with : (m : Module) (x : Id) (xs : List Id) → is_unused m x ≡ true → (o : Option Id) → greatest_unused m xs ≡ o →
    ((y : Id) → o ≡ Some y → (is_id_in xs y ≡ true) × (is_unused m y ≡ true)) → Greatest m (x ∷ xs)
greatest_with m x xs u None e all = record { one = x; is = ap (λ b. greater b x (greatest_unused m xs)) u ∙ ap (greater true x) e; goes = head_in x xs; unused = u }
greatest_with m x xs u (Some y) e all = by_less (is_less_id x y) refl
  where
    by_less : (b : Bool) → is_less_id x y ≡ b → Greatest m (x ∷ xs)
    by_less true l = record {
      one = y;
      is = ap (λ b. greater b x (greatest_unused m xs)) u ∙ ap (greater true x) e ∙ ap (λ b. Some (cond b y x)) l;
      goes = tail_in x y xs (all y refl).0;
      unused = (all y refl).1;
    }
    by_less false l = record {
      one = x;
      is = ap (λ b. greater b x (greatest_unused m xs)) u ∙ ap (greater true x) e ∙ ap (λ b. Some (cond b y x)) l;
      goes = head_in x xs;
      unused = u;
    }

-- what the greatest is, where there is one
pub greatest_all : (m : Module) (ds : List Id) (y : Id) → greatest_unused m ds ≡ Some y → (is_id_in ds y ≡ true) × (is_unused m y ≡ true)
greatest_all m [] y e = absurd cc
greatest_all m (x ∷ xs) y e = by_test (is_unused m x) refl e (greatest_all m xs)
  where
    Rest : Type 0
    Rest = (z : Id) → greatest_unused m xs ≡ Some z → (is_id_in xs z ≡ true) × (is_unused m z ≡ true)

    by_test : (b : Bool) → is_unused m x ≡ b → greater b x (greatest_unused m xs) ≡ Some y → Rest → (is_id_in (x ∷ xs) y ≡ true) × (is_unused m y ≡ true)
    by_test false u r more = let z = more y r in (tail_in x y xs z.0, z.1)
    by_test true u r more =
        let g = greatest_with m x xs u (greatest_unused m xs) refl more in
        let same : g.one ≡ y = some_is (sym g.is ∙ (ap (λ b. greater b x (greatest_unused m xs)) u ∙ r)) in
        (subst (λ z. is_id_in (x ∷ xs) z ≡ true) same g.goes, subst (λ z. is_unused m z ≡ true) same g.unused)

greatest_there : (m : Module) (ds : List Id) (y : Id) → is_id_in ds y ≡ true → is_unused m y ≡ true → Greatest m ds
greatest_there m [] y h u = absurd cc
greatest_there m (x ∷ xs) y h u = by_test (is_unused m x) refl (greatest_there m xs y)
  where
    by_test : (b : Bool) → is_unused m x ≡ b → (is_id_in xs y ≡ true → is_unused m y ≡ true → Greatest m xs) → Greatest m (x ∷ xs)
    by_test true t more = greatest_with m x xs t (greatest_unused m xs) refl (greatest_all m xs)
    by_test false t more =
        or_cases (same_id y x) (is_id_in xs y) h
        (λ s. absurd (true_not_false (ap (is_unused m) (sym (same_is y x s)) ∙ u) t))
        (λ r. let g = more r u in record { one = g.one; is = ap (λ b. greater b x (greatest_unused m xs)) t ∙ g.is; goes = tail_in x g.one xs g.goes; unused = g.unused })

-- ---- without the one that goes

pub other_in : (d y : Id) (ds : List Id) → same_id y d ≡ false → is_id_in (other_than d ds) y ≡ is_id_in ds y
other_in d y [] e = refl
other_in d y (x ∷ xs) e = by_test (same_id d x) refl (other_in d y xs e)
  where
    by_test : (b : Bool) → same_id d x ≡ b → is_id_in (other_than d xs) y ≡ is_id_in xs y → is_id_in (cond b xs (x ∷ other_than d xs)) y ≡ (same_id y x || is_id_in xs y)
    by_test true t r = sym (ap (λ b. b || is_id_in xs y) (subst (λ z. same_id y z ≡ false) (same_is d x t) e))
    by_test false t r = ap (λ b. same_id y x || b) r

-- what is among the others was there
pub other_was : (d y : Id) (ds : List Id) → is_id_in (other_than d ds) y ≡ true → is_id_in ds y ≡ true
other_was d y [] h = absurd cc
other_was d y (x ∷ xs) h = by_test (same_id d x) h (other_was d y xs)
  where
    by_test : (b : Bool) → is_id_in (cond b xs (x ∷ other_than d xs)) y ≡ true → (is_id_in (other_than d xs) y ≡ true → is_id_in xs y ≡ true) → (same_id y x || is_id_in xs y) ≡ true
    by_test true r more = tail_in x y xs r
    by_test false r more = or_cases (same_id y x) (is_id_in (other_than d xs) y) r (λ s. ap (λ b. b || is_id_in xs y) s) (λ s. tail_in x y xs (more s))

other_once : (d : Id) (ds : List Id) → AreOnce ds → AreOnce (other_than d ds)
other_once d [] o = tt
other_once d (x ∷ xs) o = by_test (same_id d x) (other_once d xs o.1)
  where
    not_in : (b : Bool) → is_id_in (other_than d xs) x ≡ b → b ≡ false
    not_in true e = absurd (true_not_false (other_was d x xs e) o.0)
    not_in false e = refl

    by_test : (b : Bool) → AreOnce (other_than d xs) → AreOnce (cond b xs (x ∷ other_than d xs))
    by_test true r = o.1
    by_test false r = (not_in (is_id_in (other_than d xs) x) refl, r)

-- the one is not among the others
other_gone : (d : Id) (ds : List Id) → AreOnce ds → is_id_in (other_than d ds) d ≡ false
other_gone d [] o = refl
other_gone d (x ∷ xs) o = by_test (same_id d x) refl (other_gone d xs o.1)
  where
    by_test : (b : Bool) → same_id d x ≡ b → is_id_in (other_than d xs) d ≡ false → is_id_in (cond b xs (x ∷ other_than d xs)) d ≡ false
    by_test true t r = subst (λ z. is_id_in xs z ≡ false) (sym (same_is d x t)) o.0
    by_test false t r = ap (λ b. b || is_id_in (other_than d xs) d) t ∙ r

other_length : (d : Id) (ds : List Id) → is_id_in ds d ≡ true → suc (length (other_than d ds)) ≡ length ds
other_length d [] h = absurd cc
other_length d (x ∷ xs) h = by_test (same_id d x) h (other_length d xs)
  where
    by_test : (b : Bool) → (b || is_id_in xs d) ≡ true → (is_id_in xs d ≡ true → suc (length (other_than d xs)) ≡ length xs) → suc (length (cond b xs (x ∷ other_than d xs))) ≡ suc (length xs)
    by_test true r more = refl
    by_test false r more = ap suc (more r)

fewer_times : (d y : Id) (l : List Inst) → times y l ≡ 0 → times y (each (removing_edit d) l) ≡ 0
fewer_times d y [] e = refl
fewer_times d y (i ∷ l) e = by_test (same_id i.id d) (fewer_times d y l (omega (arith, e)))
  where
    by_test : (b : Bool) → times y (each (removing_edit d) l) ≡ 0 → times y (cond b [] (i ∷ []) ++ each (removing_edit d) l) ≡ 0
    by_test true r = r
    by_test false r = omega (arith, r, e)

loose_removed : (d : Id) (ds : List Id) (l : List Inst) → Loose ds l → Loose (other_than d ds) (each (removing_edit d) l)
loose_removed d ds [] h = tt
loose_removed d ds (i ∷ l) h = by_test (same_id i.id d) refl (loose_removed d ds l h.1)
  where
    by_test : (b : Bool) → same_id i.id d ≡ b → Loose (other_than d ds) (each (removing_edit d) l) → Loose (other_than d ds) (cond b [] (i ∷ []) ++ each (removing_edit d) l)
    by_test true t r = r
    by_test false t r = ((λ y g u. let z = h.0 y (other_was d y ds g) u in (other_in d i.id ds t ∙ z.0, z.1, fewer_times d y l z.2)), r)

removable_removed : (d : Id) (ds : List Id) (l : List Inst) → AllRemovable ds l → AllRemovable (other_than d ds) (each (removing_edit d) l)
removable_removed d ds [] h = tt
removable_removed d ds (i ∷ l) h = by_test (same_id i.id d) (removable_removed d ds l h.1)
  where
    by_test : (b : Bool) → AllRemovable (other_than d ds) (each (removing_edit d) l) → AllRemovable (other_than d ds) (cond b [] (i ∷ []) ++ each (removing_edit d) l)
    by_test true r = r
    by_test false r = ((λ g. h.0 (other_was d i.id ds g)), r)

pub other_times : (d y : Id) (l : List Inst) → same_id d y ≡ false → times y (each (removing_edit d) l) ≡ times y l
other_times d y [] e = refl
other_times d y (i ∷ l) e = by_test (same_id i.id d) refl (other_times d y l e)
  where
    by_test : (b : Bool) → same_id i.id d ≡ b → times y (each (removing_edit d) l) ≡ times y l → times y (cond b [] (i ∷ []) ++ each (removing_edit d) l) ≡ one_of i.id y + times y l
    by_test true t r = let none : one_of i.id y ≡ 0 = ap (λ z. one_of z y) (same_is i.id d t) ∙ ap (λ b. cond b 1 0) e in omega (arith, r, none)
    by_test false t r = omega (arith, r)

without_removed : (d : Id) (ds : List Id) (l : List Inst) → is_id_in ds d ≡ true → without (other_than d ds) (each (removing_edit d) l) ≡ without ds l
without_removed d ds [] h = refl
without_removed d ds (i ∷ l) h = by_test (same_id i.id d) refl (without_removed d ds l h)
  where
    by_test : (b : Bool) → same_id i.id d ≡ b → without (other_than d ds) (each (removing_edit d) l) ≡ without ds l →
        without (other_than d ds) (cond b [] (i ∷ []) ++ each (removing_edit d) l) ≡ cond (is_id_in ds i.id) (without ds l) (i ∷ without ds l)
    by_test true t r = r ∙ ap (λ b. cond b (without ds l) (i ∷ without ds l)) (sym (ap (is_id_in ds) (same_is i.id d t) ∙ h))
    by_test false t r =
        ap (λ b. cond b (without (other_than d ds) (each (removing_edit d) l)) (i ∷ without (other_than d ds) (each (removing_edit d) l))) (other_in d i.id ds t)
        ∙ ap (λ u. cond (is_id_in ds i.id) u (i ∷ u)) r

pub without_none : (l : List Inst) → without [] l ≡ l
without_none [] = refl
without_none (i ∷ l) = ap (λ u. i ∷ u) (without_none l)

removable_found : (ds : List Id) (l : List Inst) (d : Id) (i : Inst) → AllRemovable ds l → is_id_in ds d ≡ true → find d l ≡ Some i → Removable i
removable_found ds [] d i h g e = absurd cc
removable_found ds (j ∷ l) d i h g e = by_test (same_id j.id d) refl e (removable_found ds l d i h.1 g)
  where
    by_test : (b : Bool) → same_id j.id d ≡ b → cond b (Some j) (find d l) ≡ Some i → (find d l ≡ Some i → Removable i) → Removable i
    by_test true t r more = subst Removable (some_is r) (h.0 (ap (is_id_in ds) (same_is j.id d t) ∙ g))
    by_test false t r more = more r

some_none : (us : List Use) → not (some us) ≡ true → us ≡ []
some_none [] e = refl
some_none (u ∷ us) e = absurd cc

none_some : (us : List Use) → us ≡ [] → not (some us) ≡ true
none_some us e = ap (λ vs. not (some vs)) e

pub find_some : (y : Id) (l : List Inst) → 1 ≤ times y l → (i : Inst) × (find y l ≡ Some i)
find_some y l h = by_find (find y l) refl
  where
    by_find : (o : Option Inst) → find y l ≡ o → (i : Inst) × (o ≡ Some i)
    by_find None e = let none = some_find y l e in absurd (omega (arith, none, h))
    by_find (Some i) e = (i, refl)

-- what is asked of what goes
pub record Going (c : Context) (ds : List Id) (l : List Inst) : Type 0 where
  pub once : AreOnce ds
  pub loose : Loose ds l
  pub removable : AllRemovable ds l
  pub stand : (y : Id) → is_id_in ds y ≡ true → times y l ≡ 1
  pub here : (y : Id) → is_id_in ds y ≡ true → around c y ≡ 0
  pub unused : (y : Id) → is_id_in ds y ≡ true → NoneAround c y

abbrev pub Goes : Context → List Id → List Inst → ℕ → Type 0
Goes c ds l n = (all_applied (removals n (plug c l) ds) (plug c l) ≡ plug c (without ds l)) × AllFit (removals n (plug c l) ds) (plug c l)

nothing_goes : (c : Context) (l : List Inst) (n : ℕ) → Goes c [] l n
nothing_goes c l zero = (ap (plug c) (sym (without_none l)), tt)
nothing_goes c l (suc n) = (ap (plug c) (sym (without_none l)), tt)

-- one that goes and is unused is removed, and then all holds of the others
module _ (c : Context) (ds : List Id) (l : List Inst) (g : Going c ds l) (x : Id) (goes : is_id_in ds x ≡ true) where
  own : times x l ≡ 1
  own = g.stand x goes

  pub removed_there : applied (Remove x) (plug c l) ≡ plug c (each (removing_edit x) l)
  removed_there = edited_plug c l x (removing_edit x) (removing_only x) (g.here x goes)

  was : (y : Id) → is_id_in (other_than x ds) y ≡ true → is_id_in ds y ≡ true
  was y r = other_was x y ds r

  apart : (y : Id) → is_id_in (other_than x ds) y ≡ true → same_id x y ≡ false
  apart y r = by_test (same_id x y) refl
    where
      by_test : (b : Bool) → same_id x y ≡ b → b ≡ false
      by_test true t = absurd (true_not_false (subst (λ v. is_id_in (other_than x ds) v ≡ true) (sym (same_is x y t)) r) (other_gone x ds g.once))
      by_test false t = refl

  pub others_go : Going c (other_than x ds) (each (removing_edit x) l)
  others_go = record {
    once = other_once x ds g.once;
    loose = loose_removed x ds l g.loose;
    removable = removable_removed x ds l g.removable;
    stand = λ y r. other_times x y l (apart y r) ∙ g.stand y (was y r);
    here = λ y r. g.here y (was y r);
    unused = λ y r. g.unused y (was y r);
  }

-- while some are left one is unused
pub one_free : (c : Context) (d : Id) (ds : List Id) (l : List Inst) → Going c (d ∷ ds) l → Greatest (plug c l) (d ∷ ds)
one_free c d ds l g = greatest_there (plug c l) (d ∷ ds) z.one z.goes free
  where
    z : Last (d ∷ ds) l
    z = last (d ∷ ds) l g.loose (standing (d ∷ ds) d l (head_in d ds) (let one = g.stand d (head_in d ds) in omega (arith, one)))

    free : is_unused (plug c l) z.one ≡ true
    free = none_some (uses_of z.one (funcs_of (plug c l).items)) (no_uses_plug c l z.one (g.unused z.one z.goes) (unused_in z.one l z.unused))

pub all_go : (c : Context) (n : ℕ) (ds : List Id) (l : List Inst) → length ds ≡ n → Going c ds l → Goes c ds l n
all_go c n [] l e g = nothing_goes c l n
all_go c zero (d ∷ ds) l e g = absurd (omega (arith, e))
all_go c (suc n) (d ∷ ds) l e g = by_greatest (one_free c d ds l g) (λ x. all_go c n (other_than x (d ∷ ds)) (each (removing_edit x) l))
  where
    by_greatest : Greatest (plug c l) (d ∷ ds) → ((x : Id) → length (other_than x (d ∷ ds)) ≡ n → Going c (other_than x (d ∷ ds)) (each (removing_edit x) l) → Goes c (other_than x (d ∷ ds)) (each (removing_edit x) l) n) →
        Goes c (d ∷ ds) l (suc n)
    by_greatest h more =
        let rest = more h.one (let long = other_length h.one (d ∷ ds) h.goes in omega (arith, long, e)) (others_go c (d ∷ ds) l g h.one h.goes) in (
          ap (λ o. all_applied (removing o (λ x. removals n (applied (Remove x) (plug c l)) (other_than x (d ∷ ds)))) (plug c l)) h.is
              ∙ ap (λ m. all_applied (removals n m (other_than h.one (d ∷ ds))) m) at
              ∙ rest.0 ∙ ap (plug c) (without_removed h.one (d ∷ ds) l h.goes),
          subst (λ o. AllFit (removing o (λ x. removals n (applied (Remove x) (plug c l)) (other_than x (d ∷ ds)))) (plug c l)) (sym h.is)
              (fits, subst (λ m. AllFit (removals n m (other_than h.one (d ∷ ds))) m) (sym at) rest.1),
        )
      where
        at : applied (Remove h.one) (plug c l) ≡ plug c (each (removing_edit h.one) l)
        at = removed_there c (d ∷ ds) l g h.one h.goes

        inst : (i : Inst) × (find h.one l ≡ Some i)
        inst = find_some h.one l (let one = g.stand h.one h.goes in omega (arith, one))

        fits : Fits (plug c l) (Remove h.one)
        fits = (
          (
            record { place = place_of c; block = l; inst = inst.0 },
            found_plug c l h.one inst.0 inst.1 (let near = g.here h.one h.goes in omega (arith, near)),
            removable_found (d ∷ ds) l h.one inst.0 g.removable h.goes inst.1,
          ),
          some_none (uses_of h.one (funcs_of (plug c l).items)) h.unused,
        )
