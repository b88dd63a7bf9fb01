-- What is inserted, replaced and moved before one instruction, along a new window: the changes fit one after another, and the window is
-- written there.
use Rattle.std.proofs.Common.{◌≡◌, refl, sym, ap, ◌∙◌, subst, ℕ, suc, ◌+◌, ◌<◌, ◌≤◌, Bool, true, false, Some, List, [], ◌∷◌, ◌++◌, cond, nat_eq, arith, length, append_assoc}
use Rattle.std.specs.Bool.{⊤}
use Rattle.std.specs.List.{All}
use Rattle.std.proofs.lemmas.List.Elements.{All-nil, All-cons}
use Rattle.ir_types.specs.declared.id.Id.{Id}
use Rattle.ir_types.specs.declared.opd.Opd.{Opd}
use Rattle.ir_types.specs.declared.opd.Opd.TheVariants.{Val, Lit, Sym}
use Rattle.ir_types.specs.declared.inst.Inst.{Inst}
use Rattle.ir_types.specs.declared.module.Module.{Module}
use Rattle.ir_types.specs.Available.{same_id}
use Rattle.ir_types.specs.Formed.{is_phi, is_terminator, ids_of}
use Rattle.ir_types.proofs.Formed.{Every}
use Rattle.ir_types.proofs.Among.{same_is, same_itself, swapped}
use Rattle.vx_view.specs.declared.change.Change.{Change}
use Rattle.vx_view.specs.declared.change.Change.TheVariants.{Insert, Move, Replace}
use Rattle.vx_view.specs.Answers.{find, found}
use Rattle.vx_view.specs.Changes.{Edit, each, edited, inserting, removing, putting, moved, applied, all_applied, Fits, AllFit, IsThere, Stands, IsNoPhi}
use Rattle.vx_view.proofs.Edits.{each-append}
use Rattle.sb_uses.specs.Totals.{id_times}
use Rattle.vx_serial.specs.Rewriting.{is_created, is_id_in}
use Rattle.vx_serial.specs.Changing.{step_by, steps}
use Rattle.rf_rewrite.proofs.Contexts.{Context, plug, one_of, times, times_append, around, place_of, ids_plug, neither_there, either_there, found_plug, Only, each_none, edited_plug}

-- ---- lists

pub find_append : (x : Id) (l k : List Inst) → times x l ≡ 0 → find x (l ++ k) ≡ find x k
find_append x [] k e = refl
find_append x (i ∷ is) k e = by_test (same_id i.id x) e (find_append x is k)
  where
    by_test : (b : Bool) → cond b 1 0 + times x is ≡ 0 → (times x is ≡ 0 → find x (is ++ k) ≡ find x k) → cond b (Some i) (find x (is ++ k)) ≡ find x k
    by_test true r more = absurd (omega (arith, r))
    by_test false r more = more (omega (arith, r))

pub find_front : (x : Id) (l k : List Inst) (i : Inst) → find x l ≡ Some i → find x (l ++ k) ≡ Some i
find_front x [] k i e = absurd cc
find_front x (j ∷ is) k i e = by_test (same_id j.id x) e (find_front x is k i)
  where
    by_test : (b : Bool) → cond b (Some j) (find x is) ≡ Some i → (find x is ≡ Some i → find x (is ++ k) ≡ Some i) → cond b (Some j) (find x (is ++ k)) ≡ Some i
    by_test true r more = r
    by_test false r more = more r

pub find_times : (x : Id) (l : List Inst) (i : Inst) → find x l ≡ Some i → 1 ≤ times x l
find_times x [] i e = absurd cc
find_times x (j ∷ is) i e = by_test (same_id j.id x) e (find_times x is i)
  where
    by_test : (b : Bool) → cond b (Some j) (find x is) ≡ Some i → (find x is ≡ Some i → 1 ≤ times x is) → 1 ≤ cond b 1 0 + times x is
    by_test true r more = omega (arith)
    by_test false r more = let rest = more r in omega (arith, rest)

pub find_id : (x : Id) (l : List Inst) (i : Inst) → find x l ≡ Some i → same_id i.id x ≡ true
find_id x [] i e = absurd cc
find_id x (j ∷ is) i e = by_test (same_id j.id x) refl e (find_id x is i)
  where
    some_is : {p q : Inst} → Some p ≡ Some q → p ≡ q
    some_is e = cc

    by_test : (b : Bool) → same_id j.id x ≡ b → cond b (Some j) (find x is) ≡ Some i → (find x is ≡ Some i → same_id i.id x ≡ true) → same_id i.id x ≡ true
    by_test true t r more = ap (λ (v : Inst). same_id v.id x) (sym (some_is r)) ∙ t
    by_test false t r more = more r

pub one_itself : (x : Id) → one_of x x ≡ 1
one_itself x = ap (λ b. cond b 1 0) (same_itself x)

-- the edits

pub inserting_only : (x : Id) (new : Inst) → Only x (inserting x new)
inserting_only x new i t = ap (λ b. cond b (new ∷ i ∷ []) (i ∷ [])) t

pub removing_only : (x : Id) → Only x (removing x)
removing_only x i t = ap (λ b. cond b [] (i ∷ [])) t

pub putting_only : (new : Inst) → Only new.id (putting new)
putting_only new i t = ap (λ b. cond b (new ∷ []) (i ∷ [])) t

-- one instruction before the one of an id
pub insert_at : (new x : Inst) (front zs : List Inst) → times x.id front ≡ 0 → times x.id zs ≡ 0 → each (inserting x.id new) (front ++ x ∷ zs) ≡ front ++ new ∷ x ∷ zs
insert_at new x front zs e f =
    each-append (inserting x.id new) front (x ∷ zs)
    ∙ ap (λ u. u ++ (inserting x.id new x ++ each (inserting x.id new) zs)) (each_none x.id (inserting x.id new) (inserting_only x.id new) front e)
    ∙ ap (λ b. front ++ (cond b (new ∷ x ∷ []) (x ∷ []) ++ each (inserting x.id new) zs)) (same_itself x.id)
    ∙ ap (λ u. front ++ new ∷ x ∷ u) (each_none x.id (inserting x.id new) (inserting_only x.id new) zs f)

pub removed_times : (x y : Id) (l : List Inst) (i : Inst) → find x l ≡ Some i → times x l ≤ 1 → times y (each (removing x) l) + one_of x y ≡ times y l
removed_times x y [] i e h = absurd cc
removed_times x y (j ∷ is) i e h = by_test (same_id j.id x) refl e h (removed_times x y is i)
  where
    by_test : (b : Bool) → same_id j.id x ≡ b → cond b (Some j) (find x is) ≡ Some i → cond b 1 0 + times x is ≤ 1 →
        (find x is ≡ Some i → times x is ≤ 1 → times y (each (removing x) is) + one_of x y ≡ times y is) → times y (cond b [] (j ∷ []) ++ each (removing x) is) + one_of x y ≡ one_of j.id y + times y is
    by_test true t r g more =
        let none = ap (times y) (each_none x (removing x) (removing_only x) is (omega (arith, g))) in
        let same = ap (λ v. one_of v y) (same_is j.id x t) in
        omega (arith, none, same)
    by_test false t r g more = let rest = more r (omega (arith, g)) in omega (arith, rest)

pub put_times : (new : Inst) (y : Id) (l : List Inst) → times y (each (putting new) l) ≡ times y l
put_times new y [] = refl
put_times new y (j ∷ is) = by_test (same_id j.id new.id) refl (put_times new y is)
  where
    by_test : (b : Bool) → same_id j.id new.id ≡ b → times y (each (putting new) is) ≡ times y is → times y (cond b (new ∷ []) (j ∷ []) ++ each (putting new) is) ≡ one_of j.id y + times y is
    by_test true t r = let same = ap (λ v. one_of v y) (same_is j.id new.id t) in omega (arith, r, same)
    by_test false t r = omega (arith, r)

pub put_found : (new : Inst) (l : List Inst) (i : Inst) → find new.id l ≡ Some i → find new.id (each (putting new) l) ≡ Some new
put_found new [] i e = absurd cc
put_found new (j ∷ is) i e = by_test (same_id j.id new.id) refl e (put_found new is i)
  where
    by_test : (b : Bool) → same_id j.id new.id ≡ b → cond b (Some j) (find new.id is) ≡ Some i → (find new.id is ≡ Some i → find new.id (each (putting new) is) ≡ Some new) →
        find new.id (cond b (new ∷ []) (j ∷ []) ++ each (putting new) is) ≡ Some new
    by_test true t r more = ap (λ b. cond b (Some new) (find new.id (each (putting new) is))) (same_itself new.id)
    by_test false t r more = ap (λ b. cond b (Some j) (find new.id (each (putting new) is))) t ∙ more r

pub put_removed : (new : Inst) (l : List Inst) → each (removing new.id) (each (putting new) l) ≡ each (removing new.id) l
put_removed new [] = refl
put_removed new (j ∷ is) = by_test (same_id j.id new.id) refl (put_removed new is)
  where
    by_test : (b : Bool) → same_id j.id new.id ≡ b → each (removing new.id) (each (putting new) is) ≡ each (removing new.id) is →
        each (removing new.id) (cond b (new ∷ []) (j ∷ []) ++ each (putting new) is) ≡ cond b [] (j ∷ []) ++ each (removing new.id) is
    by_test true t r = ap (λ b. cond b [] (new ∷ []) ++ each (removing new.id) (each (putting new) is)) (same_itself new.id) ∙ r
    by_test false t r = ap (λ b. cond b [] (j ∷ []) ++ each (removing new.id) (each (putting new) is)) t ∙ ap (λ u. j ∷ u) r

-- ---- what is asked of a new window

-- an operand is there, where so many globals and ids are
abbrev pub Known : ℕ → (Id → ℕ) → Opd → Type 0
Known globals known (Lit l) = ⊤
Known globals known (Sym g) = g < globals
Known globals known (Val v) = 1 ≤ known v

abbrev pub Moves : Inst → Type 0
Moves i = (is_phi i.op ≡ false) × (is_terminator i.op ≡ false)

module _ (globals region : ℕ) (lanes : List Id) where
  abbrev pub FineOf : Bool → Bool → (Id → ℕ) → List Inst → Inst → Type 0
  FineOf true lane known rest i = (known i.id ≡ 0) × Every (Known globals known) i.opds
  FineOf false true known rest i = (j : Inst) × (find i.id rest ≡ Some j) × (j.ty ≡ i.ty) × Every (Known globals known) i.opds × Moves i
  FineOf false false known rest i = (find i.id rest ≡ Some i) × Moves i

  abbrev pub next_known : Bool → Inst → (Id → ℕ) → Id → ℕ
  next_known true i known y = one_of i.id y + known y
  next_known false i known y = known y

  abbrev pub next_rest : Bool → Inst → List Inst → List Inst
  next_rest true i rest = rest
  next_rest false i rest = each (removing i.id) rest

  abbrev pub Fine : (Id → ℕ) → List Inst → List Inst → Type 0
  Fine known rest [] = ⊤
  Fine known rest (i ∷ is) =
      FineOf (is_created region i) (is_id_in lanes i.id) known rest i × Fine (next_known (is_created region i) i known) (next_rest (is_created region i) i rest) is

  -- what is left of the old window
  abbrev pub left : List Inst → List Inst → List Inst
  left [] rest = rest
  left (i ∷ is) rest = left is (next_rest (is_created region i) i rest)

  -- ---- the induction, before an instruction x of a block

  module _ (c : Context) (fs : List Inst) (x : Inst) (zs : List Inst) (plain : is_phi x.op ≡ false) (all : length c.globals ≡ globals) where
    abbrev pub line : List Inst → List Inst → List Inst
    line rest done = fs ++ (rest ++ (done ++ x ∷ zs))

    abbrev pub state : List Inst → List Inst → Module
    state rest done = plug c (line rest done)

    abbrev pub number : List Inst → List Inst → Id → ℕ
    number rest done y = around c y + (times y fs + (times y rest + (times y done + (one_of x.id y + times y zs))))

    times_line : (rest done : List Inst) (y : Id) → times y (line rest done) ≡ times y fs + (times y rest + (times y done + (one_of x.id y + times y zs)))
    times_line rest done y =
        let one = times_append y fs (rest ++ (done ++ x ∷ zs)) in
        let two = times_append y rest (done ++ x ∷ zs) in
        let three = times_append y done (x ∷ zs) in
        omega (arith, one, two, three)

    pub numbers : (rest done : List Inst) (y : Id) → id_times y (ids_of (state rest done)) ≡ number rest done y
    numbers rest done y = let ids = ids_plug c (line rest done) y in let own = times_line rest done y in omega (arith, ids, own)

    there_one : (rest done : List Inst) (known : Id → ℕ) → ((y : Id) → number rest done y ≡ known y) → (o : Opd) → Known globals known o → IsThere (state rest done) o
    there_one rest done known are (Lit l) h = tt
    there_one rest done known are (Sym g) h = subst (λ n. g < n) (sym all) h
    there_one rest done known are (Val v) h =
        let ids = numbers rest done v in
        let is = are v in
        either_there (state rest done) v (omega (arith, ids, is, h))

    there_all : (rest done : List Inst) (known : Id → ℕ) → ((y : Id) → number rest done y ≡ known y) → (os : List Opd) → Every (Known globals known) os → All (IsThere (state rest done)) os
    there_all rest done known are [] h = All-nil (IsThere (state rest done))
    there_all rest done known are (o ∷ os) h =
        All-cons (IsThere (state rest done)) o os (there_one rest done known are o h.0) (there_all rest done known are os h.1)

    -- the instruction x is found
    x_found : (rest done : List Inst) → number rest done x.id ≤ 1 → found (state rest done) x.id ≡ Some (record { place = place_of c; block = line rest done; inst = x })
    x_found rest done le = found_plug c (line rest done) x.id x finds (omega (arith, le, one))
      where
        one : one_of x.id x.id ≡ 1
        one = one_itself x.id

        here : cond (same_id x.id x.id) (Some x) (find x.id zs) ≡ Some x
        here = ap (λ b. cond b (Some x) (find x.id zs)) (same_itself x.id)

        finds : find x.id (line rest done) ≡ Some x
        finds =
            find_append x.id fs (rest ++ (done ++ x ∷ zs)) (omega (arith, le, one))
            ∙ find_append x.id rest (done ++ x ∷ zs) (omega (arith, le, one))
            ∙ find_append x.id done (x ∷ zs) (omega (arith, le, one))
            ∙ here

    x_stands : (rest done : List Inst) → number rest done x.id ≤ 1 → Stands (state rest done) x.id IsNoPhi
    x_stands rest done le = (record { place = place_of c; block = line rest done; inst = x }, x_found rest done le, plain)

    -- what is found in what is left of the old window
    rest_found : (rest done : List Inst) (y : Id) (i : Inst) → find y rest ≡ Some i → number rest done y ≤ 1 →
        found (state rest done) y ≡ Some (record { place = place_of c; block = line rest done; inst = i })
    rest_found rest done y i e le =
        let some = find_times y rest i e in
        found_plug c (line rest done) y i
        (find_append y fs (rest ++ (done ++ x ∷ zs)) (omega (arith, le, some)) ∙ find_front y rest (done ++ x ∷ zs) i e)
        (omega (arith, le, some))

    reassociated : (rest done t : List Inst) → fs ++ (rest ++ (done ++ t)) ≡ (fs ++ (rest ++ done)) ++ t
    reassociated rest done t = ap (λ u. fs ++ u) (sym (append_assoc rest done t)) ∙ sym (append_assoc fs (rest ++ done) t)

    -- an instruction comes before x
    inserted : (new : Inst) (rest done : List Inst) → number rest done x.id ≤ 1 → edited (inserting x.id new) (state rest done) ≡ state rest (done ++ new ∷ [])
    inserted new rest done le =
        edited_plug c (line rest done) x.id (inserting x.id new) (inserting_only x.id new) (omega (arith, le, one))
        ∙ ap (plug c) (ap (each (inserting x.id new)) (reassociated rest done (x ∷ zs))
        ∙ insert_at new x (fs ++ (rest ++ done)) zs (omega (arith, le, one, front)) (omega (arith, le, one))
        ∙ sym (reassociated rest done (new ∷ x ∷ zs))
        ∙ ap (λ u. fs ++ (rest ++ u)) (sym (append_assoc done (new ∷ []) (x ∷ zs))))
      where
        one : one_of x.id x.id ≡ 1
        one = one_itself x.id

        front : times x.id (fs ++ (rest ++ done)) ≡ times x.id fs + (times x.id rest + times x.id done)
        front = let a = times_append x.id fs (rest ++ done) in let b = times_append x.id rest done in omega (arith, a, b)

    -- an edit of what is left
    edited_rest : (y : Id) (f : Edit) → Only y f → (rest done : List Inst) → 1 ≤ times y rest → number rest done y ≤ 1 → edited f (state rest done) ≡ state (each f rest) done
    edited_rest y f only rest done some le =
        edited_plug c (line rest done) y f only (omega (arith, some, le))
        ∙ ap (plug c) (
        each-append f fs (rest ++ (done ++ x ∷ zs))
        ∙ ap (λ u. u ++ each f (rest ++ (done ++ x ∷ zs))) (each_none y f only fs (omega (arith, some, le)))
        ∙ ap (λ u. fs ++ u) (
        each-append f rest (done ++ x ∷ zs)
        ∙ ap (λ u. each f rest ++ u) (each_none y f only (done ++ x ∷ zs) (omega (arith, some, le, end)))))
      where
        end : times y (done ++ x ∷ zs) ≡ times y done + (one_of x.id y + times y zs)
        end = times_append y done (x ∷ zs)

    removed_number : (i : Inst) (rest done : List Inst) → find i.id rest ≡ Some i → number rest done i.id ≤ 1 → (y : Id) → number (each (removing i.id) rest) (done ++ i ∷ []) y ≡ number rest done y
    removed_number i rest done e le y =
        let gone = removed_times i.id y rest i e (omega (arith, le)) in
        let more = times_append y done (i ∷ []) in
        omega (arith, gone, more)

    move_is : (i : Inst) (rest done : List Inst) → find i.id rest ≡ Some i → number rest done i.id ≤ 1 → number rest done x.id ≤ 1 →
        applied (Move i.id x.id) (state rest done) ≡ state (each (removing i.id) rest) (done ++ i ∷ [])
    move_is i rest done e le le_x =
        ap (moved x.id (state rest done)) (rest_found rest done i.id i e le)
        ∙ ap (edited (inserting x.id i)) (edited_rest i.id (removing i.id) (removing_only i.id) rest done (find_times i.id rest i e) le)
        ∙ inserted i (each (removing i.id) rest) done fewer
      where
        fewer : number (each (removing i.id) rest) done x.id ≤ 1
        fewer = let gone = removed_times i.id x.id rest i e (let l = le in omega (arith, l)) in omega (arith, gone, le_x)

    -- an instruction of what is left goes before x
    module _ (i : Inst) (moves : Moves i) where
      other : (rest done : List Inst) → find i.id rest ≡ Some i → number rest done i.id ≤ 1 → same_id i.id x.id ≡ false
      other rest done e le = by_test (same_id i.id x.id) refl
        where
          some : 1 ≤ times i.id rest
          some = find_times i.id rest i e

          by_test : (b : Bool) → same_id i.id x.id ≡ b → b ≡ false
          by_test true t =
              let same : one_of x.id i.id ≡ 1 = ap (λ b. cond b 1 0) (swapped x.id i.id ∙ t) in
              absurd (omega (arith, some, le, same))
          by_test false t = refl

      move_fits : (rest done : List Inst) → find i.id rest ≡ Some i → ((y : Id) → number rest done y ≤ 1) → Fits (state rest done) (Move i.id x.id)
      move_fits rest done e le = (
        (
          record { place = place_of c; block = line rest done; inst = x },
          x_found rest done (le x.id),
          (plain, (record { place = place_of c; block = line rest done; inst = i }, rest_found rest done i.id i e (le i.id), (refl, moves.0, moves.1))),
        ),
        other rest done e (le i.id),
      )

    fits_then : (c1 : Change) (cs : List Change) (m n : Module) → Fits m c1 → applied c1 m ≡ n → AllFit cs n → AllFit (c1 ∷ cs) m
    fits_then c1 cs m n f e h = (f, subst (AllFit cs) (sym e) h)

    -- the changes along a new window
    pub window_is : (is rest done : List Inst) (known : Id → ℕ) → ((y : Id) → number rest done y ≡ known y) → ((y : Id) → known y ≤ 1) → Fine known rest is →
        (all_applied (steps region lanes x.id is) (state rest done) ≡ state (left is rest) (done ++ is)) × AllFit (steps region lanes x.id is) (state rest done)
    window_is [] rest done known are le fine = (ap (state rest) (sym (append_nil done)), tt)
      where
        append_nil : (l : List Inst) → l ++ [] ≡ l
        append_nil [] = refl
        append_nil (j ∷ l) = ap (λ u. j ∷ u) (append_nil l)
    window_is (i ∷ is) rest done known are le fine =
        by_case (is_created region i) (is_id_in lanes i.id) fine.0 fine.1 (λ r d k a b f. window_is is r d k a b f)
      where
        less : (y : Id) → number rest done y ≤ 1
        less y = subst (λ n. n ≤ 1) (sym (are y)) (le y)

        More : Type 0
        More = (r d : List Inst) (k : Id → ℕ) → ((y : Id) → number r d y ≡ k y) → ((y : Id) → k y ≤ 1) → Fine k r is →
            (all_applied (steps region lanes x.id is) (state r d) ≡ state (left is r) (d ++ is)) × AllFit (steps region lanes x.id is) (state r d)

        by_case : (b lane : Bool) → FineOf b lane known rest i → Fine (next_known b i known) (next_rest b i rest) is → More →
            (all_applied (step_by b lane x.id i ++ steps region lanes x.id is) (state rest done) ≡ state (left is (next_rest b i rest)) (done ++ i ∷ is))
            × AllFit (step_by b lane x.id i ++ steps region lanes x.id is) (state rest done)
        by_case true lane f more_fine more =
            let at = inserted i rest done (less x.id) in
            let then = more rest (done ++ i ∷ []) (λ y. one_of i.id y + known y) numbers_then le_then more_fine in (
              ap (all_applied (steps region lanes x.id is)) at ∙ then.0 ∙ ap (state (left is rest)) (append_assoc done (i ∷ []) is),
              fits_then (Insert x.id i) (steps region lanes x.id is) (state rest done) (state rest (done ++ i ∷ []))
                  (x_stands rest done (less x.id), neither_there (state rest done) i.id (numbers rest done i.id ∙ are i.id ∙ f.0), there_all rest done known are i.opds f.1)
                  at then.1,
            )
          where
            numbers_then : (y : Id) → number rest (done ++ i ∷ []) y ≡ one_of i.id y + known y
            numbers_then y = let more = times_append y done (i ∷ []) in let now = are y in omega (arith, more, now)

            le_then : (y : Id) → one_of i.id y + known y ≤ 1
            le_then y = by_test (same_id i.id y) refl
              where
                by_test : (b : Bool) → same_id i.id y ≡ b → cond b 1 0 + known y ≤ 1
                by_test true t = let none : known y ≡ 0 = ap known (sym (same_is i.id y t)) ∙ f.0 in omega (arith, none)
                by_test false t = let l = le y in omega (arith, l)
        by_case false false f more_fine more =
            let at = move_is i rest done f.0 (less i.id) (less x.id) in
            let then = more (each (removing i.id) rest) (done ++ i ∷ []) known (λ y. removed_number i rest done f.0 (less i.id) y ∙ are y) le more_fine in (
              ap (all_applied (steps region lanes x.id is)) at ∙ then.0 ∙ ap (state (left is (each (removing i.id) rest))) (append_assoc done (i ∷ []) is),
              fits_then (Move i.id x.id) (steps region lanes x.id is) (state rest done) (state (each (removing i.id) rest) (done ++ i ∷ []))
                  (move_fits i f.1 rest done f.0 less) at then.1,
            )
        by_case false true f more_fine more =
            let put = edited_rest i.id (putting i) (putting_only i) rest done (find_times i.id rest f.0 f.1) (less i.id) in
            let move = move_is i (each (putting i) rest) done finds (less_put i.id) (less_put x.id) in
            let same = ap (λ u. state u (done ++ i ∷ [])) (put_removed i rest) in
            let then = more (each (removing i.id) rest) (done ++ i ∷ []) known numbers_then le more_fine in (
              ap (λ m. all_applied (steps region lanes x.id is) (applied (Move i.id x.id) m)) put
                  ∙ ap (all_applied (steps region lanes x.id is)) (move ∙ same) ∙ then.0 ∙ ap (state (left is (each (removing i.id) rest))) (append_assoc done (i ∷ []) is),
              fits_then (Replace i) (Move i.id x.id ∷ steps region lanes x.id is) (state rest done) (state (each (putting i) rest) done)
                  ((record { place = place_of c; block = line rest done; inst = f.0 }, rest_found rest done i.id f.0 f.1 (less i.id), f.2), there_all rest done known are i.opds f.3)
                  put
                  (fits_then (Move i.id x.id) (steps region lanes x.id is) (state (each (putting i) rest) done) (state (each (removing i.id) rest) (done ++ i ∷ []))
                  (move_fits i f.4 (each (putting i) rest) done finds less_put) (move ∙ same) then.1),
            )
          where
            finds : find i.id (each (putting i) rest) ≡ Some i
            finds = put_found i rest f.0 f.1

            less_put : (y : Id) → number (each (putting i) rest) done y ≤ 1
            less_put y = let same = put_times i y rest in let all = less y in omega (arith, same, all)

            numbers_then : (y : Id) → number (each (removing i.id) rest) (done ++ i ∷ []) y ≡ known y
            numbers_then y =
                let gone = removed_times i.id y rest f.0 f.1 (let l = less i.id in omega (arith, l)) in
                let more = times_append y done (i ∷ []) in
                let now = are y in
                omega (arith, gone, more, now)

    -- ---- where only what was there stands once, the changes lead there too, though they need not fit

    abbrev pub AlongOf : Bool → Bool → List Inst → Inst → Type 0
    AlongOf true lane rest i = ⊤
    AlongOf false true rest i = (j : Inst) × (find i.id rest ≡ Some j)
    AlongOf false false rest i = find i.id rest ≡ Some i

    abbrev pub Along : List Inst → List Inst → Type 0
    Along rest [] = ⊤
    Along rest (i ∷ is) = AlongOf (is_created region i) (is_id_in lanes i.id) rest i × Along (next_rest (is_created region i) i rest) is

    abbrev pub FewOld : List Inst → List Inst → Type 0
    FewOld rest done = (y : Id) → nat_eq y.region (suc region) ≡ false → number rest done y ≤ 1

    pub window_leads : (is rest done : List Inst) → nat_eq x.id.region (suc region) ≡ false → FewOld rest done → Along rest is →
        all_applied (steps region lanes x.id is) (state rest done) ≡ state (left is rest) (done ++ is)
    window_leads [] rest done old few along = ap (state rest) (sym (append_nil done))
      where
        append_nil : (l : List Inst) → l ++ [] ≡ l
        append_nil [] = refl
        append_nil (j ∷ l) = ap (λ u. j ∷ u) (append_nil l)
    window_leads (i ∷ is) rest done old few along =
        by_case (is_created region i) refl (is_id_in lanes i.id) along.0 along.1 (λ r d f a. window_leads is r d old f a)
      where
        More : Type 0
        More = (r d : List Inst) → FewOld r d → Along r is → all_applied (steps region lanes x.id is) (state r d) ≡ state (left is r) (d ++ is)

        few_removed : (l : List Inst) (j : Inst) → find i.id l ≡ Some j → FewOld l done → nat_eq i.id.region (suc region) ≡ false → FewOld (each (removing i.id) l) (done ++ i ∷ [])
        few_removed l j e h own y o =
            let gone = removed_times i.id y l j e (let le = h i.id own in omega (arith, le)) in
            let more = times_append y done (i ∷ []) in
            let le = h y o in
            omega (arith, gone, more, le)

        by_case : (b : Bool) → is_created region i ≡ b → (lane : Bool) → AlongOf b lane rest i → Along (next_rest b i rest) is → More →
            all_applied (step_by b lane x.id i ++ steps region lanes x.id is) (state rest done) ≡ state (left is (next_rest b i rest)) (done ++ i ∷ is)
        by_case true e lane f rest_along more =
            ap (all_applied (steps region lanes x.id is)) (inserted i rest done (few x.id old)) ∙ more rest (done ++ i ∷ []) few_then rest_along ∙ ap (state (left is rest)) (append_assoc done (i ∷ []) is)
          where
            few_then : FewOld rest (done ++ i ∷ [])
            few_then y o = let more = times_append y done (i ∷ []) in let le = few y o in let none = other (same_id i.id y) refl in omega (arith, more, le, none)
              where
                true_false : true ≡ false → ⊥
                true_false h = cc

                count : Bool → ℕ
                count b = cond b 1 0

                other : (b : Bool) → same_id i.id y ≡ b → count b ≡ 0
                other true t = absurd (true_false (sym e ∙ (ap (λ (v : Id). nat_eq v.region (suc region)) (same_is i.id y t) ∙ o)))
                other false t = refl
        by_case false e false f rest_along more =
            ap (all_applied (steps region lanes x.id is)) (move_is i rest done f (few i.id e) (few x.id old))
            ∙ more (each (removing i.id) rest) (done ++ i ∷ []) (few_removed rest i f few e) rest_along
            ∙ ap (state (left is (each (removing i.id) rest))) (append_assoc done (i ∷ []) is)
        by_case false e true f rest_along more =
            ap (λ m. all_applied (steps region lanes x.id is) (applied (Move i.id x.id) m)) (edited_rest i.id (putting i) (putting_only i) rest done (find_times i.id rest f.0 f.1) (few i.id e))
            ∙ ap (all_applied (steps region lanes x.id is)) (
            move_is i (each (putting i) rest) done (put_found i rest f.0 f.1) (few_put i.id e) (few_put x.id old) ∙ ap (λ u. state u (done ++ i ∷ [])) (put_removed i rest))
            ∙ more (each (removing i.id) rest) (done ++ i ∷ []) (few_removed rest f.0 f.1 few e) rest_along
            ∙ ap (state (left is (each (removing i.id) rest))) (append_assoc done (i ∷ []) is)
          where
            few_put : FewOld (each (putting i) rest) done
            few_put y o = let same = put_times i y rest in let le = few y o in omega (arith, same, le)
