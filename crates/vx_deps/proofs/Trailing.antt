-- A trail back over a block passes what ends at where it began.
use Rattle.std.proofs.Common.{◌≡◌, refl, sym, ap, ◌∙◌, ℕ, zero, suc, ◌-◌, Bool, true, false, ◌||◌, Option, None, Some, List, [], ◌∷◌, ◌++◌, cond, drop, length, reverse, arith, ◌⊎◌, inl, inr, append-nil, subst}
use Rattle.std.proofs.lemmas.List.{reverse-append, drop-append-le, drop_at, map-append}
use Rattle.ir_types.specs.declared.id.Id.{Id}
use Rattle.ir_types.specs.declared.inst.Inst.{Inst}
use Rattle.ir_types.specs.Available.{same_id}
use Rattle.ir_types.proofs.Among.{among, Once, same_is, same_itself}
use Rattle.vx_view.specs.Answers.{find, before}
use Rattle.vx_view.proofs.Edits.{inst_ids}
use Rattle.vx_serial.specs.Window.{up_to}
use Rattle.vx_serial.specs.Near.{last_of}
use Rattle.vx_deps.specs.Reach.{ids_of, IsIn}
use Rattle.vx_deps.specs.Trails.{back}

no_none : {A : Type 0} {a : A} → None ≡ Some a → ⊥
no_none e = cc

some_is : {A : Type 0} {a b : A} → Some a ≡ Some b → a ≡ b
some_is e = cc

false_true : false ≡ true → ⊥
false_true e = cc

-- ---- what stands before one

-- it is the first, or what ends at it is what ends at the one before, and itself
abbrev Ends : Id → Inst → Option Id → Option Id → List Inst → Type 0
Ends x i last found insts =
    ((found ≡ last) × (up_to x insts ≡ i ∷ []))
    ⊎ ((y : Id) × (found ≡ Some y) × (up_to x insts ≡ up_to y insts ++ i ∷ []) × (among (inst_ids insts) y ≡ true))

pub apart : (x y : Id) (ys : List Id) → among ys x ≡ false → among ys y ≡ true → same_id x y ≡ false
apart x y ys e h = by_test (same_id x y) refl
  where
    by_test : (b : Bool) → same_id x y ≡ b → b ≡ false
    by_test false s = refl
    by_test true s = absurd (false_true (sym e ∙ ap (among ys) (same_is x y s) ∙ h))

or_right : (a b : Bool) → b ≡ true → (a || b) ≡ true
or_right true b h = refl
or_right false b h = h

or_left : (a b : Bool) → a ≡ true → (a || b) ≡ true
or_left true b h = refl
or_left false b h = absurd cc

module _ (x : Id) (i : Inst) where
  ends : (last : Option Id) (insts : List Inst) → Once (inst_ids insts) → find x insts ≡ Some i → Ends x i last (before x last insts) insts
  ends last [] o e = absurd (no_none e)
  ends last (j ∷ js) o e = by_test (same_id j.id x) e (λ r. ends (Some j.id) js o.1 r)
    where
      Here : Bool → Type 0
      Here b =
          ((cond b last (before x (Some j.id) js) ≡ last) × (j ∷ cond b [] (up_to x js) ≡ i ∷ []))
          ⊎ ((y : Id) × (cond b last (before x (Some j.id) js) ≡ Some y) × (j ∷ cond b [] (up_to x js) ≡ up_to y (j ∷ js) ++ i ∷ []) × (among (inst_ids (j ∷ js)) y ≡ true))

      first_only : up_to j.id (j ∷ js) ≡ j ∷ []
      first_only = ap (λ b. j ∷ cond b [] (up_to j.id js)) (same_itself j.id)

      later : Ends x i (Some j.id) (before x (Some j.id) js) js → Here false
      later (inl r) = inr (j.id, r.0, ap (λ l. j ∷ l) r.1 ∙ ap (λ l. l ++ i ∷ []) (sym first_only), or_left (same_id j.id j.id) (among (inst_ids js) j.id) (same_itself j.id))
      later (inr r) =
          inr (r.0, r.1, ap (λ l. j ∷ l) r.2 ∙ sym (ap (λ b. (j ∷ cond b [] (up_to r.0 js)) ++ i ∷ []) (apart j.id r.0 (inst_ids js) o.0 r.3)), or_right (same_id j.id r.0) (among (inst_ids js) r.0) r.3)

      by_test : (b : Bool) → cond b (Some j) (find x js) ≡ Some i → (find x js ≡ Some i → Ends x i (Some j.id) (before x (Some j.id) js) js) → Here b
      by_test true r more = inl (refl, ap (λ k. k ∷ []) (some_is r))
      by_test false r more = later (more r)

-- ---- the last of a list, one more

none_of : (xs : List Inst) → last_of 0 xs ≡ []
none_of xs = ap (drop (length xs - 0)) (sym (append-nil xs)) ∙ drop_at xs [] (length xs - 0) (omega arith)

one_more : (n : ℕ) (xs : List Inst) (i : Inst) → last_of (suc n) (xs ++ i ∷ []) ≡ last_of n xs ++ i ∷ []
one_more n xs i = ap (λ k. drop k (xs ++ i ∷ [])) (counts (length-is xs)) ∙ drop-append-le (length xs - n) xs (i ∷ []) (omega arith)
  where
    length-is : (ys : List Inst) → length (ys ++ i ∷ []) ≡ suc (length ys)
    length-is [] = refl
    length-is (y ∷ ys) = ap suc (length-is ys)

    counts : length (xs ++ i ∷ []) ≡ suc (length xs) → length (xs ++ i ∷ []) - suc n ≡ length xs - n
    counts h = omega arith

-- ---- the whole trail

back_none : (n : ℕ) (insts : List Inst) → back n insts None ≡ []
back_none zero insts = refl
back_none (suc n) insts = refl

module _ (insts : List Inst) (once : Once (inst_ids insts)) where
  found_in : (y : Id) (l : List Inst) → among (inst_ids l) y ≡ true → IsIn l (Some y)
  found_in y [] h = absurd (false_true h)
  found_in y (j ∷ js) h = by_test (same_id j.id y) h (λ r. found_in y js r)
    where
      by_test : (b : Bool) → (b || among (inst_ids js) y) ≡ true → (among (inst_ids js) y ≡ true → IsIn js (Some y)) → (i : Inst) × (cond b (Some j) (find y js) ≡ Some i)
      by_test true r more = (j, refl)
      by_test false r more = more r

  -- what stands before an instruction of the block is one
  pub before_in : (x : Id) → IsIn insts (Some x) → IsIn insts (before x None insts)
  before_in x h = by_end (before x None insts) (ends x h.0 None insts once h.1)
    where
      by_end : (found : Option Id) → Ends x h.0 None found insts → IsIn insts found
      by_end None e = tt
      by_end (Some z) (inl e) = absurd (no_none (sym e.0))
      by_end (Some z) (inr e) = subst (λ v. IsIn insts (Some v)) (sym (some_is e.1)) (found_in e.0 insts e.3)

  id_is : (x : Id) (i : Inst) (l : List Inst) → find x l ≡ Some i → i.id ≡ x
  id_is x i [] e = absurd (no_none e)
  id_is x i (j ∷ js) e = by_test (same_id j.id x) refl e (λ r. id_is x i js r)
    where
      by_test : (b : Bool) → same_id j.id x ≡ b → cond b (Some j) (find x js) ≡ Some i → (find x js ≡ Some i → i.id ≡ x) → i.id ≡ x
      by_test true s r more = ap (λ (k : Inst). k.id) (sym (some_is r)) ∙ same_is j.id x s
      by_test false s r more = more r

  -- the ids passed, from their end, are those of the last instructions that end where it began
  pub back_is : (n : ℕ) (x : Id) → IsIn insts (Some x) → reverse (back n insts (Some x)) ≡ ids_of (last_of n (up_to x insts))
  back_is zero x h = ap ids_of (sym (none_of (up_to x insts)))
  back_is (suc n) x h = by_end (before x None insts) (ends x h.0 None insts once h.1) (back_is n)
    where
      i : Inst
      i = h.0

      by_end : (found : Option Id) → Ends x i None found insts → ((y : Id) → IsIn insts (Some y) → reverse (back n insts (Some y)) ≡ ids_of (last_of n (up_to y insts))) →
          reverse (x ∷ back n insts found) ≡ ids_of (last_of (suc n) (up_to x insts))
      by_end found (inl e) more =
          ap (λ u. reverse (x ∷ back n insts u)) e.0 ∙ ap (λ l. reverse (x ∷ l)) (back_none n insts) ∙ ap (λ v. v ∷ []) (sym (id_is x i insts h.1))
          ∙ sym (ap (λ l. ids_of (last_of (suc n) l)) e.1 ∙ ap ids_of (one_more n [] i) ∙ ap (λ l. ids_of (l ++ i ∷ [])) (nothing n))
        where
          zero_less : (k : ℕ) → 0 - k ≡ 0
          zero_less k = omega arith

          nothing : (k : ℕ) → last_of {A = Inst} k [] ≡ []
          nothing k = ap (λ v. drop {A = Inst} v []) (zero_less k)
      by_end found (inr e) more =
          ap (λ u. reverse (x ∷ back n insts u)) e.1 ∙ reverse-append (x ∷ []) (back n insts (Some e.0)) ∙ ap (λ l. l ++ x ∷ []) (more e.0 (found_in e.0 insts e.3))
          ∙ ap (λ v. ids_of (last_of n (up_to e.0 insts)) ++ v ∷ []) (sym (id_is x i insts h.1)) ∙ sym (map-append (λ (k : Inst). k.id) (last_of n (up_to e.0 insts)) (i ∷ []))
          ∙ sym (ap (λ l. ids_of (last_of (suc n) l)) e.2 ∙ ap ids_of (one_more n (up_to e.0 insts) i))
