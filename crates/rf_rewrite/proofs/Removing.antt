-- The removals go on lists as they go on the module: what is left is used by what is left alone.
use Rattle.std.proofs.Common.{◌≡◌, refl, sym, ap, ◌∙◌, ℕ, zero, suc, ◌≤◌, Bool, true, false, not, ◌||◌, Option, None, Some, List, [], ◌∷◌, ◌++◌, map, cond, arith}
use Rattle.ir_types.specs.declared.id.Id.{Id}
use Rattle.ir_types.specs.declared.id.Use.{Use}
use Rattle.ir_types.specs.declared.inst.Inst.{Inst}
use Rattle.ir_types.specs.Available.{same_id}
use Rattle.ir_types.proofs.Formed.{Every}
use Rattle.ir_types.proofs.Among.{same_itself}
use Rattle.vx_view.specs.declared.change.Change.TheVariants.{Remove}
use Rattle.vx_view.specs.Answers.{funcs_of, slots_from, uses_of, uses_in, uses_in_blocks}
use Rattle.vx_view.specs.Changes.{each, removing as removing_edit, applied}
use Rattle.vx_serial.specs.Rewriting.{is_id_in, without, some, uses_value}
use Rattle.vx_serial.specs.Changing.{is_unused, greater, greatest_unused, other_than, removing, removals}
use Rattle.rf_rewrite.specs.Removing.{among, greatest_free, taking, removal_order}
use Rattle.rf_rewrite.proofs.Contexts.{Context, plug, one_of, times, around, edited_plug}
use Rattle.rf_rewrite.proofs.Parts.{NoneAround, no_uses_plug, uses_plug}
use Rattle.rf_rewrite.proofs.Window.{removing_only}
use Rattle.rf_rewrite.proofs.Gone.{uses_id, used_by, NoneUses, unused_in, greatest_all, other_in, other_was}
use Rattle.vx_serial.proofs.Decided.{true_false}

-- ---- those among ids

pub among_append : (ds : List Id) (l k : List Inst) → among ds (l ++ k) ≡ among ds l ++ among ds k
among_append ds [] k = refl
among_append ds (i ∷ l) k = by_test (is_id_in ds i.id) (among_append ds l k)
  where
    by_test : (b : Bool) → among ds (l ++ k) ≡ among ds l ++ among ds k → cond b (i ∷ among ds (l ++ k)) (among ds (l ++ k)) ≡ cond b (i ∷ among ds l) (among ds l) ++ among ds k
    by_test true e = ap (λ u. i ∷ u) e
    by_test false e = e

own_times : (i : Inst) (l : List Inst) → 1 ≤ times i.id (i ∷ l)
own_times i l = let one : one_of i.id i.id ≡ 1 = ap (λ b. cond b 1 0) (same_itself i.id) in omega (arith, one)

pub among_none : (ds : List Id) (l : List Inst) → ((y : Id) → 1 ≤ times y l → is_id_in ds y ≡ false) → among ds l ≡ []
among_none ds [] h = refl
among_none ds (i ∷ l) h = ap (λ b. cond b (i ∷ among ds l) (among ds l)) (h i.id (own_times i l)) ∙ among_none ds l (λ y some. h y (omega (arith, some)))

-- what is taken is not among them
pub among_without : (ds taken : List Id) (l : List Inst) → ((y : Id) → 1 ≤ times y l → is_id_in taken y ≡ true → is_id_in ds y ≡ false) → among ds (without taken l) ≡ among ds l
among_without ds taken [] h = refl
among_without ds taken (i ∷ l) h = by_test (is_id_in taken i.id) refl (among_without ds taken l (λ y some. h y (omega (arith, some))))
  where
    by_test : (b : Bool) → is_id_in taken i.id ≡ b → among ds (without taken l) ≡ among ds l →
        among ds (cond b (without taken l) (i ∷ without taken l)) ≡ cond (is_id_in ds i.id) (i ∷ among ds l) (among ds l)
    by_test true t e = e ∙ sym (ap (λ b. cond b (i ∷ among ds l) (among ds l)) (h i.id (own_times i l) t))
    by_test false t e = ap (λ u. cond (is_id_in ds i.id) (i ∷ u) u) e

-- without one that is removed
among_removed : (x : Id) (ds : List Id) (l : List Inst) → among (other_than x ds) (each (removing_edit x) l) ≡ without (x ∷ []) (among ds l)
among_removed x ds [] = refl
among_removed x ds (i ∷ l) = by_test (same_id i.id x) refl (is_id_in ds i.id) refl (among_removed x ds l)
  where
    by_test : (b : Bool) → same_id i.id x ≡ b → (d : Bool) → is_id_in ds i.id ≡ d → among (other_than x ds) (each (removing_edit x) l) ≡ without (x ∷ []) (among ds l) →
        among (other_than x ds) (cond b [] (i ∷ []) ++ each (removing_edit x) l) ≡ without (x ∷ []) (cond d (i ∷ among ds l) (among ds l))
    by_test true t false u e = e
    by_test true t true u e = e ∙ sym (ap (λ b. cond (b || false) (without (x ∷ []) (among ds l)) (i ∷ without (x ∷ []) (among ds l))) t)
    by_test false t false u e = ap (λ b. cond b (i ∷ among (other_than x ds) (each (removing_edit x) l)) (among (other_than x ds) (each (removing_edit x) l))) (other_in x i.id ds t ∙ u) ∙ e
    by_test false t true u e =
        ap (λ b. cond b (i ∷ among (other_than x ds) (each (removing_edit x) l)) (among (other_than x ds) (each (removing_edit x) l))) (other_in x i.id ds t ∙ u)
        ∙ ap (λ r. i ∷ r) e
        ∙ sym (ap (λ b. cond (b || false) (without (x ∷ []) (among ds l)) (i ∷ without (x ∷ []) (among ds l))) t)

-- ---- users

or_later : (a b : Bool) → b ≡ true → (a || b) ≡ true
or_later true b e = refl
or_later false b e = e

uses_more : (ds : List Id) (y : Id) (l : List Inst) → uses_value y (among ds l) ≡ true → uses_value y l ≡ true
uses_more ds y [] e = absurd cc
uses_more ds y (i ∷ l) e = by_test (is_id_in ds i.id) e (uses_more ds y l)
  where
    by_test : (b : Bool) → uses_value y (cond b (i ∷ among ds l) (among ds l)) ≡ true → (uses_value y (among ds l) ≡ true → uses_value y l ≡ true) → (uses_id y i || uses_value y l) ≡ true
    by_test true r more = by_use (uses_id y i) r
      where
        by_use : (b : Bool) → (b || uses_value y (among ds l)) ≡ true → (b || uses_value y l) ≡ true
        by_use true s = refl
        by_use false s = more s
    by_test false r more = or_later (uses_id y i) (uses_value y l) (more r)

some_append : (us vs : List Use) → some (us ++ vs) ≡ (some us || some vs)
some_append [] vs = refl
some_append (u ∷ us) vs = refl

uses_some : (y : Id) (l : List Inst) → uses_value y l ≡ true → some (uses_in y l) ≡ true
uses_some y [] e = absurd cc
uses_some y (i ∷ l) e = some_append (slots_from y i.id 0 i.opds) (uses_in y l) ∙ by_use (uses_id y i) refl e (uses_some y l)
  where
    by_use : (b : Bool) → uses_id y i ≡ b → (b || uses_value y l) ≡ true → (uses_value y l ≡ true → some (uses_in y l) ≡ true) → (some (slots_from y i.id 0 i.opds) || some (uses_in y l)) ≡ true
    by_use true t r more = ap (λ us. some us || some (uses_in y l)) (used_by y i.id 0 i.opds t).2
    by_use false t r more = or_later (some (slots_from y i.id 0 i.opds)) (some (uses_in y l)) (more r)

-- an instruction that uses a value in the block uses it in the module
uses_there : (c : Context) (y : Id) (l : List Inst) → uses_value y l ≡ true → some (uses_of y (funcs_of (plug c l).items)) ≡ true
uses_there c y l e =
    ap some (uses_plug c l y)
    ∙ some_append (uses_of y (funcs_of c.items_before)) ((uses_in_blocks y c.blocks_before ++ (uses_in y l ++ uses_in_blocks y c.blocks_after)) ++ uses_of y (funcs_of c.items_after))
    ∙ or_later (some (uses_of y (funcs_of c.items_before))) (some ((uses_in_blocks y c.blocks_before ++ (uses_in y l ++ uses_in_blocks y c.blocks_after)) ++ uses_of y (funcs_of c.items_after)))
    (some_append (uses_in_blocks y c.blocks_before ++ (uses_in y l ++ uses_in_blocks y c.blocks_after)) (uses_of y (funcs_of c.items_after))
    ∙ ap (λ b. b || some (uses_of y (funcs_of c.items_after))) (some_append (uses_in_blocks y c.blocks_before) (uses_in y l ++ uses_in_blocks y c.blocks_after)
    ∙ or_later (some (uses_in_blocks y c.blocks_before)) (some (uses_in y l ++ uses_in_blocks y c.blocks_after)) (
    some_append (uses_in y l) (uses_in_blocks y c.blocks_after) ∙ ap (λ b. b || some (uses_in_blocks y c.blocks_after)) (uses_some y l e))))

-- ---- what is used by what is left alone

-- each that uses one of some ids is one of them
abbrev pub Shut : List Id → List Inst → Type 0
Shut ds l = Every (λ (i : Inst). (y : Id) → is_id_in ds y ≡ true → uses_id y i ≡ true → is_id_in ds i.id ≡ true) l

-- some ids stand in the block alone, and are used there alone, by one another
pub record Closing (c : Context) (ds : List Id) (l : List Inst) : Type 0 where
  pub shut : Shut ds l
  pub here : (y : Id) → is_id_in ds y ≡ true → around c y ≡ 0
  pub unused : (y : Id) → is_id_in ds y ≡ true → NoneAround c y

-- where none among them uses one, none does
none_uses : (ds : List Id) (y : Id) (l : List Inst) → is_id_in ds y ≡ true → Shut ds l → uses_value y (among ds l) ≡ false → NoneUses y l
none_uses ds y [] h shut e = tt
none_uses ds y (i ∷ l) h shut e = by_use (uses_id y i) refl (is_id_in ds i.id) refl e (none_uses ds y l h shut.1)
  where
    by_use : (b : Bool) → uses_id y i ≡ b → (d : Bool) → is_id_in ds i.id ≡ d → uses_value y (cond d (i ∷ among ds l) (among ds l)) ≡ false → (uses_value y (among ds l) ≡ false → NoneUses y l) → NoneUses y (i ∷ l)
    by_use true t false u r more = absurd (true_false (sym (shut.0 y h t) ∙ u))
    by_use true t true u r more = absurd (true_false (sym (ap (λ b. b || uses_value y (among ds l)) t) ∙ r))
    by_use false t false u r more = (t, more r)
    by_use false t true u r more = (t, more (sym (ap (λ b. b || uses_value y (among ds l)) t) ∙ r))

module _ (c : Context) (ds : List Id) (l : List Inst) (g : Closing c ds l) where
  unused_among : (y : Id) → is_id_in ds y ≡ true → is_unused (plug c l) y ≡ not (uses_value y (among ds l))
  unused_among y h = by_use (uses_value y (among ds l)) refl
    where
      by_use : (b : Bool) → uses_value y (among ds l) ≡ b → is_unused (plug c l) y ≡ not b
      by_use true e = ap not (uses_there c y l (uses_more ds y l e))
      by_use false e = ap (λ us. not (some us)) (no_uses_plug c l y (g.unused y h) (unused_in y l (none_uses ds y l h g.shut e)))

  greatest_among : (xs : List Id) → ((y : Id) → is_id_in xs y ≡ true → is_id_in ds y ≡ true) → greatest_unused (plug c l) xs ≡ greatest_free (among ds l) xs
  greatest_among [] h = refl
  greatest_among (x ∷ xs) h =
      ap (λ b. greater b x (greatest_unused (plug c l) xs)) (unused_among x (h x (ap (λ b. b || is_id_in xs x) (same_itself x))))
      ∙ ap (greater (not (uses_value x (among ds l))) x) (greatest_among xs (λ y e. h y (or_later (same_id y x) (is_id_in xs y) e)))

  -- without one of them
  module _ (x : Id) (goes : is_id_in ds x ≡ true) where
    one_removed : applied (Remove x) (plug c l) ≡ plug c (each (removing_edit x) l)
    one_removed = edited_plug c l x (removing_edit x) (removing_only x) (g.here x goes)

    shut_rest : (k : List Inst) → Shut ds k → Shut (other_than x ds) (each (removing_edit x) k)
    shut_rest [] h = tt
    shut_rest (i ∷ k) h = by_test (same_id i.id x) refl (shut_rest k h.1)
      where
        by_test : (b : Bool) → same_id i.id x ≡ b → Shut (other_than x ds) (each (removing_edit x) k) → Shut (other_than x ds) (cond b [] (i ∷ []) ++ each (removing_edit x) k)
        by_test true t r = r
        by_test false t r = ((λ y q u. other_in x i.id ds t ∙ h.0 y (other_was x y ds q) u), r)

    closing_rest : Closing c (other_than x ds) (each (removing_edit x) l)
    closing_rest = record {
      shut = shut_rest l g.shut;
      here = λ y r. g.here y (other_was x y ds r);
      unused = λ y r. g.unused y (other_was x y ds r);
    }

pub removed_in_turn : (c : Context) (n : ℕ) (ds : List Id) (l : List Inst) → Closing c ds l → removals n (plug c l) ds ≡ map Remove (removal_order n (among ds l) ds)
removed_in_turn c zero ds l g = refl
removed_in_turn c (suc n) ds l g = by_greatest (greatest_unused (plug c l) ds) refl (λ x. removed_in_turn c n (other_than x ds) (each (removing_edit x) l))
  where
    same : greatest_unused (plug c l) ds ≡ greatest_free (among ds l) ds
    same = greatest_among c ds l g ds (λ y r. r)

    by_greatest : (o : Option Id) → greatest_unused (plug c l) ds ≡ o →
        ((x : Id) → Closing c (other_than x ds) (each (removing_edit x) l) →
        removals n (plug c (each (removing_edit x) l)) (other_than x ds) ≡ map Remove (removal_order n (among (other_than x ds) (each (removing_edit x) l)) (other_than x ds))) →
        removing (greatest_unused (plug c l) ds) (λ x. removals n (applied (Remove x) (plug c l)) (other_than x ds))
        ≡ map Remove (taking (greatest_free (among ds l) ds) (λ x. removal_order n (without (x ∷ []) (among ds l)) (other_than x ds)))
    by_greatest None e more =
        ap (λ o. removing o (λ x. removals n (applied (Remove x) (plug c l)) (other_than x ds))) e
        ∙ sym (ap (λ o. map Remove (taking o (λ x. removal_order n (without (x ∷ []) (among ds l)) (other_than x ds)))) (sym same ∙ e))
    by_greatest (Some d) e more =
        let goes = (greatest_all (plug c l) ds d e).0 in
        ap (λ o. removing o (λ x. removals n (applied (Remove x) (plug c l)) (other_than x ds))) e
        ∙ ap (λ r. Remove d ∷ r) (
        ap (λ m. removals n m (other_than d ds)) (one_removed c ds l g d goes) ∙ more d (closing_rest c ds l g d goes)
        ∙ ap (λ is. map Remove (removal_order n is (other_than d ds))) (among_removed d ds l))
        ∙ sym (ap (λ o. map Remove (taking o (λ x. removal_order n (without (x ∷ []) (among ds l)) (other_than x ds)))) (sym same ∙ e))
