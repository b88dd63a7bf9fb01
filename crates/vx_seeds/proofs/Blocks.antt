-- One step of a group, of the groups, and of the order.
use Rattle.std.proofs.Common.{◌≡◌, refl, sym, ap, ◌∙◌, ℕ, zero, suc, ◌-◌, ◌<◌, Bool, true, false, not, ◌||◌, cond, Option, None, Some, List, [], ◌∷◌, ◌++◌, length, arith, Bor}
use Rattle.std.specs.Prelude.{⊤}
use Rattle.std.specs.Option.{option_copied, is_some}
use Rattle.std.specs.List.{list_any}
use Rattle.std.proofs.lemmas.List.{append_assoc}
use Rattle.std.proofs.lemmas.List.Folds.{list_any-append}
use Rattle.ir_types.specs.declared.id.Id.{Id}
use Rattle.ir_types.specs.declared.id_table.IdTable.{IdTable}
use Rattle.ir_types.specs.Available.{same_id}
use Rattle.ir_types.specs.IdTable.{found}
use Rattle.vx_serial.specs.Regions.{Spot, those, is_alike, chain, is_in, cut, group_regions, grouped, with_store, passing, in_order}
use Rattle.vx_seeds.specs.Spots.{head, least_of}
use Rattle.vx_seeds.specs.Passed.{ArePassed, Passes}

none_some : {A : Type 0} {a : A} → None ≡ Some a → ⊥
none_some e = cc

some_is : {A : Type 0} {a b : A} → Some a ≡ Some b → a ≡ b
some_is e = cc

pub more : (n : ℕ) → 0 < n → suc (n - 1) ≡ n
more n lt = omega arith

-- the regions of a group begin with those of a chain
pub chain_goes : (width n : ℕ) (ss : List Spot) (a : Spot) → least_of ss ≡ Some a →
    cut width a (chain a ss) ++ group_regions n width (those (λ t. not (is_in (chain a ss) t)) ss) ≡ group_regions (suc n) width ss
chain_goes width n [] a e = absurd (none_some e)
chain_goes width n (s ∷ ss) a e = ap (λ b. cut width b (chain b (s ∷ ss)) ++ group_regions n width (those (λ t. not (is_in (chain b (s ∷ ss)) t)) (s ∷ ss))) (sym (some_is e))

pub no_chain : (width n : ℕ) (ss : List Spot) → least_of ss ≡ None → group_regions n width [] ≡ group_regions (suc n) width ss
no_chain width zero [] e = refl
no_chain width (suc n) [] e = refl
no_chain width n (s ∷ ss) e = absurd (none_some (sym e))

-- the regions of groups begin with those of the first store's group
pub group_goes : (width n : ℕ) (ss : List Spot) (s : Spot) → head ss ≡ Some s →
    group_regions (length ss) width (those (is_alike s) ss) ++ grouped n width (those (λ t. not (is_alike s t)) ss) ≡ grouped (suc n) width ss
group_goes width n [] s e = absurd (none_some e)
group_goes width n (t ∷ ss) s e = ap (λ u. group_regions (length (t ∷ ss)) width (those (is_alike u) (t ∷ ss)) ++ grouped n width (those (λ v. not (is_alike u v)) (t ∷ ss))) (sym (some_is e))

pub no_group : (width n : ℕ) (ss : List Spot) → head ss ≡ None → grouped n width [] ≡ grouped (suc n) width ss
no_group width zero [] e = refl
no_group width (suc n) [] e = refl
no_group width n (s ∷ ss) e = absurd (none_some (sym e))

-- ---- the order

pub copied_there : {A : Type 0} (o : Option (Bor A)) → is_some (option_copied o) ≡ is_some o
copied_there None = refl
copied_there (Some x) = refl

module _ (store : Id) (rs : List (List Id)) (ids : List Id) (before : List (List Id)) (t : IdTable ⊤) (are : ArePassed t ids) where
  tested : (s : Spot) → s.store ≡ store → (b : Bool) → is_some (found t store) ≡ b → list_any (same_id s.store) ids ≡ b
  tested s e b h = ap (λ x. list_any (same_id x) ids) e ∙ sym (are store) ∙ h

  -- a store that was passed
  pub passes_passed : is_some (found t store) ≡ true → Passes store rs ids before t before
  passes_passed h = record {
    passed = ids;
    are = are;
    goes = λ s ss e. sym (ap (λ b. before ++ cond b (in_order ids ss rs) (passing (with_store s.store rs) ids (λ all. in_order all ss rs))) (tested s e true h));
  }

  -- a store of no region
  pub passes_none : is_some (found t store) ≡ false → with_store store rs ≡ [] → Passes store rs ids before t before
  passes_none h w = record {
    passed = ids;
    are = are;
    goes = λ s ss e.
        sym (ap (λ b. before ++ cond b (in_order ids ss rs) (passing (with_store s.store rs) ids (λ all. in_order all ss rs))) (tested s e false h)
        ∙ ap (λ l. before ++ passing l ids (λ all. in_order all ss rs)) (ap (λ x. with_store x rs) e ∙ w));
  }

  -- a store of a region
  pub passes_region : (r : List Id) (new : IdTable ⊤) (after : List (List Id)) → is_some (found t store) ≡ false → with_store store rs ≡ r ∷ [] →
      ((q : Id) → is_some (found new q) ≡ (is_some (found t q) || list_any (same_id q) r)) → after ≡ before ++ r ∷ [] → Passes store rs ids before new after
  passes_region r new after h w n a = record {
    passed = ids ++ r;
    are = λ q. n q ∙ ap (λ b. b || list_any (same_id q) r) (are q) ∙ sym (any_both q ids);
    goes = λ s ss e.
        ap (λ l. l ++ in_order (ids ++ r) ss rs) a ∙ append_assoc before (r ∷ []) (in_order (ids ++ r) ss rs)
        ∙ sym (ap (λ b. before ++ cond b (in_order ids ss rs) (passing (with_store s.store rs) ids (λ all. in_order all ss rs))) (tested s e false h)
        ∙ ap (λ l. before ++ passing l ids (λ all. in_order all ss rs)) (ap (λ x. with_store x rs) e ∙ w));
  }
    where
      any_both : (q : Id) (xs : List Id) → list_any (same_id q) (xs ++ r) ≡ (list_any (same_id q) xs || list_any (same_id q) r)
      any_both q xs = list_any-append (same_id q) xs r
