-- The groups of a window take each of its places once.
use Rattle.std.proofs.Common.{◌≡◌, refl, sym, ap, ◌∙◌, ℕ, zero, suc, ◌+◌, ◌<◌, ◌≤◌, ◌^◌, Bool, true, false, cond, List, [], ◌∷◌, length, length-append, map, nat_lt, get_or, arith}
use Rattle.std.specs.List.{All}
use Rattle.std.proofs.lemmas.Bool.Decides.{nat_tests}
use Rattle.std.proofs.lemmas.List.Elements.{All-nil, All-cons, All-append, All-map, All-from_get_or}
use Rattle.std.proofs.lemmas.List.Sums.{sum_by-cons}
use Rattle.std.proofs.lemmas.Option.{get_or_from_slice_get}
use Rattle.ir_types.specs.declared.id.Id.{Id}
use Rattle.ir_types.specs.declared.inst.Inst.{Inst}
use Rattle.vx_order.specs.Groups.{has, owner_of, size, IsPartition}
use Rattle.vx_order.proofs.Placing.{at_head, in_more}
use Rattle.vx_serial.specs.Window.{is_member, place_of, singles, groups_in, joined}
use Rattle.vx_serial.specs.Bundles.{AreOnce, ids_of, AreBundles, GroupsPartition}
use Rattle.vx_serial.proofs.Grouped.{owner_holds, owner_unique, in_joined}
use Rattle.vx_serial.proofs.Numbers.{fits, Distinct, ascends_distinct}
use Rattle.vx_serial.proofs.Places.{places_from, places_ascend, places_all, places_long, groups_distinct, groups_cover}
use Rattle.vx_serial.proofs.Decided.{true_false}

size_joined : (groups : List (List ℕ)) → size groups ≡ length (joined groups)
size_joined [] = refl
size_joined (g ∷ gs) = sum_by-cons length g gs ∙ ap (λ n. length g + n) (size_joined gs) ∙ sym (length-append g (joined gs))

within : (groups : List (List ℕ)) (k x : ℕ) → has (get_or groups k []) x ≡ true → k < length groups
within [] k x h = absurd (true_false (sym h))
within (g ∷ gs) zero x h = omega arith
within (g ∷ gs) (suc k) x h = let r = within gs k x h in omega arith

stands : (xs : List ℕ) (k d : ℕ) → k < length xs → has xs (get_or xs k d) ≡ true
stands [] k d h = absurd (omega arith)
stands (x ∷ xs) zero d h = at_head x x xs refl
stands (x ∷ xs) (suc k) d h = in_more x (get_or xs k d) xs (stands xs k d (omega arith))

below : (x n : ℕ) → nat_lt x n ≡ true → x < n
below x n h = grind (arith, nat_tests)

is_below : (x n : ℕ) → x < n → nat_lt x n ≡ true
is_below x n h = grind (arith, nat_tests)

singles_filled : (bundles : List (List Id)) (at : ℕ) (is : List Inst) → All (λ group. 0 < length group) (singles bundles at is)
singles_filled bundles at [] = All-nil (λ group. 0 < length group)
singles_filled bundles at (i ∷ is) = by_test (is_member bundles i.id) (singles_filled bundles (suc at) is)
  where
    by_test : (b : Bool) → All (λ group. 0 < length group) (singles bundles (suc at) is) → All (λ group. 0 < length group) (cond b (singles bundles (suc at) is) ((at ∷ []) ∷ singles bundles (suc at) is))
    by_test true more = more
    by_test false more = All-cons (λ group. 0 < length group) (at ∷ []) (singles bundles (suc at) is) (omega arith) more

places_filled : (insts : List Inst) (ids : List Id) → 0 < length ids → 0 < length (map (place_of insts) ids)
places_filled insts [] h = h
places_filled insts (x ∷ ids) h = omega arith

bundles_filled : (insts : List Inst) (bundles : List (List Id)) → All (λ bundle. 0 < length bundle) bundles → All (λ bundle. 0 < length (map (place_of insts) bundle)) bundles
bundles_filled insts bundles all = λ k d h. places_filled insts _ (all k d h)

module _ (insts : List Inst) (bundles : List (List Id)) (once : AreOnce (ids_of insts)) (are : AreBundles insts bundles) where
  abbrev Groups : List (List ℕ)
  Groups = groups_in bundles insts

  distinct : Distinct (joined Groups)
  distinct = groups_distinct insts bundles once are

  cover : (x : ℕ) → has (joined Groups) x ≡ nat_lt x (length insts)
  cover = groups_cover insts bundles once are

  pub many : size Groups ≡ length insts
  many =
      let some : length (joined Groups) ≤ length (places_from 0 insts) = fits (joined Groups) (places_from 0 insts) distinct (λ x h. places_all insts x ∙ sym (cover x) ∙ h) in
      let all : length (places_from 0 insts) ≤ length (joined Groups) =
      fits (places_from 0 insts) (joined Groups) (ascends_distinct 0 (places_from 0 insts) (places_ascend 0 0 insts (omega arith))) (λ x h. cover x ∙ sym (places_all insts x) ∙ h) in
      let long : length (places_from 0 insts) ≡ length insts = places_long 0 insts in
      let joins : size Groups ≡ length (joined Groups) = size_joined Groups in
      omega arith

  member_below : (k p : ℕ) → has (get_or Groups k []) p ≡ true → p < size Groups
  member_below k p h = let l : p < length insts = below p (length insts) (sym (cover p) ∙ in_joined Groups k p h) in let m = many in omega arith

  owned : (p : ℕ) → p < size Groups → owner_of Groups p < length Groups
  owned p h =
      let m = many in let l : p < length insts = omega arith in
      within Groups (owner_of Groups p) p (owner_holds Groups p (cover p ∙ is_below p (length insts) l))

  partition : All (λ bundle. 0 < length bundle) bundles → length insts ≤ 2 ^ 32 → IsPartition Groups
  partition filled few = record {
    filled = All-append (λ group. 0 < length group) (map (map (place_of insts)) bundles) (singles bundles 0 insts)
        (All-map (λ group. 0 < length group) (map (place_of insts)) bundles (bundles_filled insts bundles filled)) (singles_filled bundles 0 insts);
    within = All-from_get_or (λ group. All (λ p. p < size Groups) group) Groups []
        (λ k h. All-from_get_or (λ p. p < size Groups) (get_or Groups k []) 0 (λ j g. member_below k (get_or (get_or Groups k []) j 0) (stands (get_or Groups k []) j 0 g)));
    covered = owned;
    once = λ g p group is h. owner_unique Groups g p distinct (ap (λ l. has l p) (get_or_from_slice_get Groups g group [] is) ∙ h);
    bounded = let m = many in omega arith;
  }

pub groups_partition : GroupsPartition
groups_partition insts bundles once are filled few = partition insts bundles once are filled few
