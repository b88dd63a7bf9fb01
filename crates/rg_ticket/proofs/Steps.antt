-- Each step keeps the rule of the tickets, and what the rule tells at the end.
-- `draws`, `splits` and `joins` are what the three kinds of step owe, `closes` what `close` tells.
use Rattle.std.proofs.Common.{◌≡◌, ℕ, zero, suc, ◌+◌, ◌%◌, ◌^◌, ◌<◌, ◌≤◌, Bool, true, false, min, List, [], ◌∷◌, ◌++◌, length, set, sym, refl, ap, ◌∙◌, subst, ⊎_elim, arith, ◌==◌, nat_lt, if◌then◌else◌, length-append, true≢false}
use Rattle.std.specs.Prelude.{slice_index, slice_set}
use Rattle.std.proofs.lemmas.Bool.Decides.{nat_tests}
use mathlib.Core.Option.{some, some-injective, some-ne-none}
use lib.ListN.{get_elem?}
use Rattle.atomic_table.proofs.Lists.{at_set}
use Rattle.atomic_table.specs.Table.{Me, keeps, Allows, Splits, Joins, Final, Seen}
use Rattle.rg_ticket.specs.declared.hand.Hand.{Hand}
use Rattle.rg_ticket.specs.Hands.{one_if, times, once_below, IsEachOnce, newcomer, spent, drew, shut, after_draw, after_split, joined}
use Rattle.rg_ticket.specs.Rule.{Looks, total, Each, IsSound, IsKept, Holds, Draws}
use Rattle.rg_ticket.proofs.Totals.{total_set, total_cut, total_join, total_le, total_below, in_one, each_set, each_snoc, times-append, new_number}

-- ---- numbers and tests

below : (a b : ℕ) → nat_lt a b ≡ true → a < b
below a b e = grind (arith, nat_tests)

not_below : (a b : ℕ) → nat_lt a b ≡ false → b ≤ a
not_below a b e = grind (arith, nat_tests)

-- one number more: once_below counts it where the new bound takes it in
one_more : (x n : ℕ) → once_below x (n + 1) ≡ once_below x n + one_if (n == x)
one_more x n = grind (arith, nat_tests)

once_rises : (x a b : ℕ) → a ≤ b → once_below x a ≤ once_below x b
once_rises x a b le = grind (arith, nat_tests)

-- ---- the word stays far from its end

far : (limit word : ℕ) (hands : List Hand) → IsKept limit word hands → word + 1 < 2 ^ 64
far limit word hands kept = let few = total_below (λ v. v.ended_passes) (λ v. v.stands_for) hands (λ id v at. (kept.sound id v at).ended_within) in
    let a = kept.limit_in_range in let b = kept.passed_by_ended in let c = kept.few_splits in let d = kept.all_stood_for in omega arith

one_of : (limit word a b : ℕ) → (0 < a → limit ≤ word) → (0 < b → limit ≤ word) → 0 < a + b → limit ≤ word
one_of limit word zero b left right some_ended = right (omega arith)
one_of limit word (suc a) b left right some_ended = left (omega arith)

both_empty : (xs ys : List ℕ) → xs ≡ [] → ys ≡ [] → xs ++ ys ≡ []
both_empty xs ys a b = ap (λ l. l ++ ys) a ∙ b

-- ---- a draw

later : (limit word next : ℕ) (hands : List Hand) → word ≤ next → Each (IsSound limit word) hands → Each (IsSound limit next) hands
later limit word next hands le old id v at = let s = old id v at in record {
  ended_within = s.ended_within;
  one_not_ended = s.one_not_ended;
  none_left = λ some_ended. (let low = s.none_left some_ended in omega arith);
  first_splits = s.first_splits;
  spent_is_empty = s.spent_is_empty;
}

drawn_some : (limit word id : ℕ) (hands : List Hand) (v : Hand) → IsKept limit word hands → get_elem? hands id ≡ some v → v.ended ≡ false → word < limit
    → IsKept limit (word + 1) (set hands id (drew word v))
drawn_some limit word id hands v kept at going room = let w : Hand = drew word v in let s = kept.sound id v at in
    let rises : min limit (word + 1) ≡ min limit word + 1 = omega arith in
    let stood : min limit word ≡ word = omega arith in record {
      limit_in_range = kept.limit_in_range;
      each_once = λ x.
          let t = total_set (λ u. times x u.numbers) hands id v w at in
          let was = kept.each_once x in
          let more = times-append x v.numbers (word ∷ []) in
          let step : once_below x (min limit (word + 1)) ≡ once_below x (min limit word) + one_if (word == x) =
          subst (λ m. once_below x (min limit (word + 1)) ≡ once_below x m + one_if (word == x)) (sym stood)
          (subst (λ m. once_below x m ≡ once_below x word + one_if (word == x)) (sym (rises ∙ ap (λ m. m + 1) stood)) (one_more x word)) in
          omega arith;
      as_many = (let t = total_set (λ u. length u.numbers) hands id v w at in let was = kept.as_many in let more = length-append v.numbers (word ∷ []) in omega arith);
      passed_by_ended = (let t = total_set (λ u. u.ended_passes) hands id v w at in let was = kept.passed_by_ended in omega arith);
      sound = each_set (IsSound limit (word + 1)) hands id w
          (record {
            ended_within = s.ended_within;
            one_not_ended = s.one_not_ended;
            none_left = λ some_ended. (let low = s.none_left some_ended in omega arith);
            first_splits = s.first_splits;
            spent_is_empty = λ none. (let more = s.one_not_ended going in absurd (omega arith));
          })
          (later limit word (word + 1) hands (omega arith) kept.sound);
      one_first = (let t = total_set (λ u. one_if u.is_first) hands id v w at in let was = kept.one_first in omega arith);
      few_splits = (let t = total_set (λ u. u.splits) hands id v w at in let was = kept.few_splits in omega arith);
      all_stood_for = (let t = total_set (λ u. u.stands_for) hands id v w at in let r = total_set (λ u. u.splits) hands id v w at in let was = kept.all_stood_for in omega arith);
    }

drawn_none : (limit word id : ℕ) (hands : List Hand) (v : Hand) → IsKept limit word hands → get_elem? hands id ≡ some v → v.ended ≡ false → limit ≤ word
    → IsKept limit (word + 1) (set hands id (shut v))
drawn_none limit word id hands v kept at going over = let w : Hand = shut v in let s = kept.sound id v at in
    let stays : min limit (word + 1) ≡ min limit word = omega arith in record {
      limit_in_range = kept.limit_in_range;
      each_once = λ x.
          let t = total_set (λ u. times x u.numbers) hands id v w at in
          let was = kept.each_once x in
          let same : once_below x (min limit (word + 1)) ≡ once_below x (min limit word) = ap (once_below x) stays in
          omega arith;
      as_many = (let t = total_set (λ u. length u.numbers) hands id v w at in let was = kept.as_many in omega arith);
      passed_by_ended = (let t = total_set (λ u. u.ended_passes) hands id v w at in let was = kept.passed_by_ended in omega arith);
      sound = each_set (IsSound limit (word + 1)) hands id w
          (record {
            ended_within = (let more = s.one_not_ended going in omega arith);
            one_not_ended = λ open_again. absurd (true≢false open_again);
            none_left = λ some_ended. omega arith;
            first_splits = s.first_splits;
            spent_is_empty = s.spent_is_empty;
          })
          (later limit word (word + 1) hands (omega arith) kept.sound);
      one_first = (let t = total_set (λ u. one_if u.is_first) hands id v w at in let was = kept.one_first in omega arith);
      few_splits = (let t = total_set (λ u. u.splits) hands id v w at in let was = kept.few_splits in omega arith);
      all_stood_for = (let t = total_set (λ u. u.stands_for) hands id v w at in let r = total_set (λ u. u.splits) hands id v w at in let was = kept.all_stood_for in omega arith);
    }

by_test : (limit word id : ℕ) (hands : List Hand) (v : Hand) (b : Bool) → nat_lt word limit ≡ b → IsKept limit word hands → get_elem? hands id ≡ some v → v.ended ≡ false
    → IsKept limit (word + 1) (set hands id (if b then drew word v else shut v))
by_test limit word id hands v true e kept at going = drawn_some limit word id hands v kept at going (below word limit e)
by_test limit word id hands v false e kept at going = drawn_none limit word id hands v kept at going (not_below word limit e)

drawn : (limit word id : ℕ) (hands : List Hand) (v : Hand) → v.limit ≡ limit → IsKept limit word hands → get_elem? hands id ≡ some v → v.ended ≡ false
    → IsKept limit (word + 1) (set hands id (after_draw word v))
drawn limit word id hands v told kept at going = subst (λ n. IsKept limit (word + 1) (set hands id (if nat_lt word n then drew word v else shut v))) (sym told)
    (by_test limit word id hands v (nat_lt word limit) refl kept at going)

-- in a table that keeps the rule a hand has each number once at most
has_once : (limit word id : ℕ) (hands : List Hand) (v : Hand) → IsKept limit word hands → get_elem? hands id ≡ some v → IsEachOnce limit v.numbers
has_once limit word id hands v kept at = let low : min limit word ≤ limit = omega arith in record {
  once = λ x. (let part = total_le (λ u. times x u.numbers) hands id v at in let all = kept.each_once x in let up = once_rises x (min limit word) limit low in omega arith);
  few = (let part = total_le (λ u. length u.numbers) hands id v at in let all = kept.as_many in omega arith);
}

-- ---- a number that is given is new

is_below : (a b : ℕ) → a < b → nat_lt a b ≡ true
is_below a b lt = grind (arith, nat_tests)

new_by_test : (found limit : ℕ) (v : Hand) (b : Bool) → b ≡ true → IsEachOnce limit (if b then drew found v else shut v).numbers → times found v.numbers ≡ 0
new_by_test found limit v true e each = new_number limit found v.numbers each
new_by_test found limit v false e each = absurd (true≢false (sym e))

gives_new : (found limit : ℕ) (v : Hand) → v.limit ≡ limit → IsEachOnce limit (after_draw found v).numbers → found < v.limit → times found v.numbers ≡ 0
gives_new found limit v told each lt = new_by_test found limit v (nat_lt found v.limit) (is_below found v.limit lt) each

first_set : (words : List ℕ) (n : ℕ) → length words ≡ 1 → (length (slice_set words 0 n) ≡ 1) × (slice_index (slice_set words 0 n) 0 ≡ n)
first_set [] n one = absurd (omega arith)
first_set (x ∷ xs) n one = (one, refl)

set_there : (hands : List Hand) (id : ℕ) (v w : Hand) → get_elem? hands id ≡ some v → get_elem? (set hands id w) id ≡ some w
set_there [] id v w at = absurd (some-ne-none v (sym at))
set_there (u ∷ us) zero v w at = refl
set_there (u ∷ us) (suc id) v w at = set_there us id v w at

pub draws : (limit slots id : ℕ) (me : Me (Unit {0}) Hand) → me.0.limit ≡ limit → me.0.ended ≡ false → Allows (Holds limit) slots id me 0 (λ n. (n + 1) % 2 ^ 64) (Draws me)
draws limit slots id me told going s holds _ at _ = let found : ℕ = slice_index s.words 0 in let w : Hand = after_draw found me.0 in
    let kept = drawn limit found id s.views me.0 told holds.1 at going in
    let near : (found + 1) % 2 ^ 64 ≡ found + 1 = (let f = far limit found s.views holds.1 in omega arith) in
    let each = has_once limit (found + 1) id (set s.views id w) w kept (set_there s.views id me.0 w at) in
    let put = first_set s.words ((found + 1) % 2 ^ 64) holds.0 in (
      w,
      keeps,
      tt,
      (put.0, subst (λ n. IsKept limit n (set s.views id w)) (sym (put.1 ∙ near)) kept),
      (
        refl,
        subst (λ n. IsEachOnce n w.numbers) (sym told) each,
        (λ some_ended. subst (λ n. n ≤ found) (sym told) ((holds.1.sound id me.0 at).none_left some_ended)),
        gives_new found limit me.0 told each,
      ),
    )

-- ---- a look

set_same : (hands : List Hand) (id : ℕ) (v : Hand) → get_elem? hands id ≡ some v → set hands id v ≡ hands
set_same [] id v at = absurd (some-ne-none v (sym at))
set_same (u ∷ us) zero v at = ap (λ h. h ∷ us) (sym (some-injective u v at))
set_same (u ∷ us) (suc id) v at = ap (λ l. u ∷ l) (set_same us id v at)

pub looks : (limit slots id : ℕ) (me : Me (Unit {0}) Hand) → me.0.limit ≡ limit → Allows (Holds limit) slots id me 0 (λ n. n) (Looks me)
looks limit slots id me told s holds _ at _ = let found : ℕ = slice_index s.words 0 in
    let each = has_once limit found id s.views me.0 holds.1 at in
    let put = first_set s.words found holds.0 in (
      me.0,
      keeps,
      tt,
      (put.0, subst (λ n. IsKept limit n (set s.views id me.0)) (sym put.1) (subst (λ l. IsKept limit found l) (sym (set_same s.views id me.0 at)) holds.1)),
      (refl, subst (λ n. IsEachOnce n me.0.numbers) (sym told) each),
    )

-- ---- a split

none_at : (b : Bool) → one_if b ≡ 0 → b ≡ false
none_at true e = absurd (omega arith)
none_at false e = refl

-- all splits are those of the first pass
first_alone : (limit word id : ℕ) (hands : List Hand) (v : Hand) → IsKept limit word hands → get_elem? hands id ≡ some v → v.is_first ≡ true → total (λ u. u.splits) hands ≡ v.splits
first_alone limit word id hands v kept at first = in_one (λ u. one_if u.is_first) (λ u. u.splits) hands id v
    (λ j u there none. (kept.sound j u there).first_splits (none_at u.is_first none)) at (kept.one_first ∙ sym (ap one_if first))

pub splits : (limit id : ℕ) (v : Hand) → v.limit ≡ limit → v.is_first ≡ true → v.splits < 2 ^ 32 → Splits (Holds limit) id v (after_split v) (newcomer v.limit)
splits limit id v told first few s holds at = let kept = holds.1 in let l : Hand = after_split v in let r : Hand = newcomer v.limit in let word : ℕ = slice_index s.words 0 in let sound = kept.sound id v at in (
  holds.0,
  record {
    limit_in_range = kept.limit_in_range;
    each_once = λ x. (let t = total_cut (λ u. times x u.numbers) s.views id v l r at in let was = kept.each_once x in omega arith);
    as_many = (let t = total_cut (λ u. length u.numbers) s.views id v l r at in let was = kept.as_many in omega arith);
    passed_by_ended = (let t = total_cut (λ u. u.ended_passes) s.views id v l r at in let was = kept.passed_by_ended in omega arith);
    sound = each_snoc (IsSound limit word) (set s.views id l) r
        (record {
          ended_within = omega arith;
          one_not_ended = λ _. omega arith;
          none_left = λ some_ended. absurd (omega arith);
          first_splits = λ _. refl;
          spent_is_empty = λ _. refl;
        })
        (each_set (IsSound limit word) s.views id l
        (record {
          ended_within = sound.ended_within;
          one_not_ended = sound.one_not_ended;
          none_left = sound.none_left;
          first_splits = λ other. absurd (true≢false (sym first ∙ other));
          spent_is_empty = sound.spent_is_empty;
        })
        kept.sound);
    one_first = (let t = total_cut (λ u. one_if u.is_first) s.views id v l r at in let was = kept.one_first in omega arith);
    few_splits = (let t = total_cut (λ u. u.splits) s.views id v l r at in let alone = first_alone limit word id s.views v kept at first in omega arith);
    all_stood_for = (let t = total_cut (λ u. u.stands_for) s.views id v l r at in let q = total_cut (λ u. u.splits) s.views id v l r at in let was = kept.all_stood_for in omega arith);
  },
)

-- ---- a join

pub joins : (limit id : ℕ) (v : Hand) (other : ℕ) (w : Hand) → w.is_first ≡ false → Joins (Holds limit) id v other w (joined v w) spent
joins limit id v other w not_first s holds at apart at' = let kept = holds.1 in let b : Hand = joined v w in let word : ℕ = slice_index s.words 0 in
    let there : get_elem? s.views other ≡ some w = ⊎_elim (λ h. absurd (apart h.0)) (λ h. h.1) (at_set s.views id other b w at') in
    let mine = kept.sound id v at in let theirs = kept.sound other w there in
    let no_splits : w.splits ≡ 0 = theirs.first_splits not_first in let not_one : one_if w.is_first ≡ 0 = ap one_if not_first in (
      holds.0,
      record {
        limit_in_range = kept.limit_in_range;
        each_once = λ x. (let t = total_join (λ u. times x u.numbers) s.views id other v w b spent at at' in let was = kept.each_once x in let both = times-append x v.numbers w.numbers in omega arith);
        as_many = (let t = total_join (λ u. length u.numbers) s.views id other v w b spent at at' in let was = kept.as_many in let both = length-append v.numbers w.numbers in omega arith);
        passed_by_ended = (let t = total_join (λ u. u.ended_passes) s.views id other v w b spent at at' in let was = kept.passed_by_ended in omega arith);
        sound = each_set (IsSound limit word) (set s.views id b) other spent
            (record {
              ended_within = omega arith;
              one_not_ended = λ going. absurd (true≢false going);
              none_left = λ some_ended. absurd (omega arith);
              first_splits = λ _. refl;
              spent_is_empty = λ _. refl;
            })
            (each_set (IsSound limit word) s.views id b
            (record {
              ended_within = (let p = mine.ended_within in let q = theirs.ended_within in omega arith);
              one_not_ended = λ going. (let p = mine.one_not_ended going in let q = theirs.ended_within in omega arith);
              none_left = λ some_ended. one_of limit word v.ended_passes w.ended_passes mine.none_left theirs.none_left some_ended;
              first_splits = mine.first_splits;
              spent_is_empty = λ none. both_empty v.numbers w.numbers (mine.spent_is_empty (omega arith)) (theirs.spent_is_empty (omega arith));
            })
            kept.sound);
        one_first = (let t = total_join (λ u. one_if u.is_first) s.views id other v w b spent at at' in let was = kept.one_first in omega arith);
        few_splits = (let t = total_join (λ u. u.splits) s.views id other v w b spent at at' in let was = kept.few_splits in omega arith);
        all_stood_for = (let t = total_join (λ u. u.stands_for) s.views id other v w b spent at at' in let q = total_join (λ u. u.splits) s.views id other v w b spent at at' in
            let was = kept.all_stood_for in omega arith);
      },
    )

-- ---- the end

whole : (limit word id : ℕ) (hands : List Hand) (v : Hand) → IsKept limit word hands → get_elem? hands id ≡ some v → v.is_first ≡ true → v.stands_for ≡ 1 + v.splits
    → total (λ u. u.stands_for) hands ≡ v.stands_for
whole limit word id hands v kept at first all = let alone = first_alone limit word id hands v kept at first in let was = kept.all_stood_for in omega arith

-- the first pass, into which all others were joined, has all that was drawn
ends : (limit word id : ℕ) (hands : List Hand) (v : Hand) → IsKept limit word hands → get_elem? hands id ≡ some v → v.is_first ≡ true → v.stands_for ≡ 1 + v.splits
    → ((x : ℕ) → times x v.numbers ≡ once_below x (min limit word)) × (word ≡ length v.numbers + v.ended_passes)
ends limit word id hands v kept at first all = let stood = whole limit word id hands v kept at first all in
    let numbers : (x : ℕ) → total (λ u. times x u.numbers) hands ≡ times x v.numbers = λ x. in_one (λ u. u.stands_for) (λ u. times x u.numbers) hands id v
    (λ j u there none. ap (times x) ((kept.sound j u there).spent_is_empty none)) at stood in
    let many : total (λ u. length u.numbers) hands ≡ length v.numbers = in_one (λ u. u.stands_for) (λ u. length u.numbers) hands id v
    (λ j u there none. ap length ((kept.sound j u there).spent_is_empty none)) at stood in
    let ended : total (λ u. u.ended_passes) hands ≡ v.ended_passes = in_one (λ u. u.stands_for) (λ u. u.ended_passes) hands id v
    (λ j u there none. (let le = (kept.sound j u there).ended_within in omega arith)) at stood in
    let past = kept.passed_by_ended in let as_many = kept.as_many in
    ((λ x. sym (numbers x) ∙ kept.each_once x), omega arith)

first_of_words : (words : List ℕ) (n : ℕ) → get_elem? words 0 ≡ some n → slice_index words 0 ≡ n
first_of_words [] n at = absurd (some-ne-none n (sym at))
first_of_words (x ∷ xs) n at = some-injective x n at

pub closes : (limit key id : ℕ) (v : Hand) (words : List ℕ) (slots : List (Unit {0})) (word : ℕ) → limit ≡ key → Final (Seen (Holds key) id v) words slots → get_elem? words 0 ≡ some word
    → v.is_first ≡ true → v.stands_for ≡ 1 + v.splits → ((x : ℕ) → times x v.numbers ≡ once_below x (min limit word)) × (word ≡ length v.numbers + v.ended_passes)
closes limit key id v words slots word told final at first all = let s = final.0 in
    let found : slice_index s.words 0 ≡ word = ap (λ l. slice_index l 0) final.2 ∙ first_of_words words word at in
    let kept : IsKept limit word s.views = subst (λ n. IsKept n word s.views) (sym told) (subst (λ n. IsKept key n s.views) found final.1.0.1) in
    ends limit word id s.views v kept final.1.1 first all
