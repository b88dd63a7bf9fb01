-- Counts that go up or down by one, and rows that grow by one.
use Rattle.std.proofs.Common.{◌≡◌, ◌≢◌, ℕ, ◌+◌, ◌-◌, ◌<◌, ◌≤◌, ◌==◌, ◌⊎◌, ◌&&◌, ◌||◌, cond, List, length, Bool, true, false, Some, refl, sym, ◌∙◌, ap, subst, inl, inr, arith, count_by, slice_index, set, get_or, take, drop, nat_lt}
use Rattle.std.specs.Ordering.{nat_cmp, is_eq}
use Rattle.std.proofs.lemmas.Bool.Decides.{nat_tests}
use Rattle.std.proofs.lemmas.Option.{slice_get-get_or, get_or_from_slice_get}
use Rattle.std.proofs.lemmas.List.{get_or-set_same, get_or-set_other}
use Rattle.std.proofs.lemmas.List.Sums.{sum_by-drop_more, count_by_more_yes, count_by_more_no, count_by-le-length, sum_by-take-le}
use Rattle.vx_order.specs.Walks.{tally}

-- what a test adds to a count
abbrev pub bit : Bool → ℕ
bit b = cond b 1 0

pub one_or_other : (a b : ℕ) → (a ≡ b) ⊎ (a ≢ b)
one_or_other a b = grind arith

pub equal_test : (a b : ℕ) → a ≡ b → (a == b) ≡ true
equal_test a b e = grind (arith, nat_tests)

pub apart_test : (a b : ℕ) → a ≢ b → (a == b) ≡ false
apart_test a b e = grind (arith, nat_tests)

pub set_apart : (xs : List ℕ) (i j n : ℕ) → j ≢ i → slice_index (set xs i n) j ≡ slice_index xs j
set_apart xs i j n d = rw get_or-set_other refl

-- an entry that was read with itself as the default
pub at_zero : (xs : List ℕ) (i n : ℕ) → i < length xs → n ≡ get_or xs i n → slice_index xs i ≡ n
at_zero xs i n h e = get_or_from_slice_get xs i n 0 (slice_get-get_or xs i n h ∙ ap Some (sym e))

-- one link is counted
pub counted_more : (links : List (ℕ × ℕ)) (counts : List ℕ) (i n v t : ℕ) → i < length links → (get_or links i (0, 0)).1 < length counts → n ≡ get_or counts (get_or links i (0, 0)).1 n
    → slice_index counts v + count_by (λ e. e.1 == v) (drop i links) ≡ t
    → slice_index (set counts (get_or links i (0, 0)).1 (n + 1)) v + count_by (λ e. e.1 == v) (drop (i + 1) links) ≡ t
counted_more links counts i n v t h w is e =
    let more : count_by (λ e. e.1 == v) (drop i links) ≡ bit ((get_or links i (0, 0)).1 == v) + count_by (λ e. e.1 == v) (drop (i + 1) links)
    = sum_by-drop_more (λ e. bit (e.1 == v)) links i (0, 0) h in
    let here : slice_index counts (get_or links i (0, 0)).1 ≡ n = at_zero counts (get_or links i (0, 0)).1 n w is in
    elim (one_or_other (get_or links i (0, 0)).1 v) [
      | inl s ↦ (let one : bit ((get_or links i (0, 0)).1 == v) ≡ 1 = ap bit (equal_test (get_or links i (0, 0)).1 v s) in
          let new : slice_index (set counts (get_or links i (0, 0)).1 (n + 1)) (get_or links i (0, 0)).1 ≡ n + 1 = get_or-set_same counts (get_or links i (0, 0)).1 (n + 1) 0 w in
          let new_v : slice_index (set counts (get_or links i (0, 0)).1 (n + 1)) v ≡ n + 1 = subst (λ k. slice_index (set counts (get_or links i (0, 0)).1 (n + 1)) k ≡ n + 1) s new in
          let old_v : slice_index counts v ≡ n = subst (λ k. slice_index counts k ≡ n) s here in
          omega (arith, more, one, new_v, old_v, e))
      | inr d ↦ (let none : bit ((get_or links i (0, 0)).1 == v) ≡ 0 = ap bit (apart_test (get_or links i (0, 0)).1 v d) in
          let other : v ≢ (get_or links i (0, 0)).1 = λ q. d (sym q) in
          let new_v : slice_index (set counts (get_or links i (0, 0)).1 (n + 1)) v ≡ slice_index counts v = set_apart counts (get_or links i (0, 0)).1 v (n + 1) other in
          omega (arith, more, none, new_v, e))
    ]

-- a count is at most the number of links
pub counted_below : (links : List (ℕ × ℕ)) (counts : List ℕ) (i n : ℕ) → i < length links → (get_or links i (0, 0)).1 < length counts → n ≡ get_or counts (get_or links i (0, 0)).1 n
    → slice_index counts (get_or links i (0, 0)).1 + count_by (λ e. e.1 == (get_or links i (0, 0)).1) (drop i links) ≡ count_by (λ e. e.1 == (get_or links i (0, 0)).1) links
    → n + 1 ≤ length links
counted_below links counts i n h w is e =
    let more : count_by (λ e. e.1 == (get_or links i (0, 0)).1) (drop i links) ≡ bit ((get_or links i (0, 0)).1 == (get_or links i (0, 0)).1) + count_by (λ e. e.1 == (get_or links i (0, 0)).1) (drop (i + 1) links)
    = sum_by-drop_more (λ e. bit (e.1 == (get_or links i (0, 0)).1)) links i (0, 0) h in
    let one : bit ((get_or links i (0, 0)).1 == (get_or links i (0, 0)).1) ≡ 1 = ap bit (equal_test (get_or links i (0, 0)).1 (get_or links i (0, 0)).1 refl) in
    let here : slice_index counts (get_or links i (0, 0)).1 ≡ n = at_zero counts (get_or links i (0, 0)).1 n w is in
    omega (arith, more, one, here, e, count_by-le-length (λ e. e.1 == (get_or links i (0, 0)).1) links)

-- one link less is open
pub released_more : (ends counts old : List ℕ) (i n : ℕ) → i < length ends → slice_index ends i < length counts → n ≡ get_or counts (slice_index ends i) n → 1 ≤ n
    → ((v : ℕ) → slice_index counts v + tally v (take i ends) ≡ slice_index old v)
    → (v : ℕ) → slice_index (set counts (slice_index ends i) (n - 1)) v + tally v (take (i + 1) ends) ≡ slice_index old v
released_more ends counts old i n h w is pos e v =
    let here : slice_index counts (slice_index ends i) ≡ n = at_zero counts (slice_index ends i) n w is in
    elim (one_or_other (slice_index ends i) v) [
      | inl s ↦ (let yes : (slice_index ends i == v) ≡ true = equal_test (slice_index ends i) v s in
          let more : tally v (take (i + 1) ends) ≡ tally v (take i ends) + 1 = count_by_more_yes (λ x. x == v) ends i 0 h yes in
          let new : slice_index (set counts (slice_index ends i) (n - 1)) (slice_index ends i) ≡ n - 1 = get_or-set_same counts (slice_index ends i) (n - 1) 0 w in
          let new_v : slice_index (set counts (slice_index ends i) (n - 1)) v ≡ n - 1 = subst (λ k. slice_index (set counts (slice_index ends i) (n - 1)) k ≡ n - 1) s new in
          let old_v : slice_index counts v ≡ n = subst (λ k. slice_index counts k ≡ n) s here in
          omega (arith, more, new_v, old_v, e v, pos))
      | inr d ↦ (let no : (slice_index ends i == v) ≡ false = apart_test (slice_index ends i) v d in
          let more : tally v (take (i + 1) ends) ≡ tally v (take i ends) = count_by_more_no (λ x. x == v) ends i 0 h no in
          let other : v ≢ slice_index ends i = λ q. d (sym q) in
          let new_v : slice_index (set counts (slice_index ends i) (n - 1)) v ≡ slice_index counts v = set_apart counts (slice_index ends i) v (n - 1) other in
          omega (arith, more, new_v, e v))
    ]

count_by-take-le : (p : ℕ → Bool) (i : ℕ) (xs : List ℕ) → count_by p (take i xs) ≤ count_by p xs
count_by-take-le p i xs = sum_by-take-le (λ x. bit (p x)) xs i

-- a link that is still to count off leaves its count positive
pub released_some : (ends counts old : List ℕ) (i n : ℕ) → i < length ends → slice_index ends i < length counts → n ≡ get_or counts (slice_index ends i) n
    → slice_index counts (slice_index ends i) + tally (slice_index ends i) (take i ends) ≡ slice_index old (slice_index ends i)
    → tally (slice_index ends i) ends ≤ slice_index old (slice_index ends i) → 1 ≤ n
released_some ends counts old i n h w is e f =
    let here : slice_index counts (slice_index ends i) ≡ n = at_zero counts (slice_index ends i) n w is in
    let yes : (slice_index ends i == slice_index ends i) ≡ true = equal_test (slice_index ends i) (slice_index ends i) refl in
    let more : tally (slice_index ends i) (take (i + 1) ends) ≡ tally (slice_index ends i) (take i ends) + 1 = count_by_more_yes (λ x. x == slice_index ends i) ends i 0 h yes in
    omega (arith, here, more, e, f, count_by-take-le (λ x. x == slice_index ends i) (i + 1) ends)

tally_more : (ends : List ℕ) (i v : ℕ) → i < length ends → tally v (take (i + 1) ends) ≡ tally v (take i ends) + bit (slice_index ends i == v)
tally_more ends i v h = go (slice_index ends i == v) refl where
  go : (b : Bool) → (slice_index ends i == v) ≡ b → tally v (take (i + 1) ends) ≡ tally v (take i ends) + bit b
  go true e = count_by_more_yes (λ x. x == v) ends i 0 h e
  go false e = (let same : tally v (take (i + 1) ends) ≡ tally v (take i ends) = count_by_more_no (λ x. x == v) ends i 0 h e in omega arith)

entry_step : (b was now here : Bool) (t t' m m' o : ℕ) → was ≡ (b || (nat_lt 0 t && (m == 0))) → m + t ≡ o → m' + t' ≡ o → t' ≡ t + bit here
    → now ≡ (was || (here && (m' == 0))) → now ≡ (b || (nat_lt 0 t' && (m' == 0)))
entry_step b was now true t t' m m' o e f g k n = (let pos : 1 ≤ m = omega arith in let above : 1 ≤ t' = omega arith in grind (arith, nat_tests))
entry_step b was now false t t' m m' o e f g k n = (let same : m' ≡ m = omega arith in let same_t : t' ≡ t = omega arith in grind (arith, nat_tests))

-- what the set has at a number after one end of a link
pub ready_more : (ends counts old counts' : List ℕ) (i v : ℕ) (b was now : Bool) → i < length ends
    → was ≡ (b || (nat_lt 0 (tally v (take i ends)) && (slice_index counts v == 0)))
    → slice_index counts v + tally v (take i ends) ≡ slice_index old v
    → slice_index counts' v + tally v (take (i + 1) ends) ≡ slice_index old v
    → now ≡ (was || ((slice_index ends i == v) && (slice_index counts' v == 0)))
    → now ≡ (b || (nat_lt 0 (tally v (take (i + 1) ends)) && (slice_index counts' v == 0)))
ready_more ends counts old counts' i v b was now h e f g n = entry_step b was now (slice_index ends i == v) (tally v (take i ends)) (tally v (take (i + 1) ends)) (slice_index counts v) (slice_index counts' v) (slice_index old v)
    e f g (tally_more ends i v h) n

pub put_in : (counts : List ℕ) (end v : ℕ) (was now : Bool) → slice_index counts end ≡ 0 → now ≡ cond (is_eq (nat_cmp end v)) true was → now ≡ (was || ((end == v) && (slice_index counts v == 0)))
put_in counts end v was now z e = elim (one_or_other end v) [
  | inl s ↦ (let zv : slice_index counts v ≡ 0 = subst (λ k. slice_index counts k ≡ 0) s z in grind (arith, nat_tests))
  | inr d ↦ grind (arith, nat_tests)
]

pub left_out : (counts : List ℕ) (end v : ℕ) (was now : Bool) → (slice_index counts end ≡ 0 → ⊥) → now ≡ was → now ≡ (was || ((end == v) && (slice_index counts v == 0)))
left_out counts end v was now z e = elim (one_or_other end v) [
  | inl s ↦ (let zv : slice_index counts v ≢ 0 = subst (λ k. slice_index counts k ≢ 0) s z in grind (arith, nat_tests))
  | inr d ↦ grind (arith, nat_tests)
]
