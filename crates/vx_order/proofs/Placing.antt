-- What holds while nodes are placed: the counts are of open links, and the set has the nodes that may come next.
use Rattle.std.proofs.Common.{◌≡◌, ℕ, ◌+◌, ◌<◌, ◌≤◌, ◌==◌, ◌⊎◌, ◌&&◌, ◌||◌, not, cond, List, [], ◌∷◌, ◌++◌, Bool, true, false, Some, None, refl, sym, ◌∙◌, ap, subst, inl, inr, arith, find, count_by, slice_index, nat_lt, map, filter}
use Rattle.std.specs.List.{list_all}
use Rattle.std.proofs.lemmas.Bool.Decides.{nat_tests}
use Rattle.std.proofs.lemmas.List.Sums.{sum_by-cons}
use Rattle.vx_order.proofs.Counts.{bit}
use Rattle.vx_order.specs.Groups.{has}
use Rattle.vx_order.specs.Order.{is_ready, next}
use Rattle.vx_order.specs.Walks.{Ascends, tally, ends_from}

-- the number of links to a node from nodes that are not placed
abbrev pub open_links : List (ℕ × ℕ) → List ℕ → ℕ → ℕ
open_links links placed v = count_by (λ l. (l.1 == v) && not (has placed l.0)) links

open_cons : (l : ℕ × ℕ) (ls : List (ℕ × ℕ)) (placed : List ℕ) (v : ℕ) → open_links (l ∷ ls) placed v ≡ bit ((l.1 == v) && not (has placed l.0)) + open_links ls placed v
open_cons l ls placed v = sum_by-cons (λ e. bit ((e.1 == v) && not (has placed e.0))) l ls

none_open_step : (a h : Bool) (n : ℕ) (r : Bool) → (n == 0) ≡ r → ((bit (a && not h) + n) == 0) ≡ ((not a || h) && r)
none_open_step true true n r e = grind (arith, nat_tests)
none_open_step true false n r e = grind (arith, nat_tests)
none_open_step false true n r e = grind (arith, nat_tests)
none_open_step false false n r e = grind (arith, nat_tests)

-- a node without open links has each predecessor placed
pub none_open : (links : List (ℕ × ℕ)) (placed : List ℕ) (v : ℕ) → (open_links links placed v == 0) ≡ list_all (λ l. not (l.1 == v) || has placed l.0) links
none_open [] placed v = refl
none_open (l ∷ ls) placed v = ap (λ n. n == 0) (open_cons l ls placed v) ∙ none_open_step (l.1 == v) (has placed l.0) (open_links ls placed v) (list_all (λ l. not (l.1 == v) || has placed l.0) ls) (none_open ls placed v)

-- the nodes placed so far, the counts of open links, and the set of nodes that may come next
pub record IsUnderWay (nodes : List ℕ) (links : List (ℕ × ℕ)) (placed counts : List ℕ) (ready : ℕ → Bool) : Type 0 where
  pub counted : (v : ℕ) → slice_index counts v ≡ open_links links placed v
  pub done : (v : ℕ) → has placed v ≡ true → slice_index counts v ≡ 0
  pub set : (v : ℕ) → ready v ≡ (has nodes v && (not (has placed v) && (slice_index counts v == 0)))

-- the set has the nodes that may come next
pub ready_is : (nodes : List ℕ) (links : List (ℕ × ℕ)) (placed counts : List ℕ) (ready : ℕ → Bool) (v : ℕ) → IsUnderWay nodes links placed counts ready → ready v ≡ (has nodes v && is_ready links placed v)
ready_is nodes links placed counts ready v w =
    w.set v ∙ ap (λ n. has nodes v && (not (has placed v) && (n == 0))) (w.counted v) ∙ ap (λ b. has nodes v && (not (has placed v) && b)) (none_open links placed v)

pub both : (a b : Bool) → (a && b) ≡ true → (a ≡ true) × (b ≡ true)
both true b e = (refl, e)
both false b e = absurd (cc)

pub head_or_more : (x v : ℕ) (xs : List ℕ) → has (x ∷ xs) v ≡ true → (x ≡ v) ⊎ (has xs v ≡ true)
head_or_more x v xs h = grind (arith, nat_tests)

pub ascends_has : (low : ℕ) (xs : List ℕ) (v : ℕ) → Ascends low xs → has xs v ≡ true → low ≤ v
ascends_has low [] v a h = absurd (cc)
ascends_has low (x ∷ xs) v a h = elim (head_or_more x v xs h) [
  | inl e ↦ subst (λ n. low ≤ n) e a.0
  | inr more ↦ (let far : x + 1 ≤ v = ascends_has (x + 1) xs v a.1 more in omega (arith, a.0))
]

pub at_head : (x v : ℕ) (xs : List ℕ) → x ≡ v → has (x ∷ xs) v ≡ true
at_head x v xs e = grind (arith, nat_tests)

pub in_more : (x v : ℕ) (xs : List ℕ) → has xs v ≡ true → has (x ∷ xs) v ≡ true
in_more x v xs h = grind (arith, nat_tests)

-- the first of ascending numbers that passes is the least
pub find_least : (p : ℕ → Bool) (low : ℕ) (xs : List ℕ) (v : ℕ) → Ascends low xs → has xs v ≡ true → p v ≡ true → ((w : ℕ) → has xs w ≡ true → p w ≡ true → v ≤ w) → find p xs ≡ Some v
find_least p low [] v a h pass least = absurd (cc)
find_least p low (x ∷ xs) v a h pass least = go (p x) refl (λ more. find_least p (x + 1) xs v a.1 more pass (λ w member passes. least w (in_more x w xs member) passes)) where
  go : (b : Bool) → p x ≡ b → (has xs v ≡ true → find p xs ≡ Some v) → cond b (Some x) (find p xs) ≡ Some v
  go true e rest =
      let low_v : v ≤ x = least x (at_head x x xs refl) e in
      elim (head_or_more x v xs h) [ inl s ↦ ap Some s | inr more ↦ absurd (let far : x + 1 ≤ v = ascends_has (x + 1) xs v a.1 more in omega arith) ]
  go false e rest = elim (head_or_more x v xs h) [
    | inl s ↦ absurd (let passes : p x ≡ true = subst (λ n. p n ≡ true) (sym s) pass in cc)
    | inr more ↦ rest more
  ]

pub find_none : (p : ℕ → Bool) (xs : List ℕ) → ((w : ℕ) → has xs w ≡ true → p w ≡ false) → find p xs ≡ None
find_none p [] none = refl
find_none p (x ∷ xs) none = rw (none x (at_head x x xs refl)) (find_none p xs (λ w there. none w (in_more x w xs there)))

-- the least of the set is the next
pub next_is : (nodes : List ℕ) (links : List (ℕ × ℕ)) (placed counts : List ℕ) (ready : ℕ → Bool) (v : ℕ) → Ascends 0 nodes → IsUnderWay nodes links placed counts ready → ready v ≡ true → ((w : ℕ) → ready w ≡ true → v ≤ w) → next nodes links placed ≡ Some v
next_is nodes links placed counts ready v up w there least =
    let parts : (has nodes v ≡ true) × (is_ready links placed v ≡ true) = both (has nodes v) (is_ready links placed v) (sym (ready_is nodes links placed counts ready v w) ∙ there) in
    find_least (is_ready links placed) 0 nodes v up parts.0 parts.1
    (λ u member may. least u (ready_is nodes links placed counts ready u w ∙ (rw (member, may) refl)))

pub next_none : (nodes : List ℕ) (links : List (ℕ × ℕ)) (placed counts : List ℕ) (ready : ℕ → Bool) → IsUnderWay nodes links placed counts ready → ((w : ℕ) → ready w ≡ false) → next nodes links placed ≡ None
next_none nodes links placed counts ready w empty = find_none (is_ready links placed) nodes (λ u member.
    (let e : (has nodes u && is_ready links placed u) ≡ false = sym (ready_is nodes links placed counts ready u w) ∙ empty u in
    let f : (true && is_ready links placed u) ≡ false = subst (λ b. (b && is_ready links placed u) ≡ false) member e in f))

pub has-append : (xs : List ℕ) (v w : ℕ) → has (xs ++ v ∷ []) w ≡ (has xs w || (v == w))
has-append [] v w = grind (arith, nat_tests)
has-append (x ∷ xs) v w = rw (has-append xs v w) (or_assoc (x == w) (has xs w) (v == w)) where
  or_assoc : (a b c : Bool) → (a || (b || c)) ≡ ((a || b) || c)
  or_assoc true b c = refl
  or_assoc false b c = refl

split_step : (a h s : Bool) (m n k : ℕ) → (s ≡ true → h ≡ false) → m ≡ n + k → bit (a && not h) + m ≡ (bit (a && not (h || s)) + n) + cond s (bit a + k) k
split_step true true true m n k e f = absurd (let no : true ≡ false = e refl in cc)
split_step true true false m n k e f = omega arith
split_step true false true m n k e f = omega arith
split_step true false false m n k e f = omega arith
split_step false true true m n k e f = absurd (let no : true ≡ false = e refl in cc)
split_step false true false m n k e f = omega arith
split_step false false true m n k e f = omega arith
split_step false false false m n k e f = omega arith

eqb_sym : (a b : ℕ) → (a == b) ≡ (b == a)
eqb_sym a b = grind (arith, nat_tests)

same_free : (placed : List ℕ) (v u : ℕ) → has placed v ≡ false → (u == v) ≡ true → has placed u ≡ false
same_free placed v u free e = (let s : u ≡ v = grind (arith, nat_tests) in subst (λ n. has placed n ≡ false) (sym s) free)

joined : (x y t p q r : ℕ) → x ≡ p → y ≡ q → t ≡ r → p ≡ q + r → x ≡ y + t
joined x y t p q r e f g h = omega arith

tally_ends : (l : ℕ × ℕ) (ls : List (ℕ × ℕ)) (v w : ℕ) → tally w (ends_from v (l ∷ ls)) ≡ cond (l.0 == v) (bit (l.1 == w) + tally w (ends_from v ls)) (tally w (ends_from v ls))
tally_ends l ls v w = go (l.0 == v) where
  go : (b : Bool) → tally w (map (λ l. l.1) (cond b (l ∷ filter (λ l. l.0 == v) ls) (filter (λ l. l.0 == v) ls))) ≡ cond b (bit (l.1 == w) + tally w (ends_from v ls)) (tally w (ends_from v ls))
  go true = sum_by-cons (λ x. bit (x == w)) l.1 (ends_from v ls)
  go false = refl

-- what is not open any more once `v` is placed: the links from `v`
pub open_split : (links : List (ℕ × ℕ)) (placed : List ℕ) (v w : ℕ) → has placed v ≡ false → open_links links placed w ≡ open_links links (placed ++ v ∷ []) w + tally w (ends_from v links)
open_split [] placed v w free = omega arith
open_split (l ∷ ls) placed v w free =
    let more : open_links ls placed w ≡ open_links ls (placed ++ v ∷ []) w + tally w (ends_from v ls) = open_split ls placed v w free in
    let here : has (placed ++ v ∷ []) l.0 ≡ (has placed l.0 || (l.0 == v)) = has-append placed v l.0 ∙ ap (λ b. has placed l.0 || b) (eqb_sym v l.0) in
    let before : open_links (l ∷ ls) placed w ≡ bit ((l.1 == w) && not (has placed l.0)) + open_links ls placed w = open_cons l ls placed w in
    let after : open_links (l ∷ ls) (placed ++ v ∷ []) w ≡ bit ((l.1 == w) && not (has placed l.0 || (l.0 == v))) + open_links ls (placed ++ v ∷ []) w
    = open_cons l ls (placed ++ v ∷ []) w ∙ ap (λ b. bit ((l.1 == w) && not b) + open_links ls (placed ++ v ∷ []) w) here in
    let off : tally w (ends_from v (l ∷ ls)) ≡ cond (l.0 == v) (bit (l.1 == w) + tally w (ends_from v ls)) (tally w (ends_from v ls)) = tally_ends l ls v w in
    let step : bit ((l.1 == w) && not (has placed l.0)) + open_links ls placed w
    ≡ (bit ((l.1 == w) && not (has placed l.0 || (l.0 == v))) + open_links ls (placed ++ v ∷ []) w) + cond (l.0 == v) (bit (l.1 == w) + tally w (ends_from v ls)) (tally w (ends_from v ls))
    = split_step (l.1 == w) (has placed l.0) (l.0 == v) (open_links ls placed w) (open_links ls (placed ++ v ∷ []) w) (tally w (ends_from v ls)) (λ e. same_free placed v l.0 free e) more in
    joined _ _ _ _ _ _ before after off step

-- a node after another is placed: the bits of one node's entry
set_step : (was member_w placed_w here : Bool) (n m t : ℕ) → m + t ≡ n → was ≡ (member_w && (not placed_w && (n == 0)))
    → (placed_w ≡ true → n ≡ 0) → (here ≡ true → n ≡ 0) → (0 < t → member_w ≡ true)
    → (cond here false was || (nat_lt 0 t && (m == 0))) ≡ (member_w && (not (placed_w || here) && (m == 0)))
set_step was member_w placed_w here n m t e w d h mem = grind (arith, nat_tests)

-- one more node is placed, and its links are counted off
pub placed_more : (nodes : List ℕ) (links : List (ℕ × ℕ)) (placed counts counts' : List ℕ) (ready ready' : ℕ → Bool) (v : ℕ) → IsUnderWay nodes links placed counts ready → ready v ≡ true
    → ((w : ℕ) → slice_index counts' w + tally w (ends_from v links) ≡ slice_index counts w)
    → ((w : ℕ) → ready' w ≡ (cond (v == w) false (ready w) || (nat_lt 0 (tally w (ends_from v links)) && (slice_index counts' w == 0))))
    → ((w : ℕ) → 0 < tally w (ends_from v links) → has nodes w ≡ true)
    → IsUnderWay nodes links (placed ++ v ∷ []) counts' ready'
placed_more nodes links placed counts counts' ready ready' v u there fewer grown ends = record {
  counted = λ w. (let split : open_links links placed w ≡ open_links links (placed ++ v ∷ []) w + tally w (ends_from v links) = open_split links placed v w free in
      omega (arith, split, fewer w, u.counted w));
  done = λ w h. elim (placed_or_here w (sym (has-append placed v w) ∙ h)) [
    | inl p ↦ omega (arith, fewer w, u.done w p)
    | inr e ↦ omega (arith, fewer w, subst (λ n. slice_index counts n ≡ 0) e zero_v)
  ];
  set = λ w. grown w ∙ (rw (has-append placed v w) (set_step (ready w) (has nodes w) (has placed w) (v == w) (slice_index counts w) (slice_index counts' w) (tally w (ends_from v links))
      (fewer w) (u.set w) (u.done w) (λ e. subst (λ n. slice_index counts n ≡ 0) (same v w e) zero_v) (ends w)));
} where
  same : (a b : ℕ) → (a == b) ≡ true → a ≡ b
  same a b e = grind (arith, nat_tests)

  not_true : (b : Bool) → not b ≡ true → b ≡ false
  not_true true e = absurd (cc)
  not_true false e = refl

  placed_or_here : (w : ℕ) → (has placed w || (v == w)) ≡ true → (has placed w ≡ true) ⊎ (v ≡ w)
  placed_or_here w e = grind (arith, nat_tests)

  parts : (has nodes v ≡ true) × ((not (has placed v) && (slice_index counts v == 0)) ≡ true)
  parts = both (has nodes v) (not (has placed v) && (slice_index counts v == 0)) (sym (u.set v) ∙ there)

  more : (not (has placed v) ≡ true) × ((slice_index counts v == 0) ≡ true)
  more = both (not (has placed v)) (slice_index counts v == 0) parts.1

  free : has placed v ≡ false
  free = not_true (has placed v) more.0

  zero_v : slice_index counts v ≡ 0
  zero_v = same (slice_index counts v) 0 more.1
