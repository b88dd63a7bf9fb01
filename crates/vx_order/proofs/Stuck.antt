-- What is known of members, of ends of links, and where no node may come next.
use Rattle.std.proofs.Common.{◌≡◌, ◌≢◌, ℕ, zero, suc, ◌+◌, ◌<◌, ◌≤◌, ◌==◌, ◌⊎◌, ◌&&◌, not, cond, List, [], ◌∷◌, ◌++◌, length, Bool, true, false, Some, None, Contains, All, refl, sym, ◌∙◌, ap, subst, inl, inr, arith, count_by, filter, map, slice_index, drop, get_or, option_and_then, add-one, drop-cons}
use Rattle.std.specs.List.{list_any}
use Rattle.std.specs.Ordering.{nat_cmp, is_eq, is_gt}
use Rattle.std.specs.BTreeSet.{contains, btree_set_len, BTreeSet}
use Rattle.std.proofs.lemmas.Bool.Decides.{nat_tests}
use Rattle.std.proofs.lemmas.List.Elements.{All-cons, All-tail, All-head}
use Rattle.std.proofs.lemmas.List.Sums.{sum_by-cons}
use Rattle.std.proofs.lemmas.Option.{slice_get-get_or, get_or_from_slice_get}
use Rattle.vx_order.specs.Groups.{has}
use Rattle.vx_order.specs.Order.{next, place, order_on}
use Rattle.vx_order.specs.Walks.{Ascends, AreLinks, tally, ends_from}
use Rattle.vx_order.specs.Backward.{IsOpenBefore}
use Rattle.vx_order.proofs.Counts.{bit}
use Rattle.vx_order.proofs.Placing.{IsUnderWay, open_split, both, head_or_more, at_head, in_more, ascends_has}

-- the place of a member
pub has_at : (xs : List ℕ) (v : ℕ) → has xs v ≡ true → (k : ℕ) × (k < length xs) × (slice_index xs k ≡ v)
has_at [] v h = absurd (cc)
has_at (x ∷ xs) v h = elim (head_or_more x v xs h) [
  | inl e ↦ (zero, omega arith, e)
  | inr more ↦ (let found : (k : ℕ) × (k < length xs) × (slice_index xs k ≡ v) = has_at xs v more in (suc found.0, omega (arith, found.1), found.2))
]

pub at_has : (xs : List ℕ) (k : ℕ) → k < length xs → has xs (slice_index xs k) ≡ true
at_has [] k h = absurd (omega arith)
at_has (x ∷ xs) zero h = at_head x x xs refl
at_has (x ∷ xs) (suc k) h = in_more x (slice_index xs k) xs (at_has xs k (omega arith))

pub all_has : (P : ℕ → Type 0) (xs : List ℕ) (v : ℕ) → All P xs → has xs v ≡ true → P v
all_has P xs v all h = (let found : (k : ℕ) × (k < length xs) × (slice_index xs k ≡ v) = has_at xs v h in subst P found.2 (all found.0 0 found.1))

-- both ends of links are below the bound of the nodes
pub links_below : (nodes : List ℕ) (links : List (ℕ × ℕ)) (bound : ℕ) → All (λ v. v < bound) nodes → AreLinks nodes links → All (λ l. (l.0 < bound) × (l.1 < bound)) links
links_below nodes links bound low are = λ k d h. (all_has (λ v. v < bound) nodes (get_or links k d).0 low (are k d h).0, all_has (λ v. v < bound) nodes (get_or links k d).1 low (are k d h).1)

-- what holds of all ends of links holds of those of the links from a node
pub ends_all : (P : ℕ → Type 0) (links : List (ℕ × ℕ)) (v : ℕ) → All (λ l. P l.1) links → All P (ends_from v links)
ends_all P [] v all = λ k d h. absurd (omega arith)
ends_all P (l ∷ ls) v all = go (l.0 == v) (ends_all P ls v (All-tail (λ l. P l.1) l ls all)) where
  go : (b : Bool) → All P (ends_from v ls) → All P (map (λ l. l.1) (cond b (l ∷ filter (λ l. l.0 == v) ls) (filter (λ l. l.0 == v) ls)))
  go true rest = All-cons P l.1 (ends_from v ls) (All-head (λ l. P l.1) l ls all) rest
  go false rest = rest

bit_or_rest : (b : Bool) (n : ℕ) → 0 < bit b + n → (b ≡ true) ⊎ (0 < n)
bit_or_rest true n h = inl refl
bit_or_rest false n h = inr (omega arith)

-- a number that is counted is there
pub tally_has : (xs : List ℕ) (v : ℕ) → 0 < tally v xs → has xs v ≡ true
tally_has [] v h = absurd (omega arith)
tally_has (x ∷ xs) v h = (let e : tally v (x ∷ xs) ≡ bit (x == v) + tally v xs = sum_by-cons (λ y. bit (y == v)) x xs in
    elim (bit_or_rest (x == v) (tally v xs) (omega (arith, e))) [ inl p ↦ at_head x v xs (same x v p) | inr more ↦ in_more x v xs (tally_has xs v more) ]) where
      same : (a b : ℕ) → (a == b) ≡ true → a ≡ b
      same a b e = grind (arith, nat_tests)

pub ends_are_nodes : (nodes : List ℕ) (links : List (ℕ × ℕ)) (v w : ℕ) → AreLinks nodes links → 0 < tally w (ends_from v links) → has nodes w ≡ true
ends_are_nodes nodes links v w are h = all_has (λ u. has nodes u ≡ true) (ends_from v links) w (ends_all (λ u. has nodes u ≡ true) links v (λ k d low. (are k d low).1)) (tally_has (ends_from v links) w h)

-- a link that is counted
pub some_counted : (p : ℕ × ℕ → Bool) (links : List (ℕ × ℕ)) → 0 < count_by p links → (l : ℕ × ℕ) × Contains links l × (p l ≡ true)
some_counted p [] h = absurd (omega arith)
some_counted p (l ∷ ls) h = (let e : count_by p (l ∷ ls) ≡ bit (p l) + count_by p ls = sum_by-cons (λ y. bit (p y)) l ls in
    elim (bit_or_rest (p l) (count_by p ls) (omega (arith, e))) [
      | inl y ↦ (l, (zero, omega arith, refl), y)
      | inr more ↦ (let found : (m : ℕ × ℕ) × Contains ls m × (p m ≡ true) = some_counted p ls more in
          (found.0, (suc found.1.0, omega (arith, found.1.1), found.1.2), found.2))
    ])

pub at_eq : (a b : ℕ) → is_eq (nat_cmp a b) ≡ (a == b)
at_eq a b = grind (arith, nat_tests)

pub least_le : (a b : ℕ) → is_gt (nat_cmp a b) ≡ false → a ≤ b
least_le a b h = grind (arith, nat_tests)

-- a set without keys has nothing
pub empty_has : (s : BTreeSet ℕ) (w : ℕ) → (0 < btree_set_len s → ⊥) → contains nat_cmp s w ≡ false
empty_has s w none = go s.keys none where
  go : (keys : List ℕ) → (0 < length keys → ⊥) → list_any (λ k. is_eq (nat_cmp w k)) keys ≡ false
  go [] none = refl
  go (k ∷ ks) none = absurd (none (omega arith))

-- a node that may come next is not placed
pub free_of : (nodes : List ℕ) (links : List (ℕ × ℕ)) (placed counts : List ℕ) (ready : ℕ → Bool) (v : ℕ) → IsUnderWay nodes links placed counts ready → ready v ≡ true → has placed v ≡ false
free_of nodes links placed counts ready v u there = (let parts : (has nodes v ≡ true) × ((not (has placed v) && (slice_index counts v == 0)) ≡ true) = both (has nodes v) (not (has placed v) && (slice_index counts v == 0)) (sym (u.set v) ∙ there) in
    not_true (has placed v) (both (not (has placed v)) (slice_index counts v == 0) parts.1).0) where
      not_true : (b : Bool) → not b ≡ true → b ≡ false
      not_true true e = absurd (cc)
      not_true false e = refl

-- what is counted off was counted
pub release_counted : (nodes : List ℕ) (links : List (ℕ × ℕ)) (placed counts : List ℕ) (ready : ℕ → Bool) (v w : ℕ) → IsUnderWay nodes links placed counts ready → ready v ≡ true → tally w (ends_from v links) ≤ slice_index counts w
release_counted nodes links placed counts ready v w u there =
    omega (arith, u.counted w, open_split links placed v w (free_of nodes links placed counts ready v u there))

-- one more node of the order
pub place_more : (nodes : List ℕ) (links : List (ℕ × ℕ)) (placed : List ℕ) (i v : ℕ) → i < length nodes → next nodes links placed ≡ Some v → place nodes links placed (drop i nodes) ≡ order_on nodes links
    → place nodes links (placed ++ v ∷ []) (drop (i + 1) nodes) ≡ order_on nodes links
place_more nodes links placed i v h n e =
    subst (λ k. place nodes links (placed ++ v ∷ []) (drop k nodes) ≡ order_on nodes links) (sym (add-one i))
    (sym (ap (option_and_then (λ u. place nodes links (placed ++ u ∷ []) (drop (suc i) nodes))) n) ∙ sym (ap (place nodes links placed) (drop-cons nodes i 0 h)) ∙ e)

-- no further node, and so no order
pub place_none : (nodes : List ℕ) (links : List (ℕ × ℕ)) (placed : List ℕ) (i : ℕ) → i < length nodes → next nodes links placed ≡ None → place nodes links placed (drop i nodes) ≡ order_on nodes links → order_on nodes links ≡ None
place_none nodes links placed i h n e =
    sym e ∙ ap (place nodes links placed) (drop-cons nodes i 0 h) ∙ ap (option_and_then (λ u. place nodes links (placed ++ u ∷ []) (drop (suc i) nodes))) n

shorter : (ys : List ℕ) (v : ℕ) → length (filter (λ y. not (y == v)) ys) ≤ length ys
shorter [] v = omega arith
shorter (y ∷ ys) v = go (y == v) (shorter ys v) where
  go : (b : Bool) → length (filter (λ y. not (y == v)) ys) ≤ length ys → length (cond (not b) (y ∷ filter (λ y. not (y == v)) ys) (filter (λ y. not (y == v)) ys)) ≤ suc (length ys)
  go true h = omega arith
  go false h = omega arith

shorter_by : (ys : List ℕ) (v : ℕ) → has ys v ≡ true → length (filter (λ y. not (y == v)) ys) < length ys
shorter_by [] v h = absurd (cc)
shorter_by (y ∷ ys) v h = go (y == v) refl (λ more. shorter_by ys v more) where
  go : (b : Bool) → (y == v) ≡ b → (has ys v ≡ true → length (filter (λ y. not (y == v)) ys) < length ys)
      → length (cond (not b) (y ∷ filter (λ y. not (y == v)) ys) (filter (λ y. not (y == v)) ys)) < suc (length ys)
  go true e rest = (let s : length (filter (λ y. not (y == v)) ys) ≤ length ys = shorter ys v in omega arith)
  go false e rest = elim (head_or_more y v ys h) [
    | inl s ↦ absurd (let t : (y == v) ≡ true = grind (arith, nat_tests) in cc)
    | inr more ↦ (let s : length (filter (λ y. not (y == v)) ys) < length ys = rest more in omega arith)
  ]

still_has : (ys : List ℕ) (v w : ℕ) → w ≢ v → has ys w ≡ true → has (filter (λ y. not (y == v)) ys) w ≡ true
still_has [] v w d h = absurd (cc)
still_has (y ∷ ys) v w d h = go (y == v) refl (λ more. still_has ys v w d more) where
  go : (b : Bool) → (y == v) ≡ b → (has ys w ≡ true → has (filter (λ y. not (y == v)) ys) w ≡ true) → has (cond (not b) (y ∷ filter (λ y. not (y == v)) ys) (filter (λ y. not (y == v)) ys)) w ≡ true
  go true e rest = elim (head_or_more y w ys h) [
    | inl s ↦ absurd (d (let t : y ≡ v = grind (arith, nat_tests) in sym s ∙ t))
    | inr more ↦ rest more
  ]
  go false e rest = elim (head_or_more y w ys h) [
    | inl s ↦ at_head y w (filter (λ y. not (y == v)) ys) s
    | inr more ↦ in_more y w (filter (λ y. not (y == v)) ys) (rest more)
  ]

-- ascending numbers that all stand in a list are at most as many
pub as_many : (low : ℕ) (xs ys : List ℕ) → Ascends low xs → ((v : ℕ) → has xs v ≡ true → has ys v ≡ true) → length xs ≤ length ys
as_many low [] ys a in_ys = omega arith
as_many low (x ∷ xs) ys a in_ys =
    let rest : length xs ≤ length (filter (λ y. not (y == x)) ys) = as_many (x + 1) xs (filter (λ y. not (y == x)) ys) a.1 (λ v member.
    still_has ys x v (λ e. (let far : x + 1 ≤ v = ascends_has (x + 1) xs v a.1 member in absurd (omega (arith, e)))) (in_ys v (in_more x v xs member))) in
    let less : length (filter (λ y. not (y == x)) ys) < length ys = shorter_by ys x (in_ys x (at_head x x xs refl)) in
    omega arith

-- some of these has open links, or none has
pub open_or_none : (counts xs : List ℕ) → ((k : ℕ) × (k < length xs) × (0 < slice_index counts (slice_index xs k))) ⊎ ((v : ℕ) → has xs v ≡ true → slice_index counts v ≡ 0)
open_or_none counts [] = inr (λ v h. absurd (cc))
open_or_none counts (x ∷ xs) = elim (zero_or (slice_index counts x)) [
  | inr pos ↦ inl (zero, omega arith, pos)
  | inl z ↦ elim (open_or_none counts xs) [
    | inl found ↦ inl (suc found.0, omega (arith, found.1), found.2)
    | inr none ↦ inr (λ v h. elim (head_or_more x v xs h) [ inl e ↦ subst (λ n. slice_index counts n ≡ 0) e z | inr more ↦ none v more ])
  ]
] where
  zero_or : (n : ℕ) → (n ≡ 0) ⊎ (0 < n)
  zero_or n = grind arith

-- where no node may come next, one that is not placed has the count 0 never
pub placed_if_zero : (member was : Bool) (n : ℕ) → (member && (not was && (n == 0))) ≡ false → member ≡ true → n ≡ 0 → was ≡ true
placed_if_zero member was n e m z = grind (arith, nat_tests)

-- with fewer nodes placed than there are, and none that may come next, one has open links
pub some_open : (nodes : List ℕ) (links : List (ℕ × ℕ)) (placed counts : List ℕ) (ready : ℕ → Bool) → Ascends 0 nodes → IsUnderWay nodes links placed counts ready → ((w : ℕ) → ready w ≡ false) → length placed < length nodes
    → (k : ℕ) × (k < length nodes) × (0 < slice_index counts (slice_index nodes k))
some_open nodes links placed counts ready up u empty few = elim (open_or_none counts nodes) [
  | inl found ↦ found
  | inr none ↦ absurd (let many : length nodes ≤ length placed = as_many 0 nodes placed up (λ v member. placed_if_zero (has nodes v) (has placed v) (slice_index counts v) (sym (u.set v) ∙ empty v) member (none v member)) in omega arith)
]

not_zero : (member was : Bool) (n : ℕ) → (member && (not was && (n == 0))) ≡ false → member ≡ true → was ≡ false → 0 < n
not_zero member was n e m w = grind (arith, nat_tests)

open_link_parts : (a h : Bool) → (a && not h) ≡ true → (a ≡ true) × (h ≡ false)
open_link_parts true true e = absurd (cc)
open_link_parts true false e = (refl, refl)
open_link_parts false h e = absurd (cc)

-- then each number with open links has a link from such a number
pub open_before : (nodes : List ℕ) (links : List (ℕ × ℕ)) (placed counts : List ℕ) (ready : ℕ → Bool) (v : ℕ) → AreLinks nodes links → IsUnderWay nodes links placed counts ready → ((w : ℕ) → ready w ≡ false) → 0 < slice_index counts v
    → (u : ℕ) × IsOpenBefore links counts u v
open_before nodes links placed counts ready v are w empty pos =
    let found : (l : ℕ × ℕ) × Contains links l × (((l.1 == v) && not (has placed l.0)) ≡ true) = some_counted (λ l. (l.1 == v) && not (has placed l.0)) links (omega (arith, w.counted v)) in
    let parts : ((found.0.1 == v) ≡ true) × (has placed found.0.0 ≡ false) = open_link_parts (found.0.1 == v) (has placed found.0.0) found.2 in
    let to : found.0.1 ≡ v = same found.0.1 v parts.0 in
    let member : has nodes found.0.0 ≡ true = subst (λ (l : ℕ × ℕ). has nodes l.0 ≡ true) found.1.2 (are found.1.0 found.0 found.1.1).0 in (
      found.0.0,
      record {
        link = subst (λ n. Contains links (found.0.0, n)) to found.1;
        is_open = not_zero (has nodes found.0.0) (has placed found.0.0) (slice_index counts found.0.0) (sym (w.set found.0.0) ∙ empty found.0.0) member parts.1;
      },
    ) where
      same : (a b : ℕ) → (a == b) ≡ true → a ≡ b
      same a b e = grind (arith, nat_tests)

-- a number with open links is a node
pub open_is_node : (nodes : List ℕ) (links : List (ℕ × ℕ)) (placed counts : List ℕ) (ready : ℕ → Bool) (v : ℕ) → AreLinks nodes links → IsUnderWay nodes links placed counts ready → 0 < slice_index counts v → has nodes v ≡ true
open_is_node nodes links placed counts ready v are w pos =
    let found : (l : ℕ × ℕ) × Contains links l × (((l.1 == v) && not (has placed l.0)) ≡ true) = some_counted (λ l. (l.1 == v) && not (has placed l.0)) links (omega (arith, w.counted v)) in
    let parts : ((found.0.1 == v) ≡ true) × (has placed found.0.0 ≡ false) = open_link_parts (found.0.1 == v) (has placed found.0.0) found.2 in
    let to : found.0.1 ≡ v = same found.0.1 v parts.0 in
    subst (λ n. has nodes n ≡ true) to (subst (λ (l : ℕ × ℕ). has nodes l.1 ≡ true) found.1.2 (are found.1.0 found.0 found.1.1).1) where
      same : (a b : ℕ) → (a == b) ≡ true → a ≡ b
      same a b e = grind (arith, nat_tests)

-- a row that was read with itself as the default
pub row_at : (rows : List (List ℕ)) (i : ℕ) (row : List ℕ) → i < length rows → row ≡ get_or rows i row → row ≡ get_or rows i []
row_at rows i row h e = sym (get_or_from_slice_get rows i row [] (slice_get-get_or rows i row h ∙ ap Some (sym e)))

pub all_last : (P : ℕ → Type 0) (xs : List ℕ) (v : ℕ) → All P xs → P v → All P (xs ++ v ∷ [])
all_last P [] v all p = All-cons P v [] p (λ k d h. absurd (omega arith))
all_last P (x ∷ xs) v all p = All-cons P x (xs ++ v ∷ []) (All-head P x xs all) (all_last P xs v (All-tail P x xs all) p)

pub length_last : (xs : List ℕ) (v : ℕ) → length (xs ++ v ∷ []) ≡ length xs + 1
length_last [] v = refl
length_last (x ∷ xs) v = (let e : length (xs ++ v ∷ []) ≡ length xs + 1 = length_last xs v in omega arith)
