-- Groups that partition the places: owners and positions, and what edges between places are between groups.
use Rattle.std.proofs.Common.{◌≡◌, ℕ, zero, suc, ◌+◌, ◌<◌, ◌≤◌, ◌==◌, ◌⊎◌, cond, min, List, [], ◌∷◌, length, Bool, true, false, Some, Contains, All, refl, sym, ◌∙◌, ap, subst, inl, inr, arith, find, filter, map, slice_index, slice_get, get_or}
use Rattle.std.specs.List.{range_with_len}
use Rattle.std.proofs.lemmas.Bool.Decides.{nat_tests}
use Rattle.std.proofs.lemmas.Option.{slice_get-get_or}
use Rattle.std.proofs.lemmas.List.Elements.{All-cons, All-tail, All-head}
use Rattle.std.proofs.lemmas.List.Folds.{find_at}
use Rattle.std.proofs.lemmas.List.Sums.{sum_by-cons, passes_at_first}
use Rattle.vx_order.specs.Groups.{has, owner_of, position_of, least_of, least, least_from, size, IsPartition, positions, links_of, contracted}
use Rattle.vx_order.specs.Fixed.{fixed_points}
use Rattle.vx_order.specs.Tables.{IsTableOf}
use Rattle.vx_order.specs.declared.table.Table.{Table}
use Rattle.vx_order.specs.Order.{Leads, IsCycle}
use Rattle.vx_order.specs.Walks.{Ascends, AreLinks}
use Rattle.vx_order.proofs.Counts.{one_or_other}
use Rattle.vx_order.proofs.Placing.{head_or_more, at_head, in_more}
use Rattle.vx_order.proofs.Stuck.{all_has}

-- there are at most as many groups as places
pub groups_few : (groups : List (List ℕ)) → All (λ group. 0 < length group) groups → length groups ≤ size groups
groups_few [] all = omega arith
groups_few (g ∷ gs) all = (let e : size (g ∷ gs) ≡ length g + size gs = sum_by-cons length g gs in
    let rest : length gs ≤ size gs = groups_few gs (All-tail (λ group. 0 < length group) g gs all) in
    let one : 0 < length g = All-head (λ group. 0 < length group) g gs all in omega arith)

group_at : (groups : List (List ℕ)) (g : ℕ) → g < length groups → slice_get groups g ≡ Some (get_or groups g [])
group_at groups g h = slice_get-get_or groups g [] h

-- the group that a place's owner names holds it
pub owner_holds : (groups : List (List ℕ)) (p : ℕ) → owner_of groups p < length groups → has (get_or groups (owner_of groups p) []) p ≡ true
owner_holds groups p h = passes_at_first (λ group. has group p) groups [] h

-- the position of a place whose owner is known
pub position_is : (groups : List (List ℕ)) (g p : ℕ) → g < length groups → owner_of groups p ≡ g → position_of groups p ≡ least (get_or groups g [])
position_is groups g p h e =
    let found : find (λ group. has group p) groups ≡ slice_get groups (owner_of groups p) = find_at (λ group. has group p) groups in
    let there : slice_get groups (owner_of groups p) ≡ Some (get_or groups g []) = subst (λ (n : ℕ). slice_get groups n ≡ Some (get_or groups g [])) (sym e) (group_at groups g h) in
    ap least_of (found ∙ there)

-- an entry of the table after one more group
pub entry : (groups : List (List ℕ)) (g p value old next : ℕ) (spec : ℕ → ℕ) → IsPartition groups → g < length groups → owner_of groups p < g + 1
    → (owner_of groups p ≡ g → spec p ≡ value) → (owner_of groups p < g → old ≡ spec p)
    → next ≡ cond (has (get_or groups g []) p) value old → next ≡ spec p
entry groups g p value old next spec part h low here before is = go (has (get_or groups g []) p) refl where
  go : (b : Bool) → has (get_or groups g []) p ≡ b → next ≡ spec p
  go true e = (is ∙ ap (λ b. cond b value old) e) ∙ sym (here (part.once g p (get_or groups g []) (group_at groups g h) e))
  go false e = elim (one_or_other (owner_of groups p) g) [
    | inl s ↦ absurd (let yes : has (get_or groups g []) p ≡ true = subst (λ (n : ℕ). has (get_or groups n []) p ≡ true) s (owner_holds groups p (omega (arith, s, h))) in
        let no : has (get_or groups g []) p ≡ false = e in cc)
    | inr d ↦ (is ∙ ap (λ b. cond b value old) e) ∙ before (omega arith)
  ]

min_is : (p q : ℕ) → (min p q ≡ p) ⊎ (min p q ≡ q)
min_is p q = grind arith

has_least_from : (p : ℕ) (ps : List ℕ) → has (p ∷ ps) (least_from p ps) ≡ true
has_least_from p [] = at_head p p [] refl
has_least_from p (q ∷ qs) = elim (head_or_more (min p q) (least_from (min p q) qs) qs (has_least_from (min p q) qs)) [
  | inl e ↦ elim (min_is p q) [
    | inl s ↦ at_head p (least_from (min p q) qs) (q ∷ qs) (sym s ∙ e)
    | inr s ↦ in_more p (least_from (min p q) qs) (q ∷ qs) (at_head q (least_from (min p q) qs) qs (sym s ∙ e))
  ]
  | inr more ↦ in_more p (least_from (min p q) qs) (q ∷ qs) (in_more q (least_from (min p q) qs) qs more)
]

-- a group holds its least member
has_least : (group : List ℕ) → 0 < length group → has group (least group) ≡ true
has_least [] h = absurd (omega arith)
has_least (p ∷ ps) h = has_least_from p ps

-- a position is a place of the same group
pub record IsPositionOf (groups : List (List ℕ)) (p q : ℕ) : Type 0 where
  pub within : q < size groups
  pub owner : owner_of groups q ≡ owner_of groups p
  pub own : position_of groups q ≡ q

pub position_own : (groups : List (List ℕ)) (p : ℕ) → IsPartition groups → p < size groups → IsPositionOf groups p (position_of groups p)
position_own groups p part h =
    let g : owner_of groups p < length groups = part.covered p h in
    let q : position_of groups p ≡ least (get_or groups (owner_of groups p) []) = position_is groups (owner_of groups p) p g refl in
    let member : has (get_or groups (owner_of groups p) []) (position_of groups p) ≡ true
    = subst (λ (n : ℕ). has (get_or groups (owner_of groups p) []) n ≡ true) (sym q) (has_least (get_or groups (owner_of groups p) []) (part.filled (owner_of groups p) [] g)) in
    let owner : owner_of groups (position_of groups p) ≡ owner_of groups p = part.once (owner_of groups p) (position_of groups p) (get_or groups (owner_of groups p) []) (group_at groups (owner_of groups p) g) member in
    record {
      within = all_has (λ n. n < size groups) (get_or groups (owner_of groups p) []) (position_of groups p) (part.within (owner_of groups p) [] g) member;
      owner = owner;
      own = position_is groups (owner_of groups p) (position_of groups p) g owner ∙ sym q;
    }

-- the entries that are their own places
pub fixed_is : (f : ℕ → ℕ) (at : ℕ) (xs : List ℕ) → ((k : ℕ) → k < length xs → slice_index xs k ≡ f (at + k)) → fixed_points at xs ≡ filter (λ p. f p == p) (range_with_len at (length xs))
fixed_is f at [] e = refl
fixed_is f at (x ∷ xs) e = go (x == at) refl (fixed_is f (at + 1) xs (λ k h. e (suc k) (omega arith) ∙ ap f (omega arith))) where
  first : x ≡ f at
  first = e zero (omega arith) ∙ ap f (omega arith)

  go : (b : Bool) → (x == at) ≡ b → fixed_points (at + 1) xs ≡ filter (λ p. f p == p) (range_with_len (at + 1) (length xs))
      → cond b (x ∷ fixed_points (at + 1) xs) (fixed_points (at + 1) xs) ≡ cond (f at == at) (at ∷ filter (λ p. f p == p) (range_with_len (at + 1) (length xs))) (filter (λ p. f p == p) (range_with_len (at + 1) (length xs)))
  go true s rest = (let same : x ≡ at = grind (arith, nat_tests) in let t : (f at == at) ≡ true = subst (λ (n : ℕ). (n == at) ≡ true) first s in rw (t, same, rest) refl)
  go false s rest = (let t : (f at == at) ≡ false = subst (λ (n : ℕ). (n == at) ≡ false) first s in rw (t, rest) refl)

pub range_ascends : (p : ℕ → Bool) (at n low : ℕ) → low ≤ at → Ascends low (filter p (range_with_len at n))
range_ascends p at zero low h = tt
range_ascends p at (suc n) low h = go (p at) (range_ascends p (at + 1) n low (omega arith)) (range_ascends p (at + 1) n (at + 1) (omega arith)) where
  go : (b : Bool) → Ascends low (filter p (range_with_len (at + 1) n)) → Ascends (at + 1) (filter p (range_with_len (at + 1) n)) → Ascends low (cond b (at ∷ filter p (range_with_len (at + 1) n)) (filter p (range_with_len (at + 1) n)))
  go true wide narrow = (h, narrow)
  go false wide narrow = wide

pub range_below : (p : ℕ → Bool) (at n top : ℕ) → at + n ≤ top → All (λ v. v < top) (filter p (range_with_len at n))
range_below p at zero top h = λ k d low. absurd (omega arith)
range_below p at (suc n) top h = go (p at) (range_below p (at + 1) n top (omega arith)) where
  go : (b : Bool) → All (λ v. v < top) (filter p (range_with_len (at + 1) n)) → All (λ v. v < top) (cond b (at ∷ filter p (range_with_len (at + 1) n)) (filter p (range_with_len (at + 1) n)))
  go true rest = All-cons (λ v. v < top) at (filter p (range_with_len (at + 1) n)) (omega arith) rest
  go false rest = rest

pub range_has : (p : ℕ → Bool) (at n v : ℕ) → at ≤ v → v < at + n → p v ≡ true → has (filter p (range_with_len at n)) v ≡ true
range_has p at zero v low high e = absurd (omega arith)
range_has p at (suc n) v low high e = go (p at) refl (λ more. range_has p (at + 1) n v more (omega arith) e) where
  go : (b : Bool) → p at ≡ b → (at + 1 ≤ v → has (filter p (range_with_len (at + 1) n)) v ≡ true) → has (cond b (at ∷ filter p (range_with_len (at + 1) n)) (filter p (range_with_len (at + 1) n))) v ≡ true
  go true q rest = elim (one_or_other at v) [ inl s ↦ at_head at v (filter p (range_with_len (at + 1) n)) s | inr d ↦ in_more at v (filter p (range_with_len (at + 1) n)) (rest (omega arith)) ]
  go false q rest = elim (one_or_other at v) [ inl s ↦ absurd (let yes : p at ≡ true = subst (λ (n : ℕ). p n ≡ true) (sym s) e in cc) | inr d ↦ rest (omega arith) ]

-- a position is among the positions
pub position_among : (groups : List (List ℕ)) (p : ℕ) → IsPartition groups → p < size groups → has (positions groups) (position_of groups p) ≡ true
position_among groups p part h =
    let own : IsPositionOf groups p (position_of groups p) = position_own groups p part h in
    range_has (λ v. position_of groups v == v) 0 (size groups) (position_of groups p) (omega arith) (omega (arith, own.within)) (equal (position_of groups (position_of groups p)) (position_of groups p) own.own) where
      equal : (a b : ℕ) → a ≡ b → (a == b) ≡ true
      equal a b e = grind (arith, nat_tests)

pub are_links : (groups : List (List ℕ)) (edges : List (ℕ × ℕ)) → IsPartition groups → All (λ e. (e.0 < size groups) × (e.1 < size groups)) edges → AreLinks (positions groups) (links_of groups edges)
are_links groups [] part all = λ k d h. absurd (omega arith)
are_links groups (e ∷ es) part all =
    let ends : (e.0 < size groups) × (e.1 < size groups) = All-head (λ e. (e.0 < size groups) × (e.1 < size groups)) e es all in
    All-cons (λ l. (has (positions groups) l.0 ≡ true) × (has (positions groups) l.1 ≡ true)) (position_of groups e.0, position_of groups e.1) (links_of groups es)
    (position_among groups e.0 part ends.0, position_among groups e.1 part ends.1)
    (are_links groups es part (All-tail (λ e. (e.0 < size groups) × (e.1 < size groups)) e es all))

-- a link between positions is an edge between groups
link_edge : (groups : List (List ℕ)) (edges : List (ℕ × ℕ)) (a b : ℕ) → IsPartition groups → All (λ e. (e.0 < size groups) × (e.1 < size groups)) edges → Contains (links_of groups edges) (a, b) → Contains (contracted groups edges) (owner_of groups a, owner_of groups b)
link_edge groups [] a b part all c = absurd (omega (arith, c.1))
link_edge groups (e ∷ es) a b part all (zero, low, at) =
    let ends : (e.0 < size groups) × (e.1 < size groups) = All-head (λ e. (e.0 < size groups) × (e.1 < size groups)) e es all in
    let from : position_of groups e.0 ≡ a = ap (λ (l : ℕ × ℕ). l.0) at in
    let to : position_of groups e.1 ≡ b = ap (λ (l : ℕ × ℕ). l.1) at in
    let one : owner_of groups e.0 ≡ owner_of groups a = sym (position_own groups e.0 part ends.0).owner ∙ ap (owner_of groups) from in
    let two : owner_of groups e.1 ≡ owner_of groups b = sym (position_own groups e.1 part ends.1).owner ∙ ap (owner_of groups) to in
    (zero, omega arith, pair one two) where
      pair : {u v w x : ℕ} → u ≡ v → w ≡ x → ◌≡◌ {A = ℕ × ℕ} (u, w) (v, x)
      pair p q = cc
link_edge groups (e ∷ es) a b part all (suc k, low, at) =
    let rest : Contains (contracted groups es) (owner_of groups a, owner_of groups b)
    = link_edge groups es a b part (All-tail (λ e. (e.0 < size groups) × (e.1 < size groups)) e es all) (k, omega (arith, low), at) in
    (suc rest.0, omega (arith, rest.1), rest.2)

leads_edges : (groups : List (List ℕ)) (edges : List (ℕ × ℕ)) (a : ℕ) (vs : List ℕ) (b : ℕ) → IsPartition groups → All (λ e. (e.0 < size groups) × (e.1 < size groups)) edges → Leads (links_of groups edges) a vs b
    → Leads (contracted groups edges) (owner_of groups a) (map (owner_of groups) vs) (owner_of groups b)
leads_edges groups edges a [] b part all l = link_edge groups edges a b part all l
leads_edges groups edges a (v ∷ vs) b part all l = (link_edge groups edges a v part all l.0, leads_edges groups edges v vs b part all l.1)

-- a cycle of positions is one of groups
pub cycle_edges : (groups : List (List ℕ)) (edges : List (ℕ × ℕ)) (vs : List ℕ) → IsPartition groups → All (λ e. (e.0 < size groups) × (e.1 < size groups)) edges → IsCycle (links_of groups edges) vs → IsCycle (contracted groups edges) (map (owner_of groups) vs)
cycle_edges groups edges [] part all c = c
cycle_edges groups edges (v ∷ vs) part all c = leads_edges groups edges v vs v part all c

-- two functions that agree below a bound
pub map_below : (f g : ℕ → ℕ) (n : ℕ) (xs : List ℕ) → ((p : ℕ) → p < n → f p ≡ g p) → All (λ p. p < n) xs → map f xs ≡ map g xs
map_below f g n [] e all = refl
map_below f g n (x ∷ xs) e all =
    let rest : map f xs ≡ map g xs = map_below f g n xs e (All-tail (λ p. p < n) x xs all) in
    let one : f x ≡ g x = e x (All-head (λ p. p < n) x xs all) in cc

-- both ends of a link under a function
abbrev pub both_ends : (ℕ → ℕ) → ℕ × ℕ → ℕ × ℕ
both_ends f e = (f e.0, f e.1)

pub links_below_map : (f g : ℕ → ℕ) (n : ℕ) (edges : List (ℕ × ℕ)) → ((p : ℕ) → p < n → f p ≡ g p) → All (λ e. (e.0 < n) × (e.1 < n)) edges → map (both_ends f) edges ≡ map (both_ends g) edges
links_below_map f g n [] e all = refl
links_below_map f g n (x ∷ xs) e all =
    let rest : map (both_ends f) xs ≡ map (both_ends g) xs = links_below_map f g n xs e (All-tail (λ e. (e.0 < n) × (e.1 < n)) x xs all) in
    let ends : (x.0 < n) × (x.1 < n) = All-head (λ e. (e.0 < n) × (e.1 < n)) x xs all in
    let one : f x.0 ≡ g x.0 = e x.0 ends.0 in let two : f x.1 ≡ g x.1 = e x.1 ends.1 in
    let here : both_ends f x ≡ both_ends g x = cc in cc

pub nodes_are : (groups : List (List ℕ)) (t : Table) → IsTableOf groups t → fixed_points 0 t.positions.items ≡ positions groups
nodes_are groups t table = fixed_is (position_of groups) 0 t.positions.items (λ k h. table.positions k (omega (arith, table.positions_len)) ∙ ap (position_of groups) (omega arith))
    ∙ ap (λ n. filter (λ p. position_of groups p == p) (range_with_len 0 n)) table.positions_len

pub links_are : (groups : List (List ℕ)) (t : Table) (edges : List (ℕ × ℕ)) → IsTableOf groups t → All (λ e. (e.0 < size groups) × (e.1 < size groups)) edges → map (both_ends (slice_index t.positions.items)) edges ≡ links_of groups edges
links_are groups t edges table all = links_below_map (slice_index t.positions.items) (position_of groups) (size groups) edges table.positions all

pub owners_are : (groups : List (List ℕ)) (t : Table) (xs : List ℕ) → IsTableOf groups t → All (λ p. p < size groups) xs → map (slice_index t.owners.items) xs ≡ map (owner_of groups) xs
owners_are groups t xs table all = map_below (slice_index t.owners.items) (owner_of groups) (size groups) xs table.owners all

pub positions_below : (groups : List (List ℕ)) → All (λ p. p < size groups) (positions groups)
positions_below groups = range_below (λ p. position_of groups p == p) 0 (size groups) (size groups) (omega arith)

-- members that are positions are places
pub members_below : (groups : List (List ℕ)) (xs : List ℕ) → ((v : ℕ) → has xs v ≡ true → has (positions groups) v ≡ true) → All (λ p. p < size groups) xs
members_below groups [] in_all = λ k d h. absurd (omega arith)
members_below groups (x ∷ xs) in_all = All-cons (λ p. p < size groups) x xs (all_has (λ p. p < size groups) (positions groups) x (positions_below groups) (in_all x (at_head x x xs refl)))
    (members_below groups xs (λ v h. in_all v (in_more x v xs h)))
