-- What the schedule of groups gives: all places, each group after those that it has links from.
use Rattle.std.proofs.Common.{◌≡◌, refl, sym, ap, ◌∙◌, ℕ, suc, ◌<◌, ◌≤◌, ◌==◌, ◌⊎◌, inl, inr, Bool, true, false, not, ◌||◌, cond, Option, None, Some, List, [], ◌∷◌, ◌++◌, length, append-nil, map, find, nat_lt, get_or, option_and_then, arith}
use Rattle.std.specs.List.{list_all, range_with_len}
use Rattle.std.proofs.lemmas.Bool.Decides.{nat_tests}
use Rattle.vx_order.specs.Groups.{has, owner_of, position_of, least, size, positions, links_of}
use Rattle.vx_order.specs.Order.{is_ready, next, place}
use Rattle.vx_order.specs.Walks.{Ascends}
use Rattle.vx_order.proofs.Placing.{both, head_or_more, at_head, in_more}
use Rattle.vx_order.proofs.Holding.{range_has}
use Rattle.vx_serial.specs.Window.{joined}
use Rattle.rf_order.specs.Rows.{Reordered}
use Rattle.vx_serial.proofs.Grouped.{distinct_group, filter_passes, group_of, has_least, in_joined, long_joined, owner_holds, owner_unique, position_is}
use Rattle.vx_serial.proofs.Numbers.{same_number, number_itself, has_front, has_back, has_part, Distinct, distinct_both, fits, fills, ascends_distinct}
use Rattle.vx_serial.proofs.Decided.{not_true, or_first, or_second, true_false}
use Rattle.rf_order.proofs.Numbers.{also, Topological, topological_more, reordered}

-- ---- places one after another

append_more : {A : Type 0} (xs : List A) (y : A) (ys : List A) → (xs ++ y ∷ []) ++ ys ≡ xs ++ y ∷ ys
append_more [] y ys = refl
append_more (x ∷ xs) y ys = ap (λ r. x ∷ r) (append_more xs y ys)

-- each of these may come next when it does
abbrev pub Chosen : List ℕ → List (ℕ × ℕ) → List ℕ → List ℕ → Type 0
Chosen nodes links placed [] = Unit {0}
Chosen nodes links placed (w ∷ ws) = (is_ready links placed w ≡ true) × (has nodes w ≡ true) × Chosen nodes links (placed ++ w ∷ []) ws

pub record Placed (nodes : List ℕ) (links : List (ℕ × ℕ)) (placed vs : List ℕ) (n : ℕ) : Type 0 where
  pub more : List ℕ
  pub is : vs ≡ placed ++ more
  pub long : length more ≡ n
  pub chosen : Chosen nodes links placed more

find_is : (p : ℕ → Bool) (xs : List ℕ) (v : ℕ) → find p xs ≡ Some v → (p v ≡ true) × (has xs v ≡ true)
find_is p [] v e = absurd cc
find_is p (x ∷ xs) v e = by_test (p x) refl e (λ d. find_is p xs v d) where
  by_test : (b : Bool) → p x ≡ b → cond b (Some x) (find p xs) ≡ Some v → (find p xs ≡ Some v → (p v ≡ true) × (has xs v ≡ true)) → (p v ≡ true) × (has (x ∷ xs) v ≡ true)
  by_test true h e more = let same : x ≡ v = cc in (ap p (sym same) ∙ h, at_head x v xs same)
  by_test false h e more = let r = more e in (r.0, in_more x v xs r.1)

pub place_is : (nodes : List ℕ) (links : List (ℕ × ℕ)) (fuel placed vs : List ℕ) → place nodes links placed fuel ≡ Some vs → Placed nodes links placed vs (length fuel)
place_is nodes links [] placed vs e = let same : placed ≡ vs = cc in record { more = []; is = sym same ∙ sym (append-nil placed); long = refl; chosen = tt }
place_is nodes links (x ∷ fuel) placed vs e = by_next (next nodes links placed) refl e (λ v d. place_is nodes links fuel (placed ++ v ∷ []) vs d) where
  by_next : (o : Option ℕ) → next nodes links placed ≡ o → option_and_then (λ v. place nodes links (placed ++ v ∷ []) fuel) o ≡ Some vs →
      ((v : ℕ) → place nodes links (placed ++ v ∷ []) fuel ≡ Some vs → Placed nodes links (placed ++ v ∷ []) vs (length fuel)) → Placed nodes links placed vs (length (x ∷ fuel))
  by_next None is e more = absurd cc
  by_next (Some v) is e more =
      let r = more v e in
      let f = find_is (is_ready links placed) nodes v is in
      record { more = v ∷ r.more; is = r.is ∙ append_more placed v r.more; long = ap suc r.long; chosen = (f.0, f.1, r.chosen) }

not_is : (b : Bool) → not b ≡ true → b ≡ false
not_is true h = absurd cc
not_is false h = refl

pub chosen_distinct : (nodes : List ℕ) (links : List (ℕ × ℕ)) (ws placed : List ℕ) → Chosen nodes links placed ws → Distinct ws × ((x : ℕ) → has ws x ≡ true → has placed x ≡ false)
chosen_distinct nodes links [] placed c = (tt, λ x h. absurd cc)
chosen_distinct nodes links (w ∷ ws) placed c =
    let rest = chosen_distinct nodes links ws (placed ++ w ∷ []) c.2 in
    let fresh : has placed w ≡ false = not_is (has placed w) (both (not (has placed w)) (list_all (λ l. not (l.1 == w) || has placed l.0) links) c.0).0 in (
      (not_true (has ws w) (λ h. true_false (sym (has_back placed (w ∷ []) w (or_first (w == w) false (number_itself w))) ∙ rest.1 w h)), rest.0),
      λ x h. by_first x rest fresh (head_or_more w x ws h),
    )
  where
    by_first : (x : ℕ) → Distinct ws × ((x : ℕ) → has ws x ≡ true → has (placed ++ w ∷ []) x ≡ false) → has placed w ≡ false → (w ≡ x) ⊎ (has ws x ≡ true) → has placed x ≡ false
    by_first x rest fresh (inl e) = ap (has placed) (sym e) ∙ fresh
    by_first x rest fresh (inr h) = not_true (has placed x) (λ k. true_false (sym (has_front placed (w ∷ []) x k) ∙ rest.1 x h))

pub chosen_among : (nodes : List ℕ) (links : List (ℕ × ℕ)) (ws placed : List ℕ) → Chosen nodes links placed ws → (x : ℕ) → has ws x ≡ true → has nodes x ≡ true
chosen_among nodes links [] placed c x h = absurd cc
chosen_among nodes links (w ∷ ws) placed c x h = by_first (head_or_more w x ws h) (λ k. chosen_among nodes links ws (placed ++ w ∷ []) c.2 x k) where
  by_first : (w ≡ x) ⊎ (has ws x ≡ true) → (has ws x ≡ true → has nodes x ≡ true) → has nodes x ≡ true
  by_first (inl e) more = ap (has nodes) (sym e) ∙ c.1
  by_first (inr k) more = more k

-- ---- groups in turn

-- each group stands after all that its members depend on
abbrev pub InTurn : (ℕ → ℕ → Bool) → (ℕ → Bool) → List (List ℕ) → Type 0
InTurn depends done [] = Unit {0}
InTurn depends done (g ∷ gs) = ((y : ℕ) → has g y ≡ true → (x : ℕ) → x < y → depends y x ≡ true → done x ≡ true) × InTurn depends (λ x. has g x || done x) gs

in_turn_more : (depends : ℕ → ℕ → Bool) (few more : ℕ → Bool) (gs : List (List ℕ)) → ((x : ℕ) → few x ≡ true → more x ≡ true) → InTurn depends few gs → InTurn depends more gs
in_turn_more depends few more [] h t = tt
in_turn_more depends few more (g ∷ gs) h t = (
  (λ y k x less d. h x (t.0 y k x less d)),
  in_turn_more depends (λ x. has g x || few x) (λ x. has g x || more x) gs (λ x. either_way (has g x) (few x) (more x) (h x)) t.1,
)
  where
    either_way : (b a d : Bool) → (a ≡ true → d ≡ true) → (b || a) ≡ true → (b || d) ≡ true
    either_way true a d f k = refl
    either_way false a d f k = f k

-- ---- edges

-- an item stands in a list
abbrev pub Stands : ℕ × ℕ → List (ℕ × ℕ) → Type 0
Stands e [] = ⊥
Stands e (x ∷ xs) = (x ≡ e) ⊎ Stands e xs

all_of : (p : ℕ × ℕ → Bool) (f : ℕ × ℕ → ℕ × ℕ) (edges : List (ℕ × ℕ)) (e : ℕ × ℕ) → list_all p (map f edges) ≡ true → Stands e edges → p (f e) ≡ true
all_of p f [] e h s = elim s [ ]
all_of p f (x ∷ edges) e h (inl same) = ap (λ y. p (f y)) (sym same) ∙ (both (p (f x)) (list_all p (map f edges)) h).0
all_of p f (x ∷ edges) e h (inr s) = all_of p f edges e (both (p (f x)) (list_all p (map f edges)) h).1 s

-- ---- the order

module _ (groups : List (List ℕ)) (n : ℕ) (edges : List (ℕ × ℕ)) (depends : ℕ → ℕ → Bool)
    (distinct : Distinct (joined groups)) (covered : (x : ℕ) → has (joined groups) x ≡ nat_lt x n)
    (edge : (x y : ℕ) → x < y → depends y x ≡ true → Stands (x, y) edges) where
  abbrev pub flat : List ℕ → List ℕ
  flat vs = joined (map (group_of groups) vs)

  inside : (x : ℕ) → x < n → has (joined groups) x ≡ true
  inside x less = covered x ∙ test where
    test : nat_lt x n ≡ true
    test = grind (arith, nat_tests)

  below : (x : ℕ) → has (joined groups) x ≡ true → x < n
  below x h = let e : nat_lt x n ≡ true = sym (covered x) ∙ h in grind (arith, nat_tests)

  -- the position of a place
  record Stood (x : ℕ) : Type 0 where
    holds : has (group_of groups (position_of groups x)) x ≡ true
    among : position_of groups x < n
    own : position_of groups (position_of groups x) ≡ position_of groups x

  stood : (x : ℕ) → has (joined groups) x ≡ true → Stood x
  stood x h = record { holds = ap (λ k. has (get_or groups k []) x) owner ∙ mine; among = below (position_of groups x) (in_joined groups (owner_of groups x) (position_of groups x) member); own = same }
    where
      mine : has (group_of groups x) x ≡ true
      mine = owner_holds groups x h

      member : has (group_of groups x) (position_of groups x) ≡ true
      member = ap (has (group_of groups x)) (position_is groups x) ∙ has_least (group_of groups x) x mine

      owner : owner_of groups (position_of groups x) ≡ owner_of groups x
      owner = owner_unique groups (owner_of groups x) (position_of groups x) distinct member

      same : position_of groups (position_of groups x) ≡ position_of groups x
      same = position_is groups (position_of groups x) ∙ ap (λ k. least (get_or groups k [])) owner ∙ sym (position_is groups x)

  many : (places : List ℕ) → Distinct places → ((x : ℕ) → has places x ≡ true → x < n) → length places ≤ size groups
  many places d h = let l = fits places (joined groups) d (λ x k. inside x (h x k)) in let e = long_joined groups in omega arith

  module _ (places : List ℕ) (up : Ascends 0 places) (all : (x : ℕ) → has places x ≡ nat_lt x n) (long : length places ≡ n)
      (ws : List ℕ) (chosen : Chosen (positions groups) (links_of groups edges) [] ws) (as_many : length ws ≡ length (positions groups)) where
    roomy : n ≤ size groups
    roomy = let l = many places (ascends_distinct 0 places up) (λ x h. (let e : nat_lt x n ≡ true = sym (all x) ∙ h in grind (arith, nat_tests))) in let e = long in omega arith

    ws_distinct : Distinct ws
    ws_distinct = (chosen_distinct (positions groups) (links_of groups edges) ws [] chosen).0

    among_positions : (x : ℕ) → has ws x ≡ true → has (positions groups) x ≡ true
    among_positions = chosen_among (positions groups) (links_of groups edges) ws [] chosen

    position_chosen : (x : ℕ) → has (joined groups) x ≡ true → has ws (position_of groups x) ≡ true
    position_chosen x h =
        let s = stood x h in
        fills ws (positions groups) ws_distinct among_positions (let e = as_many in omega arith) (position_of groups x)
        (range_has (λ v. position_of groups v == v) 0 (size groups) (position_of groups x) (omega arith) (let l = s.among in let r = roomy in omega arith)
        (ap (λ k. k == position_of groups x) s.own ∙ number_itself (position_of groups x)))

    in_flat : (vs : List ℕ) (v x : ℕ) → has vs v ≡ true → has (group_of groups v) x ≡ true → has (flat vs) x ≡ true
    in_flat [] v x h k = absurd cc
    in_flat (u ∷ vs) v x h k = by_first (head_or_more u v vs h) (λ h. in_flat vs v x h k) where
      by_first : (u ≡ v) ⊎ (has vs v ≡ true) → (has vs v ≡ true → has (flat vs) x ≡ true) → has (flat (u ∷ vs)) x ≡ true
      by_first (inl e) more = has_front (group_of groups u) (flat vs) x (ap (λ w. has (group_of groups w) x) e ∙ k)
      by_first (inr h) more = has_back (group_of groups u) (flat vs) x (more h)

    -- what stands in the flat list stands in one group
    record Held (vs : List ℕ) (x : ℕ) : Type 0 where
      node : ℕ
      there : has vs node ≡ true
      holds : has (group_of groups node) x ≡ true

    held : (vs : List ℕ) (x : ℕ) → has (flat vs) x ≡ true → Held vs x
    held [] x h = absurd cc
    held (v ∷ vs) x h = by_part (has_part (group_of groups v) (flat vs) x h) (λ k. held vs x k) where
      by_part : (has (group_of groups v) x ≡ true) ⊎ (has (flat vs) x ≡ true) → (has (flat vs) x ≡ true → Held vs x) → Held (v ∷ vs) x
      by_part (inl k) more = record { node = v; there = at_head v v vs refl; holds = k }
      by_part (inr k) more = let r = more k in record { node = r.node; there = in_more v r.node vs r.there; holds = r.holds }

    flat_members : (x : ℕ) → has places x ≡ has (flat ws) x
    flat_members x = by_test (nat_lt x n) refl where
      by_test : (b : Bool) → nat_lt x n ≡ b → has places x ≡ has (flat ws) x
      by_test true e =
          let h : has (joined groups) x ≡ true = covered x ∙ e in
          all x ∙ e ∙ sym (in_flat ws (position_of groups x) x (position_chosen x h) (stood x h).holds)
      by_test false e = all x ∙ e ∙ sym (not_true (has (flat ws) x) (λ h. (let r = held ws x h in true_false (sym (in_joined groups (owner_of groups r.node) x r.holds) ∙ covered x ∙ e))))

    -- two nodes whose groups share a place are one
    same_node : (v w x : ℕ) → has (positions groups) v ≡ true → has (positions groups) w ≡ true → has (group_of groups v) x ≡ true → has (group_of groups w) x ≡ true → v ≡ w
    same_node v w x hv hw kv kw =
        let ov = owner_unique groups (owner_of groups v) x distinct kv in
        let ow = owner_unique groups (owner_of groups w) x distinct kw in
        let pv = same_number (position_of groups v) v (filter_passes (λ v. position_of groups v == v) (range_with_len 0 (size groups)) v hv) in
        let pw = same_number (position_of groups w) w (filter_passes (λ v. position_of groups v == v) (range_with_len 0 (size groups)) w hw) in
        sym pv ∙ position_is groups v ∙ ap (λ k. least (get_or groups k [])) (sym ov ∙ ow) ∙ sym (position_is groups w) ∙ pw

    flat_distinct : (vs : List ℕ) → Distinct vs → ((x : ℕ) → has vs x ≡ true → has (positions groups) x ≡ true) → Distinct (flat vs)
    flat_distinct [] d h = tt
    flat_distinct (v ∷ vs) d h =
        distinct_both (group_of groups v) (flat vs) (distinct_group groups (owner_of groups v) distinct) (flat_distinct vs d.1 (λ x k. h x (in_more v x vs k)))
        (λ x k. not_true (has (flat vs) x) (λ l.
        (let r = held vs x l in
        let same : v ≡ r.node = same_node v r.node x (h v (at_head v v vs refl)) (h r.node (in_more v r.node vs r.there)) k r.holds in
        true_false (sym (ap (has vs) same ∙ r.there) ∙ d.0))))

    -- a group comes when all that it depends on is placed
    topo_group : (ys rest : List ℕ) (done : ℕ → Bool) → ((y : ℕ) → has ys y ≡ true → (x : ℕ) → x < y → depends y x ≡ true → done x ≡ true) →
        Topological depends (λ x. has ys x || done x) rest → Topological depends done (ys ++ rest)
    topo_group [] rest done h t = t
    topo_group (y ∷ ys) rest done h t = (
      h y (at_head y y ys refl),
      topo_group ys rest (also done y) (λ z k x less d. or_second (y == x) (done x) (h z (in_more y z ys k) x less d))
          (topological_more depends (λ x. has (y ∷ ys) x || done x) (λ x. has ys x || also done y x) rest (λ x k. moved (y == x) (has ys x) (done x) k) t),
    )
      where
        moved : (a b c : Bool) → ((a || b) || c) ≡ true → (b || (a || c)) ≡ true
        moved true b c h = or_second b true refl
        moved false b c h = h

    flat_more : (placed : List ℕ) (w : ℕ) → flat (placed ++ w ∷ []) ≡ flat placed ++ (group_of groups w ++ [])
    flat_more [] w = refl
    flat_more (v ∷ placed) w = ap (λ r. group_of groups v ++ r) (flat_more placed w) ∙ sym (append_assoc (group_of groups v) (flat placed) (group_of groups w ++ [])) where
      append_assoc : (xs ys zs : List ℕ) → (xs ++ ys) ++ zs ≡ xs ++ (ys ++ zs)
      append_assoc [] ys zs = refl
      append_assoc (x ∷ xs) ys zs = ap (λ r. x ∷ r) (append_assoc xs ys zs)

    module _ (w : ℕ) (us placed : List ℕ) (c : Chosen (positions groups) (links_of groups edges) placed (w ∷ us)) where
      -- what is placed with one more group is placed, or of that group
      shared : (x : ℕ) → has (flat (placed ++ w ∷ [])) x ≡ true → has (group_of groups w) x || has (flat placed) x ≡ true
      shared x k = by_part (has_part (flat placed) (group_of groups w ++ []) x (ap (λ l. has l x) (sym (flat_more placed w)) ∙ k)) where
        by_part : (has (flat placed) x ≡ true) ⊎ (has (group_of groups w ++ []) x ≡ true) → has (group_of groups w) x || has (flat placed) x ≡ true
        by_part (inl k) = or_second (has (group_of groups w) x) (has (flat placed) x) k
        by_part (inr k) = or_first (has (group_of groups w) x) (has (flat placed) x) (ap (λ l. has l x) (sym (append-nil (group_of groups w))) ∙ k)

      -- all that a member depends on is placed
      ready : (y : ℕ) → has (group_of groups w) y ≡ true → (x : ℕ) → x < y → depends y x ≡ true → has (flat placed) x ≡ true
      ready y h x less d =
          let yn : y < n = below y (in_joined groups (owner_of groups w) y h) in
          let hx : has (joined groups) x ≡ true = inside x (omega arith) in
          let pw = same_number (position_of groups w) w (filter_passes (λ v. position_of groups v == v) (range_with_len 0 (size groups)) w c.1) in
          let py : position_of groups y ≡ w = position_is groups y ∙ ap (λ k. least (get_or groups k [])) (owner_unique groups (owner_of groups w) y distinct h) ∙ sym (position_is groups w) ∙ pw in
          let links = (both (not (has placed w)) (list_all (λ l. not (l.1 == w) || has placed l.0) (links_of groups edges)) c.0).1 in
          let one : (not (position_of groups y == w) || has placed (position_of groups x)) ≡ true =
          all_of (λ l. not (l.1 == w) || has placed l.0) (λ e. (position_of groups e.0, position_of groups e.1)) edges (x, y) links (edge x y less d) in
          in_flat placed (position_of groups x) x
          (second (position_of groups y == w) (has placed (position_of groups x)) (ap (λ k. k == w) py ∙ number_itself w) one) (stood x hx).holds
        where
          second : (a b : Bool) → a ≡ true → (not a || b) ≡ true → b ≡ true
          second true b e h = h
          second false b e h = absurd cc

    topo_flat : (us placed : List ℕ) → Chosen (positions groups) (links_of groups edges) placed us → Topological depends (λ x. has (flat placed) x) (flat us)
    topo_flat [] placed c = tt
    topo_flat (w ∷ us) placed c =
        topo_group (group_of groups w) (flat us) (λ x. has (flat placed) x) (ready w us placed c)
        (topological_more depends (λ x. has (flat (placed ++ w ∷ [])) x) (λ x. has (group_of groups w) x || has (flat placed) x) (flat us) (shared w us placed c) (topo_flat us (placed ++ w ∷ []) c.2))

    -- group by group
    turns_from : (us placed : List ℕ) → Chosen (positions groups) (links_of groups edges) placed us → InTurn depends (λ x. has (flat placed) x) (map (group_of groups) us)
    turns_from [] placed c = tt
    turns_from (w ∷ us) placed c = (
      ready w us placed c,
      in_turn_more depends (λ x. has (flat (placed ++ w ∷ [])) x) (λ x. has (group_of groups w) x || has (flat placed) x) (map (group_of groups) us) (shared w us placed c) (turns_from us (placed ++ w ∷ []) c.2),
    )

    pub groups_in_turn : InTurn depends (λ x. false) (map (group_of groups) ws)
    groups_in_turn = turns_from ws [] chosen

    pub flat_reordered : Reordered depends places (flat ws)
    flat_reordered =
        reordered depends (flat ws) places (λ x. false) 0 up (flat_distinct ws ws_distinct among_positions) flat_members (λ x h. refl) (topo_flat ws [] chosen)
