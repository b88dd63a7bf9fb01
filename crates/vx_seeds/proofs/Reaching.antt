-- What is marked is reached, and what is reached is marked.
use Rattle.std.proofs.Common.{◌≡◌, refl, sym, ap, ◌∙◌, ℕ, zero, suc, ◌<◌, Bool, true, false, ◌&&◌, ◌||◌, nat_eq, List, [], ◌∷◌, length, slice_index_or, arith}
use Rattle.std.specs.Prelude.{get_or}
use Rattle.std.specs.List.{list_any, list_all}
use Rattle.std.proofs.lemmas.Bool.Decides.{nat_tests}
use Rattle.std.proofs.lemmas.List.Folds.{list_any-append, list_all-append}
use Rattle.ir_types.specs.Walks.{targets_at}
use Rattle.vx_serial.specs.Regions.{targets_of_all, reached_in, is_reached}
use Rattle.vx_seeds.specs.Reached.{Marks, Holds, Leads, in_round, is_marked, IsClosed, AreReached}

false_true : false ≡ true → ⊥
false_true e = cc

number_itself : (x : ℕ) → nat_eq x x ≡ true
number_itself x = grind (arith, nat_tests)

number_is : (x y : ℕ) → nat_eq x y ≡ true → x ≡ y
number_is x y h = grind (arith, nat_tests)

left_true : (a b : Bool) → a ≡ true → (a || b) ≡ true
left_true true b h = refl
left_true false b h = absurd (false_true h)

right_true : (a b : Bool) → b ≡ true → (a || b) ≡ true
right_true true b h = refl
right_true false b h = h

both_true : (a b : Bool) → a ≡ true → b ≡ true → (a && b) ≡ true
both_true true b h k = k
both_true false b h k = absurd (false_true h)

and_left : (a b : Bool) → (a && b) ≡ true → a ≡ true
and_left true b h = refl
and_left false b h = absurd (false_true h)

and_right : (a b : Bool) → (a && b) ≡ true → b ≡ true
and_right true b h = h
and_right false b h = absurd (false_true h)

-- ---- members

any_all : (p : ℕ → Bool) (x : ℕ) (xs : List ℕ) → list_any (nat_eq x) xs ≡ true → list_all p xs ≡ true → p x ≡ true
any_all p x [] h k = absurd (false_true h)
any_all p x (y ∷ ys) h k = by_test (nat_eq x y) refl h (λ r. any_all p x ys r (and_right (p y) (list_all p ys) k)) where
  by_test : (b : Bool) → nat_eq x y ≡ b → (b || list_any (nat_eq x) ys) ≡ true → (list_any (nat_eq x) ys ≡ true → p x ≡ true) → p x ≡ true
  by_test true t r more = ap p (number_is x y t) ∙ and_left (p y) (list_all p ys) k
  by_test false t r more = more r

all_members : (p : ℕ → Bool) (xs : List ℕ) → ((x : ℕ) → list_any (nat_eq x) xs ≡ true → p x ≡ true) → list_all p xs ≡ true
all_members p [] h = refl
all_members p (y ∷ ys) h =
    both_true (p y) (list_all p ys) (h y (left_true (nat_eq y y) (list_any (nat_eq y) ys) (number_itself y)))
    (all_members p ys (λ x k. h x (right_true (nat_eq x y) (list_any (nat_eq x) ys) k)))

-- ---- rounds

module _ (graph : List (List ℕ)) where
  target_of_all : (x y : ℕ) (bs : List ℕ) → list_any (nat_eq y) bs ≡ true → list_any (nat_eq x) (targets_at graph y) ≡ true → list_any (nat_eq x) (targets_of_all graph bs) ≡ true
  target_of_all x y [] h k = absurd (false_true h)
  target_of_all x y (b ∷ bs) h k = list_any-append (nat_eq x) (targets_at graph b) (targets_of_all graph bs) ∙ by_test (nat_eq y b) refl h (λ r. target_of_all x y bs r k)
    where
      rest : Bool
      rest = list_any (nat_eq x) (targets_of_all graph bs)

      by_test : (c : Bool) → nat_eq y b ≡ c → (c || list_any (nat_eq y) bs) ≡ true → (list_any (nat_eq y) bs ≡ true → list_any (nat_eq x) (targets_of_all graph bs) ≡ true)
          → (list_any (nat_eq x) (targets_at graph b) || list_any (nat_eq x) (targets_of_all graph bs)) ≡ true
      by_test true t r more = left_true (list_any (nat_eq x) (targets_at graph b)) (list_any (nat_eq x) (targets_of_all graph bs)) (ap (λ v. list_any (nat_eq x) (targets_at graph v)) (sym (number_is y b t)) ∙ k)
      by_test false t r more = right_true (list_any (nat_eq x) (targets_at graph b)) (list_any (nat_eq x) (targets_of_all graph bs)) (more r)

  round_keeps : (n x : ℕ) → in_round graph n x ≡ true → in_round graph (suc n) x ≡ true
  round_keeps n x h =
      list_any-append (nat_eq x) (reached_in n graph) (targets_of_all graph (reached_in n graph))
      ∙ left_true (list_any (nat_eq x) (reached_in n graph)) (list_any (nat_eq x) (targets_of_all graph (reached_in n graph))) h

  pub round_leads : (n : ℕ) → Leads graph (in_round graph n) (in_round graph (suc n))
  round_leads n y h = all_members (in_round graph (suc n)) (targets_at graph y) (λ x k.
      list_any-append (nat_eq x) (reached_in n graph) (targets_of_all graph (reached_in n graph))
      ∙ right_true (list_any (nat_eq x) (reached_in n graph)) (list_any (nat_eq x) (targets_of_all graph (reached_in n graph))) (target_of_all x y (reached_in n graph) h k))

  pub marks_keep : (n : ℕ) (marks : List Bool) → Marks (in_round graph n) marks → Marks (in_round graph (suc n)) marks
  marks_keep n marks h x k = round_keeps n x (h x k)

  all_targets : (p q : ℕ → Bool) → Leads graph p q → (bs : List ℕ) → list_all p bs ≡ true → list_all q (targets_of_all graph bs) ≡ true
  all_targets p q l [] h = refl
  all_targets p q l (b ∷ bs) h =
      list_all-append q (targets_at graph b) (targets_of_all graph bs)
      ∙ both_true (list_all q (targets_at graph b)) (list_all q (targets_of_all graph bs)) (l b (and_left (p b) (list_all p bs) h)) (all_targets p q l bs (and_right (p b) (list_all p bs) h))

  closed_round : (marks : List Bool) → IsClosed graph marks → (n : ℕ) → list_all (is_marked marks) (reached_in n graph) ≡ true
  closed_round marks c zero = both_true (is_marked marks 0) true c.entry refl
  closed_round marks c (suc n) =
      list_all-append (is_marked marks) (reached_in n graph) (targets_of_all graph (reached_in n graph))
      ∙ both_true (list_all (is_marked marks) (reached_in n graph)) (list_all (is_marked marks) (targets_of_all graph (reached_in n graph)))
      (closed_round marks c n) (all_targets (is_marked marks) (is_marked marks) c.edges (reached_in n graph) (closed_round marks c n))

  inside : (marks : List Bool) (b : ℕ) → b < length marks → slice_index_or marks b true ≡ slice_index_or marks b false
  inside [] b lt = absurd (omega arith)
  inside (m ∷ ms) zero lt = refl
  inside (m ∷ ms) (suc b) lt = inside ms b (omega arith)

  pub are_reached : (marks : List Bool) → Marks (in_round graph (length graph)) marks → length marks ≡ length graph → IsClosed graph marks → AreReached graph marks
  are_reached marks m e c b lt = by_tests (slice_index_or marks b false) (is_reached graph b) refl refl where
    by_tests : (u v : Bool) → slice_index_or marks b false ≡ u → is_reached graph b ≡ v → u ≡ v
    by_tests true true s r = refl
    by_tests false false s r = refl
    by_tests true false s r = absurd (false_true (sym r ∙ m b s))
    by_tests false true s r =
        absurd (false_true (sym s ∙ sym (inside marks b (omega arith)) ∙ any_all (is_marked marks) b (reached_in (length graph) graph) r (closed_round marks c (length graph))))

-- ---- one mark

pub past_end : (graph : List (List ℕ)) (p : ℕ → Bool) (y : ℕ) → (y < length graph → ⊥) → list_all p (targets_at graph y) ≡ true
past_end [] p y h = refl
past_end (ts ∷ graph) p zero h = absurd (h (omega arith))
past_end (ts ∷ graph) p (suc y) h = past_end graph p y (λ lt. h (omega arith))

pub all_at : (p : ℕ → Bool) (xs : List ℕ) (k d : ℕ) → k < length xs → list_all p xs ≡ true → p (get_or xs k d) ≡ true
all_at p [] k d lt h = absurd (omega arith)
all_at p (x ∷ xs) zero d lt h = and_left (p x) (list_all p xs) h
all_at p (x ∷ xs) (suc k) d lt h = all_at p xs k d (omega arith) (and_right (p x) (list_all p xs) h)

pub begun : (p : ℕ → Bool) (marks : List Bool) (found : List ℕ) → ((x : ℕ) → slice_index_or marks x false ≡ false) → found ≡ [] → Holds p marks found
begun p marks found h e = record { marked = λ x k. absurd (false_true (sym (h x) ∙ k)); each = ap (list_all p) e }
