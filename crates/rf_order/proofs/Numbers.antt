-- Numbers in another order.
use Rattle.std.proofs.Common.{◌≡◌, refl, sym, ap, ◌∙◌, subst, ℕ, ◌<◌, ◌==◌, ◌⊎◌, inl, inr, Bool, true, false, ◌||◌, List, [], ◌∷◌, ◌++◌}
use Rattle.vx_order.specs.Groups.{has}
use Rattle.vx_order.specs.Walks.{Ascends}
use Rattle.rf_order.specs.Rows.{NoneBefore, Reordered}
use Rattle.vx_serial.proofs.Numbers.{same_number, number_itself, Split, split_at, without, has_front, Distinct, differ_of, distinct_out, ascends_distinct, ascends_out, ascends_below}
use Rattle.vx_serial.proofs.Decided.{neither, not_true, or_case, or_first, or_second, true_false}

abbrev pub also : (ℕ → Bool) → ℕ → ℕ → Bool
also done y x = (y == x) || done x

-- each stands after all before it in number that it depends on
abbrev pub Topological : (ℕ → ℕ → Bool) → (ℕ → Bool) → List ℕ → Type 0
Topological depends done [] = Unit {0}
Topological depends done (y ∷ ys) = ((x : ℕ) → x < y → depends y x ≡ true → done x ≡ true) × Topological depends (also done y) ys

pub topological_more : (depends : ℕ → ℕ → Bool) (few more : ℕ → Bool) (ys : List ℕ) → ((x : ℕ) → few x ≡ true → more x ≡ true) → Topological depends few ys → Topological depends more ys
topological_more depends few more [] h t = tt
topological_more depends few more (y ∷ ys) h t =
    ((λ x less d. h x (t.0 x less d)), topological_more depends (also few y) (also more y) ys (λ x k. by_first x (or_case (y == x) (few x) k)) t.1)
  where
    by_first : (x : ℕ) → ((y == x) ≡ true) ⊎ (few x ≡ true) → also more y x ≡ true
    by_first x (inl e) = or_first (y == x) (more x) e
    by_first x (inr e) = or_second (y == x) (more x) (h x e)

none_before : (depends : ℕ → ℕ → Bool) (f : List ℕ) (y : ℕ) → ((x : ℕ) → has f x ≡ true → depends y x ≡ false) → NoneBefore depends f y
none_before depends [] y h = tt
none_before depends (x ∷ f) y h = (h x (or_first (x == x) (has f x) (number_itself x)), none_before depends f y (λ z k. h z (or_second (x == z) (has f z) k)))

pub reordered : (depends : ℕ → ℕ → Bool) (flat old : List ℕ) (done : ℕ → Bool) (low : ℕ) → Ascends low old → Distinct flat → ((x : ℕ) → has old x ≡ has flat x) →
    ((x : ℕ) → has old x ≡ true → done x ≡ false) → Topological depends done flat → Reordered depends old flat
reordered depends [] [] done low a d same free t = refl
reordered depends [] (x ∷ old) done low a d same free t = absurd (true_false (sym (or_first (x == x) (has old x) (number_itself x)) ∙ same x))
reordered depends (y ∷ ys) old done low a d same free t = (
  s.front,
  s.rest,
  s.is,
  none_before depends s.front y none,
  reordered depends ys (s.front ++ s.rest) (also done y) low (ascends_out low s.front s.rest y up) d.1 same_rest free_rest t.1,
)
  where
    s : Split old y
    s = split_at old y (same y ∙ or_first (y == y) (has ys y) (number_itself y))

    up : Ascends low (s.front ++ y ∷ s.rest)
    up = subst (Ascends low) s.is a

    out : (has (s.front ++ s.rest) y ≡ false) × Distinct (s.front ++ s.rest)
    out = distinct_out s.front s.rest y (ascends_distinct low (s.front ++ y ∷ s.rest) up)

    in_old : (x : ℕ) → has (s.front ++ s.rest) x ≡ true → has old x ≡ true
    in_old x h = ap (λ l. has l x) s.is ∙ without s.front s.rest y x (differ_of (s.front ++ s.rest) x y h out.0) ∙ h

    none : (x : ℕ) → has s.front x ≡ true → depends y x ≡ false
    none x h = not_true (depends y x) (λ e. true_false (sym (t.0 x (ascends_below low s.front s.rest y x up h) e) ∙ free x (in_old x (has_front s.front s.rest x h))))

    same_rest : (x : ℕ) → has (s.front ++ s.rest) x ≡ has ys x
    same_rest x = by_test (y == x) refl where
      by_test : (b : Bool) → (y == x) ≡ b → has (s.front ++ s.rest) x ≡ has ys x
      by_test true e = ap (has (s.front ++ s.rest)) (sym (same_number y x e)) ∙ out.0 ∙ sym d.0 ∙ ap (has ys) (same_number y x e)
      by_test false e = sym (without s.front s.rest y x e) ∙ ap (λ l. has l x) (sym s.is) ∙ same x ∙ ap (λ b. b || has ys x) e

    free_rest : (x : ℕ) → has (s.front ++ s.rest) x ≡ true → also done y x ≡ false
    free_rest x h = neither (y == x) (done x) (differ_of (s.front ++ s.rest) x y h out.0) (free x (in_old x h))
