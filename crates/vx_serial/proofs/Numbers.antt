-- Lists of numbers: taken apart, without repetitions, and one within another.
use Rattle.std.proofs.Common.{◌≡◌, refl, sym, ap, ◌∙◌, subst, ℕ, suc, ◌+◌, ◌<◌, ◌≤◌, ◌==◌, ◌⊎◌, inl, inr, Bool, true, false, ◌||◌, List, [], ◌∷◌, ◌++◌, length, arith}
use Rattle.std.proofs.lemmas.Bool.Decides.{nat_tests}
use Rattle.vx_order.specs.Groups.{has}
use Rattle.vx_order.specs.Walks.{Ascends}
use Rattle.vx_order.proofs.Placing.{head_or_more, ascends_has}
use Rattle.vx_serial.proofs.Decided.{neither, not_true, or_case, or_first, or_second, true_false}

pub same_number : (x y : ℕ) → (x == y) ≡ true → x ≡ y
same_number x y e = grind (arith, nat_tests)

pub number_itself : (x : ℕ) → (x == x) ≡ true
number_itself x = grind (arith, nat_tests)

pub turned : (x y : ℕ) → (x == y) ≡ (y == x)
turned x y = grind (arith, nat_tests)

-- ---- parts

pub has_append : (xs ys : List ℕ) (x : ℕ) → has (xs ++ ys) x ≡ (has xs x || has ys x)
has_append [] ys x = refl
has_append (z ∷ xs) ys x = ap (λ b. (z == x) || b) (has_append xs ys x) ∙ or_assoc (z == x) (has xs x) (has ys x) where
  or_assoc : (a b c : Bool) → (a || (b || c)) ≡ ((a || b) || c)
  or_assoc true b c = refl
  or_assoc false b c = refl

pub by_bool : (P : Bool → Type 0) → (b : Bool) → P true → P false → P b
by_bool P true h k = h
by_bool P false h k = k

-- what is not false is true
pub has_front : (xs ys : List ℕ) (x : ℕ) → has xs x ≡ true → has (xs ++ ys) x ≡ true
has_front xs ys x h = has_append xs ys x ∙ or_first (has xs x) (has ys x) h

pub has_back : (xs ys : List ℕ) (x : ℕ) → has ys x ≡ true → has (xs ++ ys) x ≡ true
has_back xs ys x h = has_append xs ys x ∙ or_second (has xs x) (has ys x) h

pub has_part : (xs ys : List ℕ) (x : ℕ) → has (xs ++ ys) x ≡ true → (has xs x ≡ true) ⊎ (has ys x ≡ true)
has_part xs ys x h = or_case (has xs x) (has ys x) (sym (has_append xs ys x) ∙ h)

pub has_none : (xs ys : List ℕ) (x : ℕ) → has xs x ≡ false → has ys x ≡ false → has (xs ++ ys) x ≡ false
has_none xs ys x h k = has_append xs ys x ∙ neither (has xs x) (has ys x) h k

-- a list taken apart at one of its items
pub record Split (xs : List ℕ) (y : ℕ) : Type 0 where
  pub front : List ℕ
  pub rest : List ℕ
  pub is : xs ≡ front ++ y ∷ rest

pub split_at : (xs : List ℕ) (y : ℕ) → has xs y ≡ true → Split xs y
split_at [] y h = absurd cc
split_at (x ∷ xs) y h = by_first (head_or_more x y xs h) (λ more. split_at xs y more) where
  by_first : (x ≡ y) ⊎ (has xs y ≡ true) → (has xs y ≡ true → Split xs y) → Split (x ∷ xs) y
  by_first (inl e) more = record { front = []; rest = xs; is = ap (λ z. z ∷ xs) e }
  by_first (inr h) more = let s = more h in record { front = x ∷ s.front; rest = s.rest; is = ap (λ zs. x ∷ zs) s.is }

pub without : (f r : List ℕ) (y x : ℕ) → (y == x) ≡ false → has (f ++ y ∷ r) x ≡ has (f ++ r) x
without [] r y x e = ap (λ b. b || has r x) e
without (z ∷ f) r y x e = ap (λ b. (z == x) || b) (without f r y x e)

pub has_middle : (f r : List ℕ) (y : ℕ) → has (f ++ y ∷ r) y ≡ true
has_middle [] r y = or_first (y == y) (has r y) (number_itself y)
has_middle (z ∷ f) r y = or_second (z == y) (has (f ++ y ∷ r) y) (has_middle f r y)

-- ---- each once

abbrev pub Distinct : List ℕ → Type 0
Distinct [] = Unit {0}
Distinct (x ∷ xs) = (has xs x ≡ false) × Distinct xs

pub differ_of : (xs : List ℕ) (x y : ℕ) → has xs x ≡ true → has xs y ≡ false → (y == x) ≡ false
differ_of xs x y h k = not_true (y == x) (λ e. true_false (sym h ∙ ap (has xs) (sym (same_number y x e)) ∙ k))

pub distinct_out : (f r : List ℕ) (y : ℕ) → Distinct (f ++ y ∷ r) → (has (f ++ r) y ≡ false) × Distinct (f ++ r)
distinct_out [] r y d = d
distinct_out (z ∷ f) r y d =
    let rest = distinct_out f r y d.1 in
    let apart : (z == y) ≡ false = differ_of (f ++ y ∷ r) y z (has_middle f r y) d.0 in
    (neither (z == y) (has (f ++ r) y) apart rest.0, (sym (without f r y z (turned y z ∙ apart)) ∙ d.0, rest.1))

pub distinct_left : (xs ys : List ℕ) → Distinct (xs ++ ys) → Distinct xs
distinct_left [] ys d = tt
distinct_left (x ∷ xs) ys d = (not_true (has xs x) (λ h. true_false (sym (has_front xs ys x h) ∙ d.0)), distinct_left xs ys d.1)

pub distinct_right : (xs ys : List ℕ) → Distinct (xs ++ ys) → Distinct ys
distinct_right [] ys d = d
distinct_right (x ∷ xs) ys d = distinct_right xs ys d.1

pub distinct_apart : (xs ys : List ℕ) (x : ℕ) → Distinct (xs ++ ys) → has xs x ≡ true → has ys x ≡ false
distinct_apart [] ys x d h = absurd cc
distinct_apart (z ∷ xs) ys x d h = by_first (head_or_more z x xs h) (λ more. distinct_apart xs ys x d.1 more) where
  by_first : (z ≡ x) ⊎ (has xs x ≡ true) → (has xs x ≡ true → has ys x ≡ false) → has ys x ≡ false
  by_first (inl e) more = not_true (has ys x) (λ k. true_false (sym (has_back xs ys z (ap (has ys) e ∙ k)) ∙ d.0))
  by_first (inr h) more = more h

pub distinct_both : (xs ys : List ℕ) → Distinct xs → Distinct ys → ((x : ℕ) → has xs x ≡ true → has ys x ≡ false) → Distinct (xs ++ ys)
distinct_both [] ys d e h = e
distinct_both (x ∷ xs) ys d e h =
    (has_none xs ys x d.0 (h x (or_first (x == x) (has xs x) (number_itself x))), distinct_both xs ys d.1 e (λ y k. h y (or_second (x == y) (has xs y) k)))

-- ---- as many

long_middle : (f r : List ℕ) (y : ℕ) → length (f ++ y ∷ r) ≡ suc (length (f ++ r))
long_middle [] r y = refl
long_middle (z ∷ f) r y = ap suc (long_middle f r y)

-- a list that stands within another is not longer
pub fits : (ws ns : List ℕ) → Distinct ws → ((x : ℕ) → has ws x ≡ true → has ns x ≡ true) → length ws ≤ length ns
fits [] ns d h = omega arith
fits (w ∷ ws) ns d h =
    let s = split_at ns w (h w (or_first (w == w) (has ws w) (number_itself w))) in
    let rest = fits ws (s.front ++ s.rest) d.1 (λ x k. sym (without s.front s.rest w x (differ_of ws x w k d.0)) ∙ ap (λ l. has l x) (sym s.is) ∙ h x (or_second (w == x) (has ws x) k)) in
    let long : length ns ≡ suc (length (s.front ++ s.rest)) = ap length s.is ∙ long_middle s.front s.rest w in omega arith

-- one as long has all items of the other
pub fills : (ws ns : List ℕ) → Distinct ws → ((x : ℕ) → has ws x ≡ true → has ns x ≡ true) → length ns ≤ length ws → (x : ℕ) → has ns x ≡ true → has ws x ≡ true
fills [] [] d h less x k = k
fills [] (n ∷ ns) d h less x k = absurd (omega arith)
fills (w ∷ ws) ns d h less x k =
    let s = split_at ns w (h w (or_first (w == w) (has ws w) (number_itself w))) in
    let long : length ns ≡ suc (length (s.front ++ s.rest)) = ap length s.is ∙ long_middle s.front s.rest w in
    let inner : (y : ℕ) → has (s.front ++ s.rest) y ≡ true → has ws y ≡ true =
    fills ws (s.front ++ s.rest) d.1 (λ x k. sym (without s.front s.rest w x (differ_of ws x w k d.0)) ∙ ap (λ l. has l x) (sym s.is) ∙ h x (or_second (w == x) (has ws x) k)) (omega arith) in
    by_test s inner (w == x) refl
  where
    by_test : (s : Split ns w) → ((y : ℕ) → has (s.front ++ s.rest) y ≡ true → has ws y ≡ true) → (b : Bool) → (w == x) ≡ b → (b || has ws x) ≡ true
    by_test s inner true e = refl
    by_test s inner false e = inner x (sym (without s.front s.rest w x e) ∙ ap (λ l. has l x) (sym s.is) ∙ k)

-- ---- ascending numbers

pub ascends_from : (few low : ℕ) (xs : List ℕ) → few ≤ low → Ascends low xs → Ascends few xs
ascends_from few low [] h a = tt
ascends_from few low (x ∷ xs) h a = (let l = a.0 in omega arith, a.1)

pub ascends_distinct : (low : ℕ) (xs : List ℕ) → Ascends low xs → Distinct xs
ascends_distinct low [] a = tt
ascends_distinct low (x ∷ xs) a = (not_true (has xs x) (λ h. let l = ascends_has (x + 1) xs x a.1 h in absurd (omega arith)), ascends_distinct (x + 1) xs a.1)

pub ascends_out : (low : ℕ) (f r : List ℕ) (y : ℕ) → Ascends low (f ++ y ∷ r) → Ascends low (f ++ r)
ascends_out low [] r y a = ascends_from low (y + 1) r (let l = a.0 in omega arith) a.1
ascends_out low (z ∷ f) r y a = (a.0, ascends_out (z + 1) f r y a.1)

pub ascends_below : (low : ℕ) (f r : List ℕ) (y x : ℕ) → Ascends low (f ++ y ∷ r) → has f x ≡ true → x < y
ascends_below low [] r y x a h = absurd cc
ascends_below low (z ∷ f) r y x a h = by_first (head_or_more z x f h) (λ more. ascends_below (z + 1) f r y x a.1 more) where
  by_first : (z ≡ x) ⊎ (has f x ≡ true) → (has f x ≡ true → x < y) → x < y
  by_first (inl e) more = let l = ascends_has (z + 1) (f ++ y ∷ r) y a.1 (has_middle f r y) in omega arith
  by_first (inr h) more = more h
