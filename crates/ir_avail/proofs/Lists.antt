-- A list of distances that grows by one entry, against the list that it follows.
use Rattle.std.proofs.Common.{◌≡◌, ℕ, ◌+◌, ◌<◌, ◌≤◌, Bool, true, false, List, [], ◌∷◌, ◌++◌, length, take, refl, sym, ◌∙◌, ap, subst, inl, inr, arith, cond, zero, suc}
use Rattle.std.proofs.lemmas.Bool.{cases_lt, cases_eq}
use Rattle.std.proofs.lemmas.List.{get_or_append_left, get_or_push, length_push}
use Rattle.std.proofs.lemmas.List.Sums.{sum_by-append, count_by_more_yes, count_by_more_no}
use Rattle.std.specs.Prelude.{◌⊎◌, count_by, IsSome}
use Rattle.std.specs.Option.{is_none}
use Rattle.std.specs.declared.option.Option.{Option}
use Rattle.std.specs.declared.option.Option.TheVariants.{None, Some}
use Rattle.ir_avail.specs.Avoids.{distance_at, IsNext}

abbrev pub gain : Option ℕ → ℕ
gain o = cond (is_none o) 1 0

pub count_push : (xs : List (Option ℕ)) (x : Option ℕ) → count_by is_none (xs ++ x ∷ []) ≡ count_by is_none xs + gain x
count_push xs x = let e = sum_by-append gain xs (x ∷ []) in omega (arith, e)

pub at_new : (xs : List (Option ℕ)) (x : Option ℕ) (i : ℕ) → length xs ≡ i → distance_at (xs ++ x ∷ []) i ≡ x
at_new xs x i e = get_or_push xs x None i e

pub at_old : (xs : List (Option ℕ)) (x : Option ℕ) (a : ℕ) → a < length xs → distance_at (xs ++ x ∷ []) a ≡ distance_at xs a
at_old xs x a h = get_or_append_left xs (x ∷ []) None a h

past : (xs : List (Option ℕ)) (a : ℕ) → length xs ≤ a → distance_at xs a ≡ None
past [] a h = refl
past (x ∷ xs) zero h = absurd (omega arith)
past (x ∷ xs) (suc a) h = past xs a (omega arith)

-- the list so far follows the old one up to i, and `found` says whether it has a new distance
pub record Follows (graph : List (List ℕ)) (barred : ℕ → Bool) (old : List (Option ℕ)) (most i : ℕ) (found : Bool) (next : List (Option ℕ)) : Type 0 where
  pub long : length next ≡ i
  pub steps : (a : ℕ) → a < i → IsNext graph barred old most a (distance_at next a)
  pub few : count_by is_none next ≤ count_by is_none (take i old)
  pub fewer : found ≡ true → count_by is_none next < count_by is_none (take i old)
  pub same : found ≡ false → (a : ℕ) → distance_at old a ≡ None → distance_at next a ≡ None

module _ (old next : List (Option ℕ)) (i : ℕ) (x : Option ℕ) (found found' : Bool) (long : length next ≡ i) (inside : i < length old)
    (kept : (n : ℕ) → distance_at old i ≡ Some n → x ≡ Some n)
    (one : found' ≡ true → (found ≡ true) ⊎ ((distance_at old i ≡ None) × IsSome x))
    (none : found' ≡ false → (found ≡ false) × (distance_at old i ≡ None → x ≡ None)) where
  -- how the counts grow
  grown : (o : Option ℕ) → distance_at old i ≡ o
      → (count_by is_none (next ++ x ∷ []) + count_by is_none (take i old) ≤ count_by is_none next + count_by is_none (take (i + 1) old))
      × (o ≡ None → IsSome x → count_by is_none (next ++ x ∷ []) + count_by is_none (take i old) < count_by is_none next + count_by is_none (take (i + 1) old))
  grown None was =
      let more : count_by is_none (take (i + 1) old) ≡ count_by is_none (take i old) + 1 =
      count_by_more_yes is_none old i None inside (ap is_none was) in
      let r = by_new x refl more in (r.0, λ e some. r.1 some)
    where
      by_new : (o : Option ℕ) → x ≡ o → count_by is_none (take (i + 1) old) ≡ count_by is_none (take i old) + 1
          → (count_by is_none (next ++ x ∷ []) + count_by is_none (take i old) ≤ count_by is_none next + count_by is_none (take (i + 1) old))
          × (IsSome x → count_by is_none (next ++ x ∷ []) + count_by is_none (take i old) < count_by is_none next + count_by is_none (take (i + 1) old))
      by_new None is more =
          let c = count_push next x in
          let b : gain x ≡ 1 = ap gain is in
          let P : Option ℕ → Type 0 = λ o. IsSome o in
          (omega (arith, c, b, more), λ some. absurd (let h : false ≡ true = subst P is some in cc))
      by_new (Some n) is more =
          let c = count_push next x in
          let b : gain x ≡ 0 = ap gain is in
          (omega (arith, c, b, more), λ some. omega (arith, c, b, more))
  grown (Some n) was =
      let more : count_by is_none (take (i + 1) old) ≡ count_by is_none (take i old) =
      count_by_more_no is_none old i None inside (ap is_none was) in
      let c = count_push next x in
      let b : gain x ≡ 0 = ap gain (kept n was) in
      (omega (arith, c, b, more), λ e some. absurd (cc))

  few_more : count_by is_none next ≤ count_by is_none (take i old) → count_by is_none (next ++ x ∷ []) ≤ count_by is_none (take (i + 1) old)
  few_more few = let g = (grown (distance_at old i) refl).0 in omega (arith, g)

  fewer_more : count_by is_none next ≤ count_by is_none (take i old)
      → (found ≡ true → count_by is_none next < count_by is_none (take i old))
      → found' ≡ true → count_by is_none (next ++ x ∷ []) < count_by is_none (take (i + 1) old)
  fewer_more few fewer now =
      let g = grown (distance_at old i) refl in
      let low = g.0 in
      elim (one now) [
        | inl before ↦ let f = fewer before in omega (arith, f, low)
        | inr new ↦ let h = g.1 new.0 new.1 in omega (arith, h)
      ]

  same_more : (found ≡ false → (a : ℕ) → distance_at old a ≡ None → distance_at next a ≡ None)
      → found' ≡ false → (a : ℕ) → distance_at old a ≡ None → distance_at (next ++ x ∷ []) a ≡ None
  same_more same now a was =
      elim (cases_lt a i) [
        | inl below ↦ at_old next x a (omega arith) ∙ same (none now).0 a was
        | inr above ↦ elim (cases_eq a i) [
          | inl here ↦ ap (λ k. distance_at (next ++ x ∷ []) k) here ∙ at_new next x i long ∙ (none now).1 (ap (λ k. distance_at old k) (sym here) ∙ was)
          | inr other ↦ past (next ++ x ∷ []) a (omega (arith, length_push next x))
        ]
      ]

  next_more : {graph : List (List ℕ)} {barred : ℕ → Bool} {most : ℕ}
      → ((a : ℕ) → a < i → IsNext graph barred old most a (distance_at next a)) → IsNext graph barred old most i x
      → (a : ℕ) → a < i + 1 → IsNext graph barred old most a (distance_at (next ++ x ∷ []) a)
  next_more {graph} {barred} {most} before here a low =
      elim (cases_lt a i) [
        | inl below ↦
            let P : Option ℕ → Type 0 = λ o. IsNext graph barred old most a o in
            subst P (sym (at_old next x a (omega arith))) (before a below)
        | inr above ↦
            let e : i ≡ a = omega arith in
            let P : ℕ → Type 0 = λ k. IsNext graph barred old most k (distance_at (next ++ x ∷ []) k) in
            let Q : Option ℕ → Type 0 = λ o. IsNext graph barred old most i o in
            subst P e (subst Q (sym (at_new next x i long)) here)
      ]

  pub follows_more : {graph : List (List ℕ)} {barred : ℕ → Bool} {most : ℕ} → Follows graph barred old most i found next → IsNext graph barred old most i x
      → Follows graph barred old most (i + 1) found' (next ++ x ∷ [])
  follows_more {graph} {barred} {most} so_far here =
      record {
        long = omega (arith, length_push next x);
        steps = next_more so_far.steps here;
        few = few_more so_far.few;
        fewer = fewer_more so_far.few so_far.fewer;
        same = same_more so_far.same;
      }
