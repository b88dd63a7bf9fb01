-- Rounds that find distances: what one more round knows, and that a round that finds nothing leaves them all.
use Rattle.std.proofs.Common.{◌≡◌, ℕ, ◌+◌, ◌<◌, ◌≤◌, Bool, true, false, List, [], ◌∷◌, length, refl, sym, ◌∙◌, ap, inl, inr, arith, zero, suc}
use Rattle.std.proofs.lemmas.Bool.{cases_eq}
use Rattle.std.specs.Prelude.{◌⊎◌, not}
use Rattle.std.specs.declared.option.Option.{Option}
use Rattle.std.specs.declared.option.Option.TheVariants.{None, Some}
use Rattle.ir_types.specs.Walks.{HasEdge}
use Rattle.ir_avail.specs.Avoids.{distance_at, Avoids, HasWay, AreDistances, AreNear, IsNext}

-- a block with a distance is in the list
pub within : (ds : List (Option ℕ)) (a n : ℕ) → distance_at ds a ≡ Some n → a < length ds
within [] a n e = cc
within (x ∷ xs) zero n e = omega arith
within (x ∷ xs) (suc a) n e = let h : a < length xs = within xs a n e in omega arith

pub split_suc : (n m : ℕ) → n ≤ m + 1 → (n ≤ m) ⊎ (n ≡ m + 1)
split_suc n m h = elim (cases_eq n (m + 1)) [ inl same ↦ inr same | inr other ↦ inl (omega arith) ]

pub split_le : (n m : ℕ) → n ≤ m → (n < m) ⊎ (n ≡ m)
split_le n m h = elim (cases_eq n m) [ inl same ↦ inr same | inr other ↦ inl (omega arith) ]

pub not_false : (b : Bool) → not b ≡ false → b ≡ true
not_false true e = refl
not_false false e = cc

pub not_true : (b : Bool) → not b ≡ true → b ≡ false
not_true true e = cc
not_true false e = refl

pub same_number : (a b : ℕ) → Some a ≡ Some b → a ≡ b
same_number a b e = cc

module _ (graph : List (List ℕ)) (barred : ℕ → Bool) (end : ℕ) where
  -- at first the one block is known
  pub near_start : (ds : List (Option ℕ)) → (end < length graph → distance_at ds end ≡ Some 0)
      → ((a n : ℕ) → distance_at ds a ≡ Some n → (a ≡ end) × (n ≡ 0)) → AreNear graph barred end ds 0
  near_start ds here only =
      record {
        sound = λ a n e. let h : (a ≡ end) × (n ≡ 0) = only a n e in (omega arith, ([], sym h.1, h.0));
        complete = λ a way lt av most. start-complete a way lt av most;
      }
    where
      start-complete : (a : ℕ) (way : List ℕ) → a < length graph → Avoids graph barred end a way → length way ≤ 0
          → (n : ℕ) × (distance_at ds a ≡ Some n) × (n ≤ length way)
      start-complete a [] lt av most =
          let small : end < length graph = omega arith in
          (0, ap (λ x. distance_at ds x) av ∙ here small, omega arith)
      start-complete a (b ∷ rest) lt av most = absurd (omega arith)

  module _ (old new : List (Option ℕ)) (most : ℕ) (near : AreNear graph barred end old most) (long : length new ≡ length graph)
      (steps : (a : ℕ) → a < length graph → IsNext graph barred old most a (distance_at new a)) where
    next-sound : (a n : ℕ) → distance_at new a ≡ Some n → (n ≤ most + 1) × HasWay graph barred end a n
    next-sound a n e = by_old (distance_at old a) refl
      where
        small : a < length graph
        small = let h : a < length new = within new a n e in omega (arith, h, long)

        by_old : (o : Option ℕ) → distance_at old a ≡ o → (n ≤ most + 1) × HasWay graph barred end a n
        by_old None was =
            let f = (steps a small).found n was e in
            let s = near.sound f.2.0 most f.2.2 in
            let count : n ≡ most + 1 = f.0 in
            let len : length s.1.0 ≡ most = s.1.1 in
            (omega arith, (f.2.0 ∷ s.1.0, (omega arith), (f.1, f.2.1, s.1.2)))
        by_old (Some m) was =
            let same : n ≡ m = same_number n m (sym e ∙ (steps a small).kept m was) in
            let s = near.sound a m was in
            let low : m ≤ most = s.0 in
            let len : length s.1.0 ≡ m = s.1.1 in
            (omega arith, (s.1.0, (omega arith), s.1.2))

    next-complete : (a : ℕ) (way : List ℕ) → a < length graph → Avoids graph barred end a way → length way ≤ most + 1
        → (n : ℕ) × (distance_at new a ≡ Some n) × (n ≤ length way)
    next-complete a way lt av high = by_old (distance_at old a) refl
      where
        by_new : distance_at old a ≡ None → (b : ℕ) (rest : List ℕ) → length way ≡ length rest + 1 → most ≤ length rest → barred a ≡ false → HasEdge graph a b
            → distance_at old b ≡ Some most → (o : Option ℕ) → distance_at new a ≡ o → (n : ℕ) × (distance_at new a ≡ Some n) × (n ≤ length way)
        by_new was b rest len low bar edge at None is = absurd ((steps a lt).missed b was is bar edge at)
        by_new was b rest len low bar edge at (Some n) is = let f : n ≡ most + 1 = ((steps a lt).found n was is).0 in (n, is, omega arith)

        by_target : distance_at old a ≡ None → (b : ℕ) (rest : List ℕ) → length way ≡ length rest + 1 → barred a ≡ false → HasEdge graph a b
            → length rest ≡ most → (d : ℕ) → distance_at old b ≡ Some d → d ≤ length rest → (d < most) ⊎ (d ≡ most)
            → (n : ℕ) × (distance_at new a ≡ Some n) × (n ≤ length way)
        by_target was b rest len bar edge mid d at le (inl less) =
            let s = near.sound b d at in
            let size : length s.1.0 ≡ d = s.1.1 in
            let k = near.complete a (b ∷ s.1.0) lt (bar, edge, s.1.2) (omega arith) in
            absurd (let none : None ≡ Some k.0 = sym was ∙ k.1 in cc)
        by_target was b rest len bar edge mid d at le (inr same) =
            by_new was b rest len (omega arith) bar edge (at ∙ ap (λ x. Some x) same) (distance_at new a) refl

        by_way : distance_at old a ≡ None → (ys : List ℕ) → length way ≡ length ys → Avoids graph barred end a ys → (length ys ≤ most) ⊎ (length ys ≡ most + 1)
            → (n : ℕ) × (distance_at new a ≡ Some n) × (n ≤ length way)
        by_way was ys len way_av (inl low) = let k = near.complete a ys lt way_av low in absurd (let none : None ≡ Some k.0 = sym was ∙ k.1 in cc)
        by_way was [] len way_av (inr full) = absurd (omega arith)
        by_way was (b ∷ rest) len way_av (inr full) =
            let size : length rest ≡ most = omega arith in
            let k = near.complete b rest way_av.1.1 way_av.2 (omega arith) in
            let le : k.0 ≤ length rest = k.2 in
            by_target was b rest (omega arith) way_av.0 way_av.1 size k.0 k.1 le (split_le k.0 most (omega arith))

        by_length : (m : ℕ) → distance_at old a ≡ Some m → m ≤ most → (length way ≤ most) ⊎ (length way ≡ most + 1)
            → (n : ℕ) × (distance_at new a ≡ Some n) × (n ≤ length way)
        by_length m was low (inl short) = let k = near.complete a way lt av short in (k.0, (steps a lt).kept k.0 k.1, k.2)
        by_length m was low (inr full) = (m, (steps a lt).kept m was, omega arith)

        by_old : (o : Option ℕ) → distance_at old a ≡ o → (n : ℕ) × (distance_at new a ≡ Some n) × (n ≤ length way)
        by_old None was = by_way was way refl av (split_suc (length way) most high)
        by_old (Some m) was =
            by_length m was (near.sound a m was).0 (split_suc (length way) most high)

    pub nearer : AreNear graph barred end new (most + 1)
    nearer = record { sound = next-sound; complete = next-complete }

    pub all_found : ((a : ℕ) → distance_at old a ≡ None → distance_at new a ≡ None) → AreDistances graph barred end new
    all_found same =
        record { long = long; sound = λ a n e. (next-sound a n e).1; complete = all-complete }
      where
        low-of : (b n : ℕ) → b < length graph → distance_at new b ≡ Some n → (o : Option ℕ) → distance_at old b ≡ o → n ≤ most
        low-of b n lt is None was = absurd (let none : None ≡ Some n = sym (same b was) ∙ is in cc)
        low-of b n lt is (Some m) was =
            let low : m ≤ most = (near.sound b m was).0 in
            let eq : n ≡ m = same_number n m (sym is ∙ (steps b lt).kept m was) in
            omega arith

        all-complete : (a : ℕ) (way : List ℕ) → a < length graph → Avoids graph barred end a way
            → (n : ℕ) × (distance_at new a ≡ Some n) × (n ≤ length way)
        all-complete a [] lt av = next-complete a [] lt av (omega arith)
        all-complete a (b ∷ rest) lt av =
            let k = all-complete b rest av.1.1 av.2 in
            let s = next-sound b k.0 k.1 in
            let len : length s.1.0 ≡ k.0 = s.1.1 in
            let low : k.0 ≤ most = low-of b k.0 av.1.1 k.1 (distance_at old b) refl in
            let le : k.0 ≤ length rest = k.2 in
            let up = next-complete a (b ∷ s.1.0) lt (av.0, av.1, s.1.2) (omega arith) in
            let few : up.0 ≤ length (b ∷ s.1.0) = up.2 in
            (up.0, up.1, omega arith)
