-- The least of the shortest ways: the least target at one less goes first, and then the least way from it.
use Rattle.std.proofs.Common.{◌≡◌, ℕ, ◌+◌, ◌<◌, ◌≤◌, Bool, false, List, [], ◌∷◌, ◌++◌, length, refl, sym, ◌∙◌, ap, subst, inl, inr, arith, append_assoc}
use Rattle.std.specs.Prelude.{◌⊎◌}
use Rattle.std.specs.declared.option.Option.{Option}
use Rattle.std.specs.declared.option.Option.TheVariants.{Some}
use Rattle.ir_types.specs.Walks.{HasEdge, NotGreater}
use Rattle.ir_avail.specs.Avoids.{distance_at, Avoids, AreDistances, IsLeast, IsTargetAt}
use Rattle.ir_avail.proofs.Ways.{within, split_le, same_number}

module _ (graph : List (List ℕ)) (barred : ℕ → Bool) (end : ℕ) (ds : List (Option ℕ)) (are : AreDistances graph barred end ds) where
  -- the first target of a shortest way is at one less
  target_of : (a n c : ℕ) (rest : List ℕ) → distance_at ds a ≡ Some (n + 1) → barred a ≡ false → HasEdge graph a c
      → Avoids graph barred end c rest → length rest ≡ n → distance_at ds c ≡ Some n
  target_of a n c rest at bar edge av len = let k = are.complete c rest edge.1 av in by_size k.0 k.1 (split_le k.0 n (let le : k.0 ≤ length rest = k.2 in omega arith))
    where
      by_size : (d : ℕ) → distance_at ds c ≡ Some d → (d < n) ⊎ (d ≡ n) → distance_at ds c ≡ Some n
      by_size d is (inr same) = is ∙ ap (λ x. Some x) same
      by_size d is (inl less) =
          let s = are.sound c d is in
          let size : length s.0 ≡ d = s.1 in
          let inside : a < length ds = within ds a (n + 1) at in
          let long : length ds ≡ length graph = are.long in
          let k = are.complete a (c ∷ s.0) (omega arith) (bar, edge, s.2) in
          let few : k.0 ≤ length (c ∷ s.0) = k.2 in
          let same : n + 1 ≡ k.0 = same_number (n + 1) k.0 (sym at ∙ k.1) in
          absurd (omega arith)

  -- from a block at a distance above 0 an edge leads to one at one less
  pub some_target : (a n : ℕ) → distance_at ds a ≡ Some (n + 1) → (b : ℕ) × IsTargetAt graph ds a n b
  some_target a n at = let s = are.sound a (n + 1) at in by_way s.0 s.1 s.2
    where
      by_way : (way : List ℕ) → length way ≡ n + 1 → Avoids graph barred end a way → (b : ℕ) × IsTargetAt graph ds a n b
      by_way [] len av = absurd (omega arith)
      by_way (b ∷ rest) len av = (b, (av.1, target_of a n b rest at av.0 av.1 av.2 (omega arith)))

  open_at : (a n : ℕ) → distance_at ds a ≡ Some (n + 1) → barred a ≡ false
  open_at a n at = let s = are.sound a (n + 1) at in by_way s.0 s.1 s.2
    where
      by_way : (way : List ℕ) → length way ≡ n + 1 → Avoids graph barred end a way → barred a ≡ false
      by_way [] len av = absurd (omega arith)
      by_way (b ∷ rest) len av = av.0

  pub least_nil : (a : ℕ) → distance_at ds a ≡ Some 0 → IsLeast graph barred end a 0 []
  least_nil a at = let s = are.sound a 0 at in by_way s.0 s.1 s.2
    where
      by_way : (way : List ℕ) → length way ≡ 0 → Avoids graph barred end a way → IsLeast graph barred end a 0 []
      by_way [] len av = record { long = refl; avoids = av; least = λ other size way. tt }
      by_way (b ∷ rest) len av = absurd (omega arith)

  pub least_step : (a n b : ℕ) (rest : List ℕ) → distance_at ds a ≡ Some (n + 1) → IsTargetAt graph ds a n b
      → ((c : ℕ) → IsTargetAt graph ds a n c → b ≤ c) → IsLeast graph barred end b n rest → IsLeast graph barred end a (n + 1) (b ∷ rest)
  least_step a n b rest at target low least =
      record {
        long = let len : length rest ≡ n = least.long in omega arith;
        avoids = (open_at a n at, target.0, least.avoids);
        least = beats;
      }
    where
      by_first : (c : ℕ) (others : List ℕ) → length others ≡ n → Avoids graph barred end c others → (b < c) ⊎ (b ≡ c) → NotGreater (b ∷ rest) (c ∷ others)
      by_first c others len av (inl less) = inl less
      by_first c others len av (inr same) =
          let P : ℕ → Type 0 = λ x. Avoids graph barred end x others in
          inr (same, least.least others len (subst P (sym same) av))

      beats : (other : List ℕ) → length other ≡ n + 1 → Avoids graph barred end a other → NotGreater (b ∷ rest) other
      beats [] len av = absurd (omega arith)
      beats (c ∷ others) len av =
          let size : length others ≡ n = omega arith in
          let le : b ≤ c = low c (av.1, target_of a n c others at av.0 av.1 av.2 size) in
          by_first c others size av.2 (split_le b c le)

-- a least way from where the walk has come makes a least way from the entry
abbrev pub Leads : List (List ℕ) → (ℕ → Bool) → ℕ → ℕ → List ℕ → ℕ → ℕ → Type 0
Leads graph barred end len walk at left =
    (rest : List ℕ) → IsLeast graph barred end at left rest → (way : List ℕ) × (walk ++ rest ≡ 0 ∷ way) × IsLeast graph barred end 0 len way

-- one step down
pub leads_step : (graph : List (List ℕ)) (barred : ℕ → Bool) (end : ℕ) (ds : List (Option ℕ)) → AreDistances graph barred end ds
    → (len at left n next : ℕ) (walk : List ℕ) → left ≡ n + 1 → distance_at ds at ≡ Some left → IsTargetAt graph ds at n next
    → ((c : ℕ) → IsTargetAt graph ds at n c → next ≤ c) → Leads graph barred end len walk at left
    → Leads graph barred end len (walk ++ next ∷ []) next n
leads_step graph barred end ds are len at left n next walk one is target low leads rest least =
    let P : ℕ → Type 0 = λ k. distance_at ds at ≡ Some k in
    let Q : ℕ → Type 0 = λ k. IsLeast graph barred end at k (next ∷ rest) in
    let longer = subst Q (sym one) (least_step graph barred end ds are at n next rest (subst P one is) target low least) in
    let all = leads (next ∷ rest) longer in
    (all.0, append_assoc walk (next ∷ []) rest ∙ all.1, all.2)
