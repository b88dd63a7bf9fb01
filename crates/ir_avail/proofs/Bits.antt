-- Bits of rows, and what a clear bit says.
use Rattle.std.proofs.Common.{◌≡◌, ℕ, ◌+◌, ◌-◌, ◌*◌, ◌%◌, ◌^◌, ◌<◌, false, List, [], ◌∷◌, length, get_or, refl, sym, ◌∙◌, ap, subst, inl, inr, arith, eq-eqb, w64, zero, suc}
use Rattle.std.proofs.lemmas.Bool.{cases_eq}
use Rattle.std.proofs.lemmas.Nat.Bits.{bit_at_or, bit_at_set_other, bit_at-lt, bit_at_ones, bit_at-zero}
use Rattle.std.proofs.lemmas.Option.{get_or_from_slice_get}
use Rattle.std.specs.Prelude.{◌⊎◌, slice_get, bit_or}
use Rattle.std.specs.Int.{bit_at}
use Rattle.std.specs.declared.option.Option.TheVariants.{Some}
use Rattle.ir_types.specs.Walks.{HasEdge, targets_at}
use Rattle.ir_avail.specs.Avoids.{Avoids}
use Rattle.ir_avail.specs.Rows.{IsBand, AreHomes, IsClosed, at_home}

pub set_bit : (word column other : ℕ) → column < 64 → bit_at (bit_or word (1 * 2 ^ column % 2 ^ 64)) other ≡ 1
    → (other ≡ column) ⊎ (bit_at word other ≡ 1)
set_bit word column other low set =
    elim (cases_eq other column) [
      | inl same ↦ inl same
      | inr apart ↦ inr (sym (bit_at_set_other w64 word column low other apart) ∙ set)
    ]

-- a row that adds nothing to others has its bits there
pub goes : (row word own column : ℕ) → bit_or row (bit_or word own) ≡ bit_or word own → bit_at row column ≡ 1 → bit_at word column ≡ 0
    → bit_at own column ≡ 1
goes row word own column same has lacks =
    let e : bit_at (bit_or row (bit_or word own)) column ≡ bit_at (bit_or word own) column = ap (λ x. bit_at x column) same in
    let all = bit_at_or row (bit_or word own) column in
    let two = bit_at_or word own column in
    let small = bit_at-lt own column in
    omega (arith, e, all, two, small, has, lacks)

pub full_row : (column : ℕ) → column < 64 → bit_at (2 ^ 64 - 1) column ≡ 1
full_row column low = bit_at_ones 64 column low

-- a list of which each member is 0
pub zero_at : (words : List ℕ) → ((k row : ℕ) → slice_get words k ≡ Some row → row ≡ 0) → (k : ℕ) → get_or words k 0 ≡ 0
zero_at [] all k = refl
zero_at (w ∷ ws) all zero = all 0 w refl
zero_at (w ∷ ws) all (suc k) = zero_at ws (λ j row e. all (suc j) row e) k

pub no_homes : (homes words : List ℕ) → ((k row : ℕ) → slice_get words k ≡ Some row → row ≡ 0) → AreHomes homes words
no_homes homes words all a column low set =
    let none : bit_at (get_or words a 0) column ≡ 0 = ap (λ x. bit_at x column) (zero_at words all a) ∙ bit_at-zero column in
    absurd (omega (arith, none, set))

-- a block with a target is in the graph
pub has_targets : (graph : List (List ℕ)) (a b : ℕ) → HasEdge graph a b → a < length graph
has_targets [] a b edge = let low : edge.0.0 < 0 = edge.0.1 in absurd (omega arith)
has_targets (t ∷ ts) zero b edge = omega arith
has_targets (t ∷ ts) (suc a) b edge = let h : a < length ts = inner ts a (edge.0.0) (edge.0.1) in omega arith
  where
    inner : (graph : List (List ℕ)) (a k : ℕ) → k < length (targets_at graph a) → a < length graph
    inner [] a k low = absurd (omega arith)
    inner (t ∷ ts) zero k low = omega arith
    inner (t ∷ ts) (suc a) k low = let h : a < length ts = inner ts a k low in omega arith

module _ (graph : List (List ℕ)) (homes words rows : List ℕ) (are : AreHomes homes words) (closed : IsClosed graph words rows) where
  leaves : (column a : ℕ) → column < 64 → at_home homes column a ≡ false → bit_at (get_or words a 0) column ≡ 0
  leaves column a low apart =
      let small = bit_at-lt (get_or words a 0) column in
      elim (cases_eq (bit_at (get_or words a 0) column) 1) [
        | inl set ↦ absurd (let home : a ≡ get_or homes column 0 = sym (are a column low set) in let same = eq-eqb a (get_or homes column 0) home in cc)
        | inr clear ↦ omega (arith, small, clear)
      ]

  carried : (column end : ℕ) → column < 64 → (a : ℕ) (way : List ℕ) → Avoids graph (at_home homes column) end a way
      → bit_at (get_or rows a 0) column ≡ 1 → bit_at (get_or rows end 0) column ≡ 1
  carried column end low a [] av set = ap (λ v. bit_at (get_or rows v 0) column) (sym av) ∙ set
  carried column end low a (b ∷ rest) av set =
      carried column end low b rest av.2 (closed a b column av.1 set (leaves column a low av.0))

  pub band_of : get_or rows 0 0 ≡ 2 ^ 64 - 1 → IsBand graph homes rows
  band_of entry column end row way low at clear av =
      let first : bit_at (get_or rows 0 0) column ≡ 1 = ap (λ x. bit_at x column) entry ∙ full_row column low in
      let last : bit_at (get_or rows end 0) column ≡ 1 = carried column end low 0 way av first in
      let same : get_or rows end 0 ≡ row = get_or_from_slice_get rows end row 0 at in
      let none : bit_at (get_or rows end 0) column ≡ 0 = ap (λ x. bit_at x column) same ∙ clear in
      absurd (omega (arith, last, none))

-- full rows have no clear bit
pub band_full : (graph : List (List ℕ)) (homes rows : List ℕ) → ((k row : ℕ) → slice_get rows k ≡ Some row → row ≡ 2 ^ 64 - 1) → IsBand graph homes rows
band_full graph homes rows all column end row way low at clear av =
    let set : bit_at row column ≡ 1 = ap (λ x. bit_at x column) (all end row at) ∙ full_row column low in
    absurd (omega (arith, set, clear))

-- one more target
pub goes_more : (row word own i : ℕ) (targets rows : List ℕ) → own ≡ get_or rows (get_or targets i 0) 0
    → bit_or row (bit_or word own) ≡ bit_or word own
    → ((k column : ℕ) → k < i → bit_at row column ≡ 1 → bit_at word column ≡ 0 → bit_at (get_or rows (get_or targets k 0) 0) column ≡ 1)
    → (k column : ℕ) → k < i + 1 → bit_at row column ≡ 1 → bit_at word column ≡ 0 → bit_at (get_or rows (get_or targets k 0) 0) column ≡ 1
goes_more row word own i targets rows is same before k column low has lacks =
    elim (cases_eq k i) [
      | inl here ↦
          ap (λ j. bit_at (get_or rows (get_or targets j 0) 0) column) here ∙ ap (λ x. bit_at x column) (sym is) ∙ goes row word own column same has lacks
      | inr other ↦ before k column (omega arith) has lacks
    ]

pub band_made : (graph : List (List ℕ)) (homes homes' words words' rows rows' : List ℕ) → homes' ≡ homes → words' ≡ words → rows' ≡ rows
    → AreHomes homes words → IsClosed graph words' rows' → get_or rows' 0 0 ≡ 2 ^ 64 - 1 → IsBand graph homes' rows
band_made graph homes homes' words words' rows rows' hs ws rs are closed entry =
    let P : List ℕ → Type 0 = λ h. IsBand graph h rows in
    let Q : List ℕ → Type 0 = λ r. IsBand graph homes r in
    let R : List ℕ → Type 0 = λ w. AreHomes homes w in
    subst P (sym hs) (subst Q rs (band_of graph homes words' rows' (subst R (sym ws) are) closed entry))
