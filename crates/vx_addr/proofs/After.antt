-- Indices one after another: what is left of both lists after their first items.
use Rattle.std.proofs.Common.{◌≡◌, refl, sym, ap, ◌∙◌, subst, ℕ, suc, ◌-◌, ◌≤◌, Option, None, Some, List, [], ◌∷◌, length, take, drop, get_or, arith}
use Rattle.std.specs.List.{All}
use Rattle.std.specs.Prelude.{option_and_then}
use Rattle.std.proofs.lemmas.List.Elements.{All-tail}
use Rattle.ir_types.specs.declared.opd.Opd.{Opd}
use Rattle.ir_types.specs.Formed.{IsOpd}
use Rattle.vx_view.specs.Addresses.{Offset, with_index, with_indices}

pub no_scales : (scales : List ℕ) (indices : List Opd) (o : Offset) → length scales ≡ 0 → 1 ≤ length indices → None ≡ with_indices scales indices o
no_scales [] [] o e h = absurd (none_less h) where
  none_less : 1 ≤ 0 → ⊥
  none_less h = omega arith
no_scales [] (x ∷ xs) o e h = refl
no_scales (s ∷ ss) xs o e h = absurd (none_suc e) where
  none_suc : suc (length ss) ≡ 0 → ⊥
  none_suc e = omega arith

take_all : {A : Type 0} (xs : List A) → take (length xs) xs ≡ xs
take_all [] = refl
take_all (x ∷ xs) = ap (λ l. x ∷ l) (take_all xs)

after : {A : Type 0} (x : A) (xs : List A) → take (length (x ∷ xs) - 1) (drop 1 (x ∷ xs)) ≡ xs
after x xs = ap (λ n. take n xs) (less (length xs)) ∙ take_all xs where
  less : (n : ℕ) → suc n - 1 ≡ n
  less n = omega arith

pub opd_first : (xs : List Opd) (d : Opd) → All IsOpd xs → 1 ≤ length xs → IsOpd (get_or xs 0 d)
opd_first xs d h less = h 0 d (omega arith)

pub opds_after : (xs : List Opd) → All IsOpd xs → 1 ≤ length xs → All IsOpd (take (length xs - 1) (drop 1 xs))
opds_after [] h less = absurd (none_less less) where
  none_less : 1 ≤ 0 → ⊥
  none_less h = omega arith
opds_after (x ∷ xs) h less = subst (All IsOpd) (sym (after x xs)) (All-tail IsOpd x xs h)

pub one_more : (scales : List ℕ) (indices : List Opd) (o next : Offset) (k : ℕ) (d : Opd) (r : Option Offset) → 1 ≤ length scales → 1 ≤ length indices →
    with_index (get_or indices 0 d) (get_or scales 0 k) o ≡ Some next →
    r ≡ with_indices (take (length scales - 1) (drop 1 scales)) (take (length indices - 1) (drop 1 indices)) next → r ≡ with_indices scales indices o
one_more [] indices o next k d r few many e f = absurd (none_less few) where
  none_less : 1 ≤ 0 → ⊥
  none_less h = omega arith
one_more (s ∷ ss) [] o next k d r few many e f = absurd (none_less many) where
  none_less : 1 ≤ 0 → ⊥
  none_less h = omega arith
one_more (s ∷ ss) (x ∷ xs) o next k d r few many e f =
    f ∙ ap (λ l. with_indices l (take (length (x ∷ xs) - 1) (drop 1 (x ∷ xs))) next) (after s ss) ∙ ap (λ l. with_indices ss l next) (after x xs)
    ∙ ap (option_and_then (with_indices ss xs)) (sym e)
