-- Two stores of 32 bits, 4 bytes apart, are one store of the pair with the pointer and the align of the lower one.
use Rattle.std.proofs.Common.{◌≡◌, refl, sym, ap, ◌∙◌, subst, ℕ, ℤ, pos, ◌+ℤ◌, ◌+◌, ◌≤◌, ◌<◌, ◌^◌, None, Some, [], ◌∷◌, length, option_and_then, FitsSigned, arith}
use Rattle.std.specs.Int.{w64, int_wrap}
use Rattle.std.proofs.lemmas.Int.{SFits-int_wrap, int_wrap-add_left, ints}
use Rattle.std.proofs.Math.IntN.{+ℤ_assoc}
use Rattle.ir_model.specs.Values.{Lane, Pointer, MayStandFor, moved}
use Rattle.ir_model.specs.Memory.{Memory, lane_bytes, row_bytes, stored}
use Rattle.ir_model.proofs.Lists.{length-lane_bytes}
use Rattle.ir_model.proofs.Stores.{IsStored, stored-is, is-stored}
use Rattle.ir_model.proofs.Pointers.{next_place}
use Rattle.rf_pack.specs.Lanes.{OffsetFits, LaneStore}
use Rattle.rf_pack.proofs.Rows.{stored_each, row_stands, IsSwapped, swapped}

pub moved-plus : (p : Pointer) (a b : ℤ) → moved (moved p a) b ≡ moved p (a +ℤ b)
moved-plus None a b = refl
moved-plus (Some p) a b = ap (λ z. Some (p.0, z)) (int_wrap-add_left w64 (p.1 +ℤ a) b ∙ ap (int_wrap w64) (+ℤ_assoc p.1 a b))

pub moved_offset : (p : Pointer) (z : ℤ) → OffsetFits (moved p z)
moved_offset None z = tt
moved_offset (Some p) z = SFits-int_wrap w64 (p.1 +ℤ z)

-- the lower store comes first
pub lower_first : (p : Pointer) (c d : ℤ) (a1 a2 : ℕ) (x y : Lane) (m m1 m2 : Memory) → d ≡ c +ℤ pos 4 →
    stored a1 (lane_bytes 4 x) (moved p c) m ≡ Some m1 → stored a2 (lane_bytes 4 y) (moved p d) m1 ≡ Some m2 →
    stored a1 (row_bytes 4 (x ∷ y ∷ [])) (moved p c) m ≡ Some m2
lower_first p c d a1 a2 x y m m1 m2 apart first second =
    subst (MayStandFor (stored a1 (row_bytes 4 (x ∷ y ∷ [])) (moved p c) m)) each
    (row_stands 4 (moved p c) low (high ∷ []) m (omega arith) (moved_offset p c))
  where
    low : LaneStore
    low = record { align = a1; lane = x }

    high : LaneStore
    high = record { align = a2; lane = y }

    place : moved (moved p c) (pos 4) ≡ moved p d
    place = moved-plus p c (pos 4) ∙ ap (moved p) (sym apart)

    each : stored_each 4 (moved p c) (record { align = a1; lane = x } ∷ record { align = a2; lane = y } ∷ []) m ≡ Some m2
    each =
        ap (option_and_then (stored_each 4 (moved (moved p c) (pos 4)) (record { align = a2; lane = y } ∷ []))) first
        ∙ ap (option_and_then (stored_each 4 (moved (moved (moved p c) (pos 4)) (pos 4)) []))
        (ap (λ q. stored a2 (lane_bytes 4 y) q m1) place ∙ second)

-- the lower store comes second
pub lower_second : (p : Pointer) (c d : ℤ) (a1 a2 : ℕ) (x y : Lane) (m m1 m2 : Memory) → c ≡ d +ℤ pos 4 →
    stored a1 (lane_bytes 4 x) (moved p c) m ≡ Some m1 → stored a2 (lane_bytes 4 y) (moved p d) m1 ≡ Some m2 →
    stored a2 (row_bytes 4 (y ∷ x ∷ [])) (moved p d) m ≡ Some m2
lower_second None c d a1 a2 x y m m1 m2 apart first second = absurd cc
lower_second (Some p) c d a1 a2 x y m m1 m2 apart first second =
    by_swap (swapped a1 a2 (lane_bytes 4 x) (lane_bytes 4 y) p.0 (int_wrap w64 (p.1 +ℤ c)) (int_wrap w64 (p.1 +ℤ d)) m m1 m2 s t above)
  where
    s : IsStored a1 (lane_bytes 4 x) p.0 (int_wrap w64 (p.1 +ℤ c)) m m1
    s = stored-is a1 (lane_bytes 4 x) p.0 (int_wrap w64 (p.1 +ℤ c)) m m1 first

    t : IsStored a2 (lane_bytes 4 y) p.0 (int_wrap w64 (p.1 +ℤ d)) m1 m2
    t = stored-is a2 (lane_bytes 4 y) p.0 (int_wrap w64 (p.1 +ℤ d)) m1 m2 second

    small : t.at < 2 ^ 63
    small = let f : FitsSigned w64 (pos t.at) = subst (FitsSigned w64) t.place.here (SFits-int_wrap w64 (p.1 +ℤ d)) in omega (arith, ints)

    next : s.at ≡ t.at + 4
    next =
        next_place t.at s.at 4 small (omega arith)
        (ap (λ z. int_wrap w64 (z +ℤ pos 4)) (sym t.place.here)
        ∙ int_wrap-add_left w64 (p.1 +ℤ d) (pos 4)
        ∙ ap (int_wrap w64) (+ℤ_assoc p.1 d (pos 4) ∙ ap (λ z. p.1 +ℤ z) (sym apart))
        ∙ s.place.here)

    above : t.at + length (lane_bytes 4 y) ≤ s.at
    above = let n = next in let l = length-lane_bytes 4 y in omega arith

    by_swap : IsSwapped a1 a2 (lane_bytes 4 x) (lane_bytes 4 y) p.0 (int_wrap w64 (p.1 +ℤ c)) (int_wrap w64 (p.1 +ℤ d)) m m2 →
        stored a2 (row_bytes 4 (y ∷ x ∷ [])) (moved (Some p) d) m ≡ Some m2
    by_swap w =
        lower_first (Some p) d c a2 a1 y x m w.between m2 apart
        (is-stored a2 (lane_bytes 4 y) p.0 (int_wrap w64 (p.1 +ℤ d)) m w.between w.first)
        (is-stored a1 (lane_bytes 4 x) p.0 (int_wrap w64 (p.1 +ℤ c)) w.between m2 w.second)
