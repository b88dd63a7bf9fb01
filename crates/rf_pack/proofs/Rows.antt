-- Neighbouring stores of lanes are the store of the row, with the pointer and the align of the first.
use Rattle.std.proofs.Common.{◌≡◌, refl, sym, ap, ◌∙◌, subst, ℕ, ℤ, pos, ◌+ℤ◌, ◌+◌, ◌≤◌, ◌<◌, ◌^◌, Option, None, Some, List, [], ◌∷◌, ◌++◌, length, slice_get, slice_set, option_and_then, FitsSigned, arith, append-nil, length-append}
use Rattle.std.specs.Int.{w64, int_wrap}
use Rattle.std.proofs.lemmas.Int.{SFits-int_wrap, ints}
use Rattle.ir_model.specs.Values.{Lane, Pointer, MayStandFor, moved}
use Rattle.ir_model.specs.Memory.{Memory, put, lane_bytes, row_bytes, stored}
use Rattle.ir_types.specs.declared.ty.Ty.TheVariants.{Row}
use Rattle.ir_model.specs.declared.value.Value.TheVariants.{Row as RowValue}
use Rattle.ir_model.specs.Sizes.{bytes_in}
use Rattle.ir_model.specs.Accesses.{memory_effect}
use Rattle.ir_model.proofs.Lists.{put-append, put_comm, length-put, slice_get-set_same, length-lane_bytes}
use Rattle.ir_model.proofs.Stores.{IsStored, stored-is, is-stored, set_twice}
use Rattle.ir_model.proofs.Pointers.{next_place}
use Rattle.rf_pack.specs.Lanes.{OffsetFits, LaneStore, lanes_of, memory_after, after_store, after_stores}

-- the memory after lanes of k bytes each are stored at neighbouring places
abbrev pub stored_each : ℕ → Pointer → List LaneStore → Memory → Option Memory
stored_each k p [] m = Some m
stored_each k p (l ∷ ls) m = option_and_then (stored_each k (moved p (pos k)) ls) (stored l.align (lane_bytes k l.lane) p m)

-- what the second of two stores to one object finds
pub found_again : (a1 a2 : ℕ) (b1 b2 : List Lane) (o : ℕ) (z1 z2 : ℤ) (m m1 m2 : Memory) →
    (s : IsStored a1 b1 o z1 m m1) (t : IsStored a2 b2 o z2 m1 m2) → t.object ≡ put b1 s.at s.object
found_again a1 a2 b1 b2 o z1 z2 m m1 m2 s t =
    let set : slice_get (slice_set m o (put b1 s.at s.object)) o ≡ Some (put b1 s.at s.object) = slice_get-set_same m o s.object (put b1 s.at s.object) s.found in
    let again : Some t.object ≡ Some (put b1 s.at s.object) = sym t.found ∙ ap (λ n. slice_get n o) s.left ∙ set in
    cc

-- two neighbouring stores are one store of both
pub both : (a1 a2 k : ℕ) (b1 b2 : List Lane) (o : ℕ) (z : ℤ) (m m1 m2 : Memory) →
    length b1 ≡ k → k < 2 ^ 63 → FitsSigned w64 z →
    IsStored a1 b1 o z m m1 → IsStored a2 b2 o (int_wrap w64 (z +ℤ pos k)) m1 m2 → IsStored a1 (b1 ++ b2) o z m m2
both a1 a2 k b1 b2 o z m m1 m2 long less fits s t = record {
  object = s.object;
  at = s.at;
  found = s.found;
  place = record { here = s.place.here; room = room; aligned = s.place.aligned };
  left = left;
}
  where
    small : s.at < 2 ^ 63
    small = let f : FitsSigned w64 (pos s.at) = subst (FitsSigned w64) s.place.here fits in omega (arith, ints)

    next : t.at ≡ s.at + k
    next = next_place s.at t.at k small less (ap (λ y. int_wrap w64 (y +ℤ pos k)) (sym s.place.here) ∙ t.place.here)

    object : t.object ≡ put b1 s.at s.object
    object = found_again a1 a2 b1 b2 o z (int_wrap w64 (z +ℤ pos k)) m m1 m2 s t

    fits_in : t.at + length b2 ≤ length s.object
    fits_in = subst (λ (n : ℕ). t.at + length b2 ≤ n) (ap length object ∙ length-put b1 s.at s.object) t.place.room

    room : s.at + length (b1 ++ b2) ≤ length s.object
    room = let f = fits_in in let n = next in let l = length-append b1 b2 in omega arith

    at_end : t.at ≡ s.at + length b1
    at_end = let n = next in omega arith

    bytes : put b2 t.at t.object ≡ put (b1 ++ b2) s.at s.object
    bytes =
        ap (λ n. put b2 n t.object) at_end ∙ ap (put b2 (s.at + length b1)) object ∙ sym (put-append b1 b2 s.at s.object)

    left : m2 ≡ slice_set m o (put (b1 ++ b2) s.at s.object)
    left =
        t.left ∙ ap (λ n. slice_set n o (put b2 t.at t.object)) s.left
        ∙ set_twice m o (put b1 s.at s.object) (put b2 t.at t.object) ∙ ap (slice_set m o) bytes

-- lanes stored one after another leave the row stored
pub row_upward : (k o : ℕ) (z : ℤ) (l : LaneStore) (ls : List LaneStore) (m m2 : Memory) → k < 2 ^ 63 → FitsSigned w64 z →
    stored_each k (Some (o, z)) (l ∷ ls) m ≡ Some m2 → IsStored l.align (row_bytes k (lanes_of (l ∷ ls))) o z m m2
row_upward k o z l [] m m2 less fits e =
    subst (λ bytes. IsStored l.align bytes o z m m2) (sym (append-nil (lane_bytes k l.lane)))
    (stored-is l.align (lane_bytes k l.lane) o z m m2 (only (stored l.align (lane_bytes k l.lane) (Some (o, z)) m) e))
  where
    only : (after : Option Memory) → option_and_then (stored_each k (moved (Some (o, z)) (pos k)) []) after ≡ Some m2 → after ≡ Some m2
    only None e = absurd cc
    only (Some m1) e = e
row_upward k o z l (l2 ∷ ls) m m2 less fits e = first (stored l.align (lane_bytes k l.lane) (Some (o, z)) m) refl e (λ m1 rest. row_upward k o (int_wrap w64 (z +ℤ pos k)) l2 ls m1 m2 less (SFits-int_wrap w64 (z +ℤ pos k)) rest)
  where
    first : (after : Option Memory) → stored l.align (lane_bytes k l.lane) (Some (o, z)) m ≡ after →
        option_and_then (stored_each k (moved (Some (o, z)) (pos k)) (l2 ∷ ls)) after ≡ Some m2 →
        ((m1 : Memory) → stored_each k (Some (o, int_wrap w64 (z +ℤ pos k))) (l2 ∷ ls) m1 ≡ Some m2 → IsStored l2.align (row_bytes k (lanes_of (l2 ∷ ls))) o (int_wrap w64 (z +ℤ pos k)) m1 m2) →
        IsStored l.align (row_bytes k (lanes_of (l ∷ l2 ∷ ls))) o z m m2
    first None is e rest = absurd cc
    first (Some m1) is e rest =
        both l.align l2.align k (lane_bytes k l.lane) (row_bytes k (lanes_of (l2 ∷ ls))) o z m m1 m2
        (length-lane_bytes k l.lane) less fits (stored-is l.align (lane_bytes k l.lane) o z m m1 is) (rest m1 e)

-- the store of the row may stand for the stores of its lanes
pub row_stands : (k : ℕ) (p : Pointer) (l : LaneStore) (ls : List LaneStore) (m : Memory) → k < 2 ^ 63 → OffsetFits p →
    MayStandFor (stored l.align (row_bytes k (lanes_of (l ∷ ls))) p m) (stored_each k p (l ∷ ls) m)
row_stands k None l ls m less fits = tt
row_stands k (Some p) l ls m less fits = by_end (stored_each k (Some p) (l ∷ ls) m) refl
  where
    by_end : (after : Option Memory) → stored_each k (Some p) (l ∷ ls) m ≡ after → MayStandFor (stored l.align (row_bytes k (lanes_of (l ∷ ls))) (Some p) m) after
    by_end None is = tt
    by_end (Some m2) is =
        is-stored l.align (row_bytes k (lanes_of (l ∷ ls))) p.0 p.1 m m2 (row_upward k p.0 p.1 l ls m m2 less fits is)

memory_of_effect : (x : Option Memory) → memory_after (memory_effect x) ≡ x
memory_of_effect None = refl
memory_of_effect (Some m) = refl

after_stores-each : (w : ℕ) (p : Pointer) (ls : List LaneStore) (m : Memory) → after_stores w p ls m ≡ stored_each (bytes_in w) p ls m
after_stores-each w p [] m = refl
after_stores-each w p (l ∷ ls) m =
    ap (option_and_then (after_stores w (moved p (pos (bytes_in w))) ls)) (memory_of_effect (stored l.align (lane_bytes (bytes_in w) l.lane) p m))
    ∙ by_memory (stored l.align (lane_bytes (bytes_in w) l.lane) p m) (λ n. after_stores-each w (moved p (pos (bytes_in w))) ls n)
  where
    by_memory : (x : Option Memory) → ((n : Memory) → after_stores w (moved p (pos (bytes_in w))) ls n ≡ stored_each (bytes_in w) (moved p (pos (bytes_in w))) ls n) →
        option_and_then (after_stores w (moved p (pos (bytes_in w))) ls) x ≡ option_and_then (stored_each (bytes_in w) (moved p (pos (bytes_in w))) ls) x
    by_memory None rest = refl
    by_memory (Some n) rest = rest n

-- the vector store instruction may stand for the store instructions of its lanes
pub row_store_stands : (w : ℕ) (p : Pointer) (l : LaneStore) (ls : List LaneStore) (m : Memory) → w ≤ 64 → OffsetFits p →
    MayStandFor (after_store l.align (Row (length (l ∷ ls)) w) (RowValue (lanes_of (l ∷ ls))) p m) (after_stores w p (l ∷ ls) m)
row_store_stands w p l ls m narrow fits =
    subst (λ x. MayStandFor x (after_stores w p (l ∷ ls) m)) (sym (memory_of_effect (stored l.align (row_bytes (bytes_in w) (lanes_of (l ∷ ls))) p m)))
    (subst (MayStandFor (stored l.align (row_bytes (bytes_in w) (lanes_of (l ∷ ls))) p m)) (sym (after_stores-each w p (l ∷ ls) m))
    (row_stands (bytes_in w) p l ls m (omega arith) fits))

-- two stores to one object at places apart, in the other order
pub record IsSwapped (a1 a2 : ℕ) (b1 b2 : List Lane) (o : ℕ) (z1 z2 : ℤ) (m m2 : Memory) : Type 0 where
  pub between : Memory
  pub first : IsStored a2 b2 o z2 m between
  pub second : IsStored a1 b1 o z1 between m2

pub swapped : (a1 a2 : ℕ) (b1 b2 : List Lane) (o : ℕ) (z1 z2 : ℤ) (m m1 m2 : Memory) →
    (s : IsStored a1 b1 o z1 m m1) (t : IsStored a2 b2 o z2 m1 m2) → t.at + length b2 ≤ s.at → IsSwapped a1 a2 b1 b2 o z1 z2 m m2
swapped a1 a2 b1 b2 o z1 z2 m m1 m2 s t apart = record {
  between = slice_set m o (put b2 t.at s.object);
  first = record {
    object = s.object;
    at = t.at;
    found = s.found;
    place = record { here = t.place.here; room = room; aligned = t.place.aligned };
    left = refl;
  };
  second = record {
    object = put b2 t.at s.object;
    at = s.at;
    found = slice_get-set_same m o s.object (put b2 t.at s.object) s.found;
    place = record { here = s.place.here; room = subst (λ (n : ℕ). s.at + length b1 ≤ n) (sym (length-put b2 t.at s.object)) s.place.room; aligned = s.place.aligned };
    left = left;
  };
}
  where
    object : t.object ≡ put b1 s.at s.object
    object = found_again a1 a2 b1 b2 o z1 z2 m m1 m2 s t

    room : t.at + length b2 ≤ length s.object
    room = subst (λ (n : ℕ). t.at + length b2 ≤ n) (ap length object ∙ length-put b1 s.at s.object) t.place.room

    left : m2 ≡ slice_set (slice_set m o (put b2 t.at s.object)) o (put b1 s.at (put b2 t.at s.object))
    left =
        t.left ∙ ap (λ n. slice_set n o (put b2 t.at t.object)) s.left
        ∙ set_twice m o (put b1 s.at s.object) (put b2 t.at t.object)
        ∙ ap (λ x. slice_set m o (put b2 t.at x)) object
        ∙ ap (slice_set m o) (put_comm b2 b1 t.at s.at s.object apart)
        ∙ sym (set_twice m o (put b2 t.at s.object) (put b1 s.at (put b2 t.at s.object)))
