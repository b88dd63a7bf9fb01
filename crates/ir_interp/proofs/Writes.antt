-- Bytes put over others one after another.
use Rattle.std.proofs.Common.{◌≡◌, refl, sym, ap, ◌∙◌, ℕ, zero, suc, ℤ, ◌+◌, ◌<◌, true, Some, option_map, List, [], ◌∷◌, length, drop, get_or, slice_get, slice_set, arith, drop-cons, add-one}
use Rattle.ir_model.specs.Values.{Lane}
use Rattle.ir_model.specs.Memory.{Object, Memory, place_of, put, with_bytes, stored_in}
use Rattle.ir_model.specs.Accesses.{memory_effect}
use Rattle.ir_model.proofs.Lists.{put_further}
use Rattle.ir_interp.specs.Effects.{stored_if}

-- the first byte set, and the others put after it
put-first : {A : Type 0} (x : A) (xs : List A) (at : ℕ) (zs : List A) → at < length zs → put (x ∷ xs) at zs ≡ put xs (at + 1) (slice_set zs at x)
put-first x xs at [] h = absurd (omega arith)
put-first x xs zero (z ∷ zs) h = sym (put_further xs (zero + 1) zero x zs (omega arith))
put-first x xs (suc at) (z ∷ zs) h =
    ap (λ r. z ∷ r) (put-first x xs at zs (omega arith)) ∙ sym (put_further xs (suc at + 1) (at + 1) z (slice_set zs at x) (omega arith))

-- one byte more
pub put-more : {A : Type 0} (bytes : List A) (at i : ℕ) (object : List A) (d : A) → i < length bytes → at + i < length object
    → put (drop (i + 1) bytes) (at + (i + 1)) (slice_set object (at + i) (get_or bytes i d)) ≡ put (drop i bytes) (at + i) object
put-more bytes at i object d h k =
    let next : drop i bytes ≡ get_or bytes i d ∷ drop (i + 1) bytes = drop-cons bytes i d h ∙ ap (λ n. get_or bytes i d ∷ drop n bytes) (sym (add-one i)) in
    let place : at + (i + 1) ≡ at + i + 1 = omega arith in
    ap (λ n. put (drop (i + 1) bytes) n (slice_set object (at + i) (get_or bytes i d))) place
    ∙ sym (put-first (get_or bytes i d) (drop (i + 1) bytes) (at + i) object k)
    ∙ ap (λ l. put l (at + i) object) (sym next)

pub slice_set-again : {A : Type 0} (xs : List A) (at : ℕ) (x y : A) → slice_set (slice_set xs at x) at y ≡ slice_set xs at y
slice_set-again [] at x y = refl
slice_set-again (z ∷ zs) zero x y = refl
slice_set-again (z ∷ zs) (suc at) x y = ap (λ r. z ∷ r) (slice_set-again zs at x y)

-- a store in the object that is there, which is taken out, written and put back
pub stored_in-is : (m taken_out m2 : Memory) (number at align : ℕ) (offset : ℤ) (bytes : List Lane) (object taken written : Object)
    → Some object ≡ slice_get m number → Some at ≡ place_of offset (length bytes) align (length object)
    → slice_get m number ≡ Some taken → taken_out ≡ slice_set m number [] → written ≡ put bytes at taken → m2 ≡ slice_set taken_out number written
    → stored_if true m2 ≡ memory_effect (stored_in m number offset align bytes (slice_get m number))
stored_in-is m taken_out m2 number at align offset bytes object taken written e place t o w b =
    let same : taken ≡ object = cc in
    let new : m2 ≡ slice_set m number (put bytes at object) =
    b ∙ ap (λ l. slice_set l number written) o ∙ slice_set-again m number [] written
    ∙ ap (λ l. slice_set m number l) (w ∙ ap (put bytes at) same) in
    ap (λ l. stored_if true l) new
    ∙ ap (λ p. memory_effect (option_map (with_bytes m number object bytes) p)) place
    ∙ ap (λ l. memory_effect (stored_in m number offset align bytes l)) e
