-- A store taken apart: the object, the place in it, and what it leaves.
use Rattle.std.proofs.Common.{◌≡◌, refl, sym, ap, ◌∙◌, subst, ℕ, ℤ, pos, negsuc, ◌+◌, ◌≤◌, ◌%◌, Bool, true, false, ◌&&◌, Option, None, Some, List, length, cond, nat_eq, nat_le, slice_get, slice_set, option_map, arith, set-set}
use Rattle.std.proofs.lemmas.Bool.Decides.{nat_tests}
use Rattle.ir_model.specs.Values.{Lane}
use Rattle.ir_model.specs.Memory.{Object, Memory, put, place_of, with_bytes, stored_in, stored}

-- an access of so many bytes has a place: its offset, inside the object and a multiple of the align
pub record IsPlace (offset : ℤ) (size align len at : ℕ) : Type 0 where
  pub here : offset ≡ pos at
  pub room : at + size ≤ len
  pub aligned : at % align ≡ 0

pub place_of-is : (offset : ℤ) (size align len at : ℕ) → place_of offset size align len ≡ Some at → IsPlace offset size align len at
place_of-is (pos n) size align len at e = by_test (nat_le (n + size) len && nat_eq (n % align) 0) refl e where
  by_test : (b : Bool) → nat_le (n + size) len && nat_eq (n % align) 0 ≡ b → cond b (Some n) None ≡ Some at → IsPlace (pos n) size align len at
  by_test true test found = let same : n ≡ at = cc in record {
    here = ap pos same;
    room = subst (λ (k : ℕ). k + size ≤ len) same (grind (arith, nat_tests));
    aligned = subst (λ (k : ℕ). k % align ≡ 0) same (grind (arith, nat_tests));
  }
  by_test false test found = absurd cc
place_of-is (negsuc n) size align len at e = absurd cc

pub is-place_of : (offset : ℤ) (size align len at : ℕ) → IsPlace offset size align len at → place_of offset size align len ≡ Some at
is-place_of offset size align len at p =
    ap (λ z. place_of z size align len) p.here
    ∙ ap (λ b. cond b (Some at) None) fits where
      fits : nat_le (at + size) len && nat_eq (at % align) 0 ≡ true
      fits = let room = p.room in let aligned = p.aligned in grind (arith, nat_tests)

-- a store through a pointer that leaves a memory
pub record IsStored (align : ℕ) (bytes : List Lane) (o : ℕ) (offset : ℤ) (before after : Memory) : Type 0 where
  pub object : Object
  pub at : ℕ
  pub found : slice_get before o ≡ Some object
  pub place : IsPlace offset (length bytes) align (length object) at
  pub left : after ≡ slice_set before o (put bytes at object)

pub stored-is : (align : ℕ) (bytes : List Lane) (o : ℕ) (offset : ℤ) (m after : Memory) → stored align bytes (Some (o, offset)) m ≡ Some after → IsStored align bytes o offset m after
stored-is align bytes o offset m after e = by_object (slice_get m o) refl e where
  by_place : (object : Object) (p : Option ℕ) → slice_get m o ≡ Some object → place_of offset (length bytes) align (length object) ≡ p → option_map (with_bytes m o object bytes) p ≡ Some after → IsStored align bytes o offset m after
  by_place object None found place gives = absurd cc
  by_place object (Some at) found place gives =
      record { object = object; at = at; found = found; place = place_of-is offset (length bytes) align (length object) at place; left = cc }

  by_object : (object : Option Object) → slice_get m o ≡ object → stored_in m o offset align bytes object ≡ Some after → IsStored align bytes o offset m after
  by_object None found gives = absurd cc
  by_object (Some object) found gives = by_place object (place_of offset (length bytes) align (length object)) found refl gives

pub is-stored : (align : ℕ) (bytes : List Lane) (o : ℕ) (offset : ℤ) (m after : Memory) → IsStored align bytes o offset m after → stored align bytes (Some (o, offset)) m ≡ Some after
is-stored align bytes o offset m after s =
    ap (stored_in m o offset align bytes) s.found
    ∙ ap (option_map (with_bytes m o s.object bytes)) (is-place_of offset (length bytes) align (length s.object) s.at s.place)
    ∙ ap Some (sym s.left)

-- an object that was set is found, and may be set anew
pub set_twice : (m : Memory) (o : ℕ) (x y : Object) → slice_set (slice_set m o x) o y ≡ slice_set m o y
set_twice m o x y = set-set m o x y
