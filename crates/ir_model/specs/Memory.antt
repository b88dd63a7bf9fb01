-- Memories: reading and writing the bytes of values, and when one memory may stand for another.
--
-- A memory is a list of objects, an object a list of bytes, of which each is a number below 256 or poison. Numbers lie with their
-- low byte first. An access is undefined where its range is not inside the object or its offset is no multiple of its align.
use Rattle.std.specs.Prelude.{◌≡◌, refl, ℕ, suc, zero, ℤ, pos, negsuc, ◌+◌, ◌*◌, ◌/◌, ◌%◌, ◌&&◌, Option, None, Some, List, [], ◌∷◌, ◌++◌, length, drop, cond, nat_eq, nat_le, slice_get, slice_set, option_map}
use Rattle.std.specs.List.{AllZip}
use Rattle.ir_model.specs.Values.{Lane, Pointer, MayStandFor}

abbrev pub Object : Type 0
Object = List Lane

abbrev pub Memory : Type 0
Memory = List Object

abbrev pub MemoryRefines : Memory → Memory → Type 0
MemoryRefines new old = AllZip (AllZip MayStandFor) new old

-- the k bytes of a lane, the low one first; those of poison are poison
abbrev pub lane_bytes : ℕ → Lane → List Lane
lane_bytes zero lane = []
lane_bytes (suc k) None = None ∷ lane_bytes k None
lane_bytes (suc k) (Some n) = Some (n % 256) ∷ lane_bytes k (Some (n / 256))

-- the bytes of lanes of k bytes each, one after another
abbrev pub row_bytes : ℕ → List Lane → List Lane
row_bytes k [] = []
row_bytes k (lane ∷ lanes) = lane_bytes k lane ++ row_bytes k lanes

-- a byte below a number
abbrev pub with_low : Lane → Lane → Lane
with_low None high = None
with_low (Some byte) None = None
with_low (Some byte) (Some high) = Some (byte + 256 * high)

-- the lane that the first k bytes are; one poison byte makes it poison
abbrev pub lane_from : ℕ → List Lane → Lane
lane_from zero bytes = Some 0
lane_from (suc k) [] = None
lane_from (suc k) (byte ∷ bytes) = with_low byte (lane_from k bytes)

bytes_of_258 : lane_bytes 4 (Some 258) ≡ Some 2 ∷ Some 1 ∷ Some 0 ∷ Some 0 ∷ []
bytes_of_258 = refl

lane_of_258 : lane_from 4 (Some 2 ∷ Some 1 ∷ Some 0 ∷ Some 0 ∷ Some 9 ∷ []) ≡ Some 258
lane_of_258 = refl

-- the place of an access of so many bytes in an object of a length, if it has one
abbrev pub place_of : ℤ → ℕ → ℕ → ℕ → Option ℕ
place_of (pos at) size align len = cond (nat_le (at + size) len && nat_eq (at % align) 0) (Some at) None
place_of (negsuc _) size align len = None

last_place : place_of (pos 4) 4 4 8 ≡ Some 4
last_place = refl

past_the_end : place_of (pos 5) 4 1 8 ≡ None
past_the_end = refl

-- the items with others put over them from a place on
abbrev pub put : {A : Type 0} → List A → ℕ → List A → List A
put [] at ys = ys
put (x ∷ xs) at [] = []
put (x ∷ xs) zero (y ∷ ys) = x ∷ put xs zero ys
put (x ∷ xs) (suc at) (y ∷ ys) = y ∷ put (x ∷ xs) at ys

-- the memory with bytes put into an object
abbrev pub with_bytes : Memory → ℕ → Object → List Lane → ℕ → Memory
with_bytes m o object bytes at = slice_set m o (put bytes at object)

-- the memory with bytes put into the object that was found, at the place of an access
abbrev pub stored_in : Memory → ℕ → ℤ → ℕ → List Lane → Option Object → Option Memory
stored_in m o offset align bytes None = None
stored_in m o offset align bytes (Some object) =
    option_map (with_bytes m o object bytes) (place_of offset (length bytes) align (length object))

-- the memory after a store of bytes through a pointer, or `None` where that is undefined
abbrev pub stored : ℕ → List Lane → Pointer → Memory → Option Memory
stored align bytes None m = None
stored align bytes (Some p) m = stored_in m p.0 p.1 align bytes (slice_get m p.0)

-- the bytes of the object that was found, from the place of an access on
abbrev pub loaded_from : ℤ → ℕ → ℕ → Option Object → Option (List Lane)
loaded_from offset size align None = None
loaded_from offset size align (Some object) =
    option_map (λ at. drop at object) (place_of offset size align (length object))

-- the bytes that a load of so many finds first, or `None` where that is undefined
abbrev pub loaded : ℕ → ℕ → Pointer → Memory → Option (List Lane)
loaded size align None m = None
loaded size align (Some p) m = loaded_from p.1 size align (slice_get m p.0)

store_in_the_middle : stored 1 (Some 5 ∷ None ∷ []) (Some (0, pos 1)) ((Some 1 ∷ Some 2 ∷ Some 3 ∷ Some 4 ∷ []) ∷ [])
    ≡ Some ((Some 1 ∷ Some 5 ∷ None ∷ Some 4 ∷ []) ∷ [])
store_in_the_middle = refl
