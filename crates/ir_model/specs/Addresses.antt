-- Addresses: where `getelementptr` takes a pointer.
--
-- Each index is read as a signed number of its width and counts so many bytes; offsets are signed numbers of 64 bits that wrap.
use Rattle.std.specs.Prelude.{◌≡◌, refl, ℕ, ℤ, pos, negsuc, ◌%◌, ◌*◌, ◌^◌, Bool, false, ◌&&◌, Option, None, Some, List, [], ◌∷◌, length, cond, nat_le, slice_get, option_map}
use Rattle.std.specs.Int.{int_wrap}
use Rattle.vx_num.specs.Advance.{advance_of}
use Rattle.ir_types.specs.declared.ty.Ty.{Ty}
use Rattle.ir_types.specs.declared.ty.Ty.TheVariants.{Int, Ptr}
use Rattle.ir_types.specs.declared.ty.Elem.{Elem}
use Rattle.ir_types.specs.declared.ty.Elem.TheVariants.{One, Array}
use Rattle.ir_model.specs.declared.value.Value.{Value}
use Rattle.ir_model.specs.declared.value.Value.TheVariants.{Lane as LaneValue, Ptr as PtrValue}
use Rattle.ir_model.specs.Values.{Lane, Pointer, pointer_of}
use Rattle.ir_model.specs.Memory.{Object, Memory}
use Rattle.ir_model.specs.Sizes.{bytes_in, elem_size}
use Rattle.ir_model.specs.Operations.{narrow}

-- a pointer that goes on by an index of width w times a scale; poison where pointer or index is
abbrev pub stepped : ℕ → ℕ → Pointer → Lane → Pointer
stepped w scale None index = None
stepped w scale (Some p) None = None
stepped w scale (Some p) (Some index) = Some (p.0, advance_of p.1 (index % 2 ^ w) w scale)

-- the pointer after all indices: what is stepped over, the types of the operands, their values. One index counts whole elements; of
-- two the first counts whole arrays, the second what is in them
abbrev pub walked : Elem → List Ty → List Value → Option Pointer
walked elem (_ ∷ Int w ∷ []) (p ∷ LaneValue index ∷ []) = narrow w (Some (stepped w (elem_size elem) (pointer_of p) index))
walked (Array n e) (_ ∷ Int w ∷ Int v ∷ []) (p ∷ LaneValue index ∷ LaneValue inner ∷ []) =
    narrow w (narrow v (Some (stepped v (bytes_in e) (stepped w (n * bytes_in e) (pointer_of p) index) inner)))
walked _ _ _ = None

abbrev pub address_value : Elem → Ty → List Ty → List Value → Option Value
address_value elem Ptr types vs = option_map PtrValue (walked elem types vs)
address_value elem _ types vs = None

-- ---- `inbounds`

-- from 0 to the length of an object that is there
abbrev pub is_within : ℤ → Option Object → Bool
is_within (pos at) (Some object) = nat_le at (length object)
is_within _ _ = false

abbrev pub is_inside : Memory → Pointer → Bool
is_inside m None = false
is_inside m (Some p) = is_within p.1 (slice_get m p.0)

-- a pointer stepped `inbounds` from a base: poison unless both are inside their object
abbrev pub kept_inside : Memory → Pointer → Pointer → Pointer
kept_inside m base q = cond (is_inside m base && is_inside m q) q None

abbrev pub inbounds_value : Elem → Ty → List Ty → List Value → Memory → Option Value
inbounds_value elem Ptr types (p ∷ indices) m =
    option_map (λ q. PtrValue (kept_inside m (pointer_of p) q)) (walked elem types (p ∷ indices))
inbounds_value elem _ types vs m = None

-- index 255 of 8 bits is -1
one_back : walked (One (Int 32)) (Ptr ∷ Int 8 ∷ []) (PtrValue (Some (0, pos 12)) ∷ LaneValue (Some 255) ∷ []) ≡ Some (Some (0, pos 8))
unfolding int_wrap
one_back = refl

-- one array of three i16 on, and two of its elements
in_an_array : walked (Array 3 16) (Ptr ∷ Int 64 ∷ Int 8 ∷ []) (PtrValue (Some (0, pos 0)) ∷ LaneValue (Some 1) ∷ LaneValue (Some 2) ∷ []) ≡ Some (Some (0, pos 10))
unfolding int_wrap
in_an_array = refl

-- the end of an object is inside, what is before its start is not, even where the step leads into it
kept_at_the_end : kept_inside ((None ∷ None ∷ []) ∷ []) (Some (0, pos 0)) (Some (0, pos 2)) ≡ Some (0, pos 2)
kept_at_the_end = refl

lost_at_the_base : kept_inside ((None ∷ None ∷ []) ∷ []) (Some (0, negsuc 0)) (Some (0, pos 1)) ≡ None
lost_at_the_base = refl
