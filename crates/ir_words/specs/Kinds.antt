-- Which types a form asks for at a place: an integer, what is stored in memory, what a condition chooses, and so on.
use Rattle.std.specs.Prelude.{◌≡◌, refl, ℕ, Bool, true, false, not, ◌&&◌, ◌||◌, nat_eq, nat_lt}
use Rattle.ir_types.specs.declared.ty.Ty.{Ty}
use Rattle.ir_types.specs.declared.ty.Ty.TheVariants.{Void, Int, Ptr, Row}
use Rattle.ir_types.specs.Typed.{lane_width, same_ty}
use Rattle.ir_words.specs.declared.kinds.Kind.{Kind}
use Rattle.ir_words.specs.declared.kinds.Kind.TheVariants.{Integer, Number, Byte, Stored, Value, Vector, Pointer, Bit, Choice, ChosenBy, Same, LaneOf, Mask, WiderThan, NarrowerThan}

abbrev pub is_integer : Ty → Bool
is_integer (Int _) = true
is_integer _ = false

abbrev pub is_vector : Ty → Bool
is_vector (Row _ _) = true
is_vector _ = false

abbrev pub is_pointer : Ty → Bool
is_pointer Ptr = true
is_pointer _ = false

-- the lanes of a vector
abbrev pub lanes_of : Ty → ℕ
lanes_of (Row n w) = n
lanes_of _ = 0

-- whether a condition of the first type chooses values of the second: a vector chooses lane by lane
abbrev pub is_chosen : Ty → Ty → Bool
is_chosen (Row n w) t = nat_eq (lanes_of t) n
is_chosen _ t = true

-- whether both are integers, or vectors of as many lanes
abbrev pub is_cast : Ty → Ty → Bool
is_cast (Int w) (Int v) = true
is_cast (Row n w) (Row m v) = nat_eq n m
is_cast _ _ = false

-- whether a type, other than `void`, is of a kind
abbrev pub fits : Kind → Ty → Bool
fits Integer t = is_integer t
fits Number t = is_integer t || is_vector t
fits Byte t = is_integer t && not (nat_eq (lane_width t) 1)
fits Stored t = (is_integer t || is_vector t) && not (nat_eq (lane_width t) 1)
fits Value t = true
fits Vector t = is_vector t
fits Pointer t = is_pointer t
fits Bit t = is_integer t && nat_eq (lane_width t) 1
fits Choice t = nat_eq (lane_width t) 1
fits (ChosenBy c) t = is_chosen c t
fits (Same u) t = same_ty t u
fits (LaneOf u) t = is_integer t && nat_eq (lane_width t) (lane_width u)
fits Mask t = is_vector t && nat_eq (lane_width t) 32
fits (WiderThan u) t = is_cast u t && nat_lt (lane_width u) (lane_width t)
fits (NarrowerThan u) t = is_cast u t && nat_lt (lane_width t) (lane_width u)

-- `<4 x i1>` chooses among `<4 x i32>`
lanes_chosen : fits (ChosenBy (Row 4 1)) (Row 4 32) ≡ true
lanes_chosen = refl

-- a truth value is not stored
bit_not_stored : fits Stored (Int 1) ≡ false
bit_not_stored = refl

-- `zext <2 x i8>` to `<4 x i16>` is none
other_lanes : fits (WiderThan (Row 2 8)) (Row 4 16) ≡ false
other_lanes = refl
