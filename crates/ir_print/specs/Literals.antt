-- Types and literals as they are printed.
-- Each is total: a value that no formed module has is given some text all the same.
use Rattle.std.specs.Prelude.{◌≡◌, refl, ℕ, ◌-◌, ◌^◌, Bool, true, false, not, ◌&&◌, Option, Some, None, List, [], ◌∷◌, ◌++◌, codes, nat_eq, nat_lt, nat_le, if◌then◌else◌, slice_get}
use Rattle.std.specs.List.{list_all}
use Rattle.std.specs.Fmt.{decimal, digits}
use Rattle.vx_digits.specs.Lanes.{lane_text}
use Rattle.ir_types.specs.declared.ty.Ty.{Ty}
use Rattle.ir_types.specs.declared.ty.Ty.TheVariants.{Void, Int, Ptr, Row}
use Rattle.ir_types.specs.declared.ty.Elem.{Elem}
use Rattle.ir_types.specs.declared.ty.Elem.TheVariants.{One, Array}
use Rattle.ir_types.specs.declared.literal.Literal.{Literal}

-- a type
abbrev pub ty_text : Ty → List ℕ
ty_text Void = codes "void"
ty_text (Int w) = codes "i" ++ decimal w
ty_text Ptr = codes "ptr"
ty_text (Row n w) = codes "<" ++ (decimal n ++ (codes " x i" ++ (decimal w ++ codes ">")))

-- what a `getelementptr` steps over, or an `alloca` makes
abbrev pub elem_text : Elem → List ℕ
elem_text (One t) = ty_text t
elem_text (Array n w) = codes "[" ++ (decimal n ++ (codes " x i" ++ (decimal w ++ codes "]")))

abbrev pub is_poison : Option ℕ → Bool
is_poison None = true
is_poison (Some _) = false

abbrev pub is_zero : Option ℕ → Bool
is_zero None = false
is_zero (Some n) = nat_eq n 0

-- lanes after the first, each with its type
abbrev pub more_lanes_text : ℕ → List (Option ℕ) → List ℕ
more_lanes_text w [] = []
more_lanes_text w (l ∷ ls) = codes ", i" ++ (decimal w ++ (codes " " ++ (lane_text w l ++ more_lanes_text w ls)))

-- the lanes of a vector as a list
abbrev pub lanes_text : ℕ → List (Option ℕ) → List ℕ
lanes_text w [] = []
lanes_text w (l ∷ ls) = codes "<i" ++ (decimal w ++ (codes " " ++ (lane_text w l ++ (more_lanes_text w ls ++ codes ">"))))

-- a vector: poison where every lane is, zero where every lane is, else its lanes
abbrev pub vector_text : ℕ → List (Option ℕ) → List ℕ
vector_text w ls =
    if list_all is_poison ls then codes "poison"
    else if list_all is_zero ls then codes "zeroinitializer"
    else lanes_text w ls

abbrev pub scalar_text : ℕ → Option (Option ℕ) → List ℕ
scalar_text w None = []
scalar_text w (Some l) = lane_text w l

-- the lanes of a literal, by its type
abbrev pub lits_text : Ty → List (Option ℕ) → List ℕ
lits_text Void ls = []
lits_text Ptr ls = codes "poison"
lits_text (Int w) ls = scalar_text w (slice_get ls 0)
lits_text (Row n w) ls = vector_text w ls

abbrev pub literal_text : Literal → List ℕ
literal_text l = lits_text l.ty l.lanes

-- 4294967295 of 32 bits is minus one
minus_one : literal_text (record { ty = Int 32; lanes = Some 4294967295 ∷ [] }) ≡ codes "-1"
unfolding digits
minus_one = refl

-- of one bit, a truth value
truth : literal_text (record { ty = Int 1; lanes = Some 1 ∷ [] }) ≡ codes "true"
truth = refl

-- mixed lanes are listed, lanes that are all zero are not
mixed : literal_text (record { ty = Row 2 8; lanes = Some 7 ∷ None ∷ [] }) ≡ codes "<i8 7, i8 poison>"
unfolding digits
mixed = refl

all_zero : literal_text (record { ty = Row 2 8; lanes = Some 0 ∷ Some 0 ∷ [] }) ≡ codes "zeroinitializer"
all_zero = refl
