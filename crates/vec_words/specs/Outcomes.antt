-- How an outcome is written: one line, and then a line for each object.
-- Each is total: a value that is of another type than the one given has some text all the same.
use Rattle.std.specs.Prelude.{◌≡◌, refl, ℕ, suc, ℤ, pos, negsuc, ◌-◌, ◌^◌, Option, Some, None, List, [], ◌∷◌, ◌++◌, codes, nat_eq, nat_lt, if◌then◌else◌}
use Rattle.std.specs.Fmt.{decimal, digits}
use Rattle.vx_digits.specs.Lanes.{lane_text}
use Rattle.ir_types.specs.declared.ty.Ty.{Ty}
use Rattle.ir_types.specs.declared.ty.Ty.TheVariants.{Void, Int, Ptr, Row}
use Rattle.ir_model.specs.declared.value.Value.{Value}
use Rattle.ir_model.specs.declared.value.Value.TheVariants.{Lane as LaneValue, Row as RowValue, Ptr as PtrValue}
use Rattle.ir_model.specs.declared.outcome.Outcome.{Outcome}
use Rattle.ir_model.specs.declared.outcome.Outcome.TheVariants.{Returned, Undefined, Cut}
use Rattle.vec_words.specs.Hex.{bytes_text}

abbrev pub more_lanes_text : ℕ → List (Option ℕ) → List ℕ
more_lanes_text w [] = []
more_lanes_text w (l ∷ ls) = codes ", " ++ (lane_text w l ++ more_lanes_text w ls)

abbrev pub lanes_text : ℕ → List (Option ℕ) → List ℕ
lanes_text w [] = []
lanes_text w (l ∷ ls) = lane_text w l ++ more_lanes_text w ls

-- a signed decimal
abbrev pub offset_text : ℤ → List ℕ
offset_text (pos n) = decimal n
offset_text (negsuc n) = codes "-" ++ decimal (suc n)

abbrev pub pointer_text : Option (ℕ × ℤ) → List ℕ
pointer_text None = codes "poison"
pointer_text (Some p) = codes "object " ++ (decimal p.0 ++ (codes " + " ++ offset_text p.1))

-- the bits of a lane
abbrev pub shown_bits : Ty → ℕ
shown_bits Void = 64
shown_bits (Int w) = w
shown_bits Ptr = 64
shown_bits (Row n w) = w

-- a value of a type; a vector always as the list of its lanes
abbrev pub value_text : Ty → Value → List ℕ
value_text ret (LaneValue l) = lane_text (shown_bits ret) l
value_text ret (RowValue ls) = codes "<" ++ (lanes_text (shown_bits ret) ls ++ codes ">")
value_text ret (PtrValue p) = pointer_text p

abbrev pub returned_text : Ty → Option Value → List ℕ
returned_text ret None = codes "void"
returned_text ret (Some v) = value_text ret v

-- the bytes of an object after a space, if there are any
abbrev pub contents_text : List (Option ℕ) → List ℕ
contents_text [] = []
contents_text (b ∷ bs) = codes " " ++ bytes_text (b ∷ bs)

abbrev pub object_text : ℕ → List (Option ℕ) → List ℕ
object_text k bytes = codes "object " ++ (decimal k ++ (codes ":" ++ (contents_text bytes ++ codes "\n")))

-- objects from a number on
abbrev pub objects_text : ℕ → List (List (Option ℕ)) → List ℕ
objects_text k [] = []
objects_text k (o ∷ os) = object_text k o ++ objects_text (suc k) os

abbrev pub text_of_outcome : Outcome → Ty → List ℕ
text_of_outcome (Returned v memory) ret = codes "returned " ++ (returned_text ret v ++ (codes "\n" ++ objects_text 0 memory))
text_of_outcome Undefined ret = codes "undefined\n"
text_of_outcome (Cut memory) ret = codes "cut\n" ++ objects_text 0 memory

minus_three : value_text (Row 2 32) (RowValue (Some 4294967293 ∷ None ∷ [])) ≡ codes "<-3, poison>"
unfolding digits
minus_three = refl

all_zero : value_text (Row 2 1) (RowValue (Some 0 ∷ Some 0 ∷ [])) ≡ codes "<false, false>"
all_zero = refl

before_the_object : value_text Ptr (PtrValue (Some (3, negsuc 7))) ≡ codes "object 3 + -8"
unfolding digits
before_the_object = refl

objects : text_of_outcome (Cut ((Some 5 ∷ None ∷ []) ∷ [] ∷ [])) Void ≡ codes "cut\nobject 0: 05??\nobject 1:\n"
unfolding digits
objects = refl
