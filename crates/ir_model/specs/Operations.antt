-- Operations on values: arithmetic, comparisons, conversions, choices, and the lanes of vectors, by one definition for each form.
--
-- `None` is undefined behaviour. A form on vectors works lane by lane, on vectors of one length; operands of other shapes are
-- undefined. What is read at a width is a lane's low bits of that width, at most 64 of them: a lane of its type has no others.
use Rattle.std.specs.Prelude.{◌≡◌, refl, ℕ, ◌%◌, ◌^◌, ◌++◌, Bool, true, false, Option, None, Some, List, [], ◌∷◌, length, map, cond, nat_eq, nat_le, nat_lt, slice_get, slice_set, option_map}
use Rattle.vx_num.specs.declared.operations.BinOp.{BinOp}
use Rattle.vx_num.specs.declared.operations.BinOp.TheVariants.{Add, Udiv, Sdiv}
use Rattle.vx_num.specs.declared.operations.Pred.{Pred}
use Rattle.vx_num.specs.declared.operations.Pred.TheVariants.{Slt}
use Rattle.vx_num.specs.declared.operations.CastOp.{CastOp}
use Rattle.vx_num.specs.declared.operations.CastOp.TheVariants.{Zext, Sext}
use Rattle.vx_num.specs.declared.operations.Flags.{Flags}
use Rattle.vx_num.specs.declared.lanes.Done.{Done}
use Rattle.vx_num.specs.declared.lanes.Done.TheVariants.{Value as DoneValue, Undefined}
use Rattle.vx_num.specs.Flagged.{plain}
use Rattle.vx_num.specs.Bin.{bin_of}
use Rattle.vx_num.specs.Cmp.{cmp_of}
use Rattle.vx_num.specs.Cast.{cast_of}
use Rattle.ir_types.specs.declared.ty.Ty.{Ty}
use Rattle.ir_types.specs.declared.ty.Ty.TheVariants.{Int, Ptr, Row}
use Rattle.ir_types.specs.Typed.{lane_width}
use Rattle.ir_model.specs.declared.value.Value.{Value}
use Rattle.ir_model.specs.declared.value.Value.TheVariants.{Lane as LaneValue, Row as RowValue, Ptr as PtrValue}
use Rattle.ir_model.specs.Values.{Lane}

-- the low bits of a lane
abbrev pub low : ℕ → Lane → Lane
low w None = None
low w (Some n) = Some (n % 2 ^ w)

-- a form at a width has a row where the width is at most 64
abbrev pub narrow : {A : Type 0} → ℕ → Option A → Option A
narrow w x = cond (nat_le w 64) x None

-- ---- lane by lane

-- a lane before others, where all are defined
abbrev pub with_lane : Option Lane → Option (List Lane) → Option (List Lane)
with_lane (Some lane) (Some lanes) = Some (lane ∷ lanes)
with_lane _ _ = None

-- an operation on the lanes of two vectors; one undefined lane makes the whole undefined
abbrev pub each_pair : (Lane → Lane → Option Lane) → List Lane → List Lane → Option (List Lane)
each_pair f [] [] = Some []
each_pair f (a ∷ xs) (b ∷ ys) = with_lane (f a b) (each_pair f xs ys)
each_pair f _ _ = None

-- on two operands of a type
abbrev pub paired : (Lane → Lane → Option Lane) → Ty → List Value → Option Value
paired f (Int w) (LaneValue a ∷ LaneValue b ∷ []) = option_map LaneValue (f a b)
paired f (Row n w) (RowValue xs ∷ RowValue ys ∷ []) = option_map RowValue (each_pair f xs ys)
paired f _ _ = None

-- on one operand
abbrev pub single : (Lane → Lane) → Ty → List Value → Option Value
single f (Int w) (LaneValue a ∷ []) = Some (LaneValue (f a))
single f (Row n w) (RowValue xs ∷ []) = Some (RowValue (map f xs))
single f _ _ = None

-- ---- arithmetic, comparisons, conversions

abbrev pub done_lane : Done → Option Lane
done_lane (DoneValue lane) = Some lane
done_lane Undefined = None

abbrev pub bin_lane : BinOp → Flags → ℕ → Lane → Lane → Option Lane
bin_lane op flags w a b = done_lane (bin_of op flags w (low w a) (low w b))

abbrev pub cmp_lane : Pred → ℕ → Lane → Lane → Option Lane
cmp_lane pred w a b = Some (cmp_of pred w (low w a) (low w b))

abbrev pub cast_lane : CastOp → Bool → ℕ → ℕ → Lane → Lane
cast_lane op nneg from to a = cast_of op nneg from to (low from a)

-- an operation at its type
abbrev pub bin_value : BinOp → Flags → Ty → List Value → Option Value
bin_value op flags t vs = narrow (lane_width t) (paired (bin_lane op flags (lane_width t)) t vs)

-- a comparison: the type of the result, the type of what is compared
abbrev pub cmp_value : Pred → Ty → Ty → List Value → Option Value
cmp_value pred t u vs = narrow (lane_width u) (paired (cmp_lane pred (lane_width u)) t vs)

-- a conversion: the type of the result, the type of the operand
abbrev pub cast_value : CastOp → Bool → Ty → Ty → List Value → Option Value
cast_value op nneg t u vs =
    narrow (lane_width u) (narrow (lane_width t) (single (cast_lane op nneg (lane_width u) (lane_width t)) t vs))

-- a lane of zero in the divisor makes the whole undefined
by_a_zero_lane : bin_value Udiv plain (Row 2 8) (RowValue (Some 6 ∷ Some 8 ∷ []) ∷ RowValue (Some 3 ∷ Some 0 ∷ []) ∷ []) ≡ None
by_a_zero_lane = refl

by_three_and_two : bin_value Udiv plain (Row 2 8) (RowValue (Some 6 ∷ Some 8 ∷ []) ∷ RowValue (Some 3 ∷ Some 2 ∷ []) ∷ []) ≡ Some (RowValue (Some 2 ∷ Some 4 ∷ []))
by_three_and_two = refl

-- poison by -1 may be the least value by -1
poison_by_minus_one : bin_value Sdiv plain (Int 8) (LaneValue None ∷ LaneValue (Some 255) ∷ []) ≡ None
poison_by_minus_one = refl

poison_by_two : bin_value Sdiv plain (Int 8) (LaneValue None ∷ LaneValue (Some 2) ∷ []) ≡ Some (LaneValue None)
poison_by_two = refl

-- a poison lane stays in its place
poison_in_one_lane : bin_value Add plain (Row 2 8) (RowValue (None ∷ Some 255 ∷ []) ∷ RowValue (Some 1 ∷ Some 1 ∷ []) ∷ []) ≡ Some (RowValue (None ∷ Some 0 ∷ []))
poison_in_one_lane = refl

below_as_signed : cmp_value Slt (Int 1) (Int 8) (LaneValue (Some 255) ∷ LaneValue (Some 1) ∷ []) ≡ Some (LaneValue (Some 1))
below_as_signed = refl

widened : cast_value Sext false (Row 2 16) (Row 2 8) (RowValue (Some 128 ∷ None ∷ []) ∷ []) ≡ Some (RowValue (Some 65408 ∷ None ∷ []))
widened = refl

not_negative : cast_value Zext true (Int 16) (Int 8) (LaneValue (Some 128) ∷ []) ≡ Some (LaneValue None)
not_negative = refl

-- ---- choices

-- what a condition chooses, a lane or a pointer; poison where it is poison, whatever the arms are
abbrev pub chosen_by : {A : Type 0} → Lane → Option A → Option A → Option A
chosen_by None a b = None
chosen_by (Some c) a b = cond (nat_eq c 0) b a

abbrev pub choice : Lane → Lane → Lane → Option Lane
choice c a b = Some (chosen_by c a b)

-- each lane by a condition of its own
abbrev pub chosen_lanes : List Lane → List Lane → List Lane → Option (List Lane)
chosen_lanes [] [] [] = Some []
chosen_lanes (c ∷ cs) (a ∷ xs) (b ∷ ys) = with_lane (choice c a b) (chosen_lanes cs xs ys)
chosen_lanes _ _ _ = None

abbrev pub select_value : Ty → List Value → Option Value
select_value (Int w) (LaneValue c ∷ LaneValue a ∷ LaneValue b ∷ []) = Some (LaneValue (chosen_by c a b))
select_value Ptr (LaneValue c ∷ PtrValue p ∷ PtrValue q ∷ []) = Some (PtrValue (chosen_by c p q))
select_value (Row n w) (LaneValue c ∷ RowValue xs ∷ RowValue ys ∷ []) = option_map RowValue (each_pair (choice c) xs ys)
select_value (Row n w) (RowValue cs ∷ RowValue xs ∷ RowValue ys ∷ []) = option_map RowValue (chosen_lanes cs xs ys)
select_value _ _ = None

-- the arm that is not chosen may be poison
ignored_arm : select_value (Int 8) (LaneValue (Some 1) ∷ LaneValue (Some 7) ∷ LaneValue None ∷ []) ≡ Some (LaneValue (Some 7))
ignored_arm = refl

poison_condition : select_value (Row 2 8) (LaneValue None ∷ RowValue (Some 1 ∷ Some 2 ∷ []) ∷ RowValue (Some 1 ∷ Some 2 ∷ []) ∷ [])
    ≡ Some (RowValue (None ∷ None ∷ []))
poison_condition = refl

lane_by_lane : select_value (Row 2 8) (RowValue (Some 0 ∷ None ∷ []) ∷ RowValue (Some 1 ∷ Some 2 ∷ []) ∷ RowValue (Some 3 ∷ Some 4 ∷ []) ∷ [])
    ≡ Some (RowValue (Some 3 ∷ None ∷ []))
lane_by_lane = refl

-- ---- lanes of vectors

-- the lane at an index; poison where the index is poison or at least the number of lanes
abbrev pub lane_or_poison : Option Lane → Lane
lane_or_poison None = None
lane_or_poison (Some lane) = lane

abbrev pub lane_at : List Lane → Lane → Lane
lane_at lanes None = None
lane_at lanes (Some index) = lane_or_poison (slice_get lanes index)

abbrev pub all_poison : List Lane → List Lane
all_poison lanes = map (λ _. None) lanes

-- the lanes with one replaced; all poison where the index is poison or at least the number of lanes
abbrev pub with_lane_at : List Lane → Lane → Lane → List Lane
with_lane_at lanes lane None = all_poison lanes
with_lane_at lanes lane (Some index) = cond (nat_lt index (length lanes)) (slice_set lanes index lane) (all_poison lanes)

-- a vector that has the lanes of its type
abbrev pub of_length : {A : Type 0} → ℕ → List Lane → Option A → Option A
of_length n lanes x = cond (nat_eq (length lanes) n) x None

-- the type of the vector, the values
abbrev pub extract_value : Ty → List Value → Option Value
extract_value (Row n w) (RowValue lanes ∷ LaneValue index ∷ []) = of_length n lanes (Some (LaneValue (lane_at lanes index)))
extract_value _ _ = None

abbrev pub insert_value : Ty → List Value → Option Value
insert_value (Row n w) (RowValue lanes ∷ LaneValue lane ∷ LaneValue index ∷ []) =
    of_length n lanes (Some (RowValue (with_lane_at lanes lane index)))
insert_value _ _ = None

-- the type of both vectors, of whose lanes, one after another, each entry of the mask names one or poison
abbrev pub shuffle_value : List Lane → Ty → List Value → Option Value
shuffle_value mask (Row n w) (RowValue xs ∷ RowValue ys ∷ []) =
    of_length n xs (of_length n ys (Some (RowValue (map (lane_at (xs ++ ys)) mask))))
shuffle_value mask _ _ = None

past_the_last_lane : extract_value (Row 2 8) (RowValue (Some 1 ∷ Some 2 ∷ []) ∷ LaneValue (Some 2) ∷ []) ≡ Some (LaneValue None)
past_the_last_lane = refl

inserted : insert_value (Row 2 8) (RowValue (Some 1 ∷ None ∷ []) ∷ LaneValue (Some 7) ∷ LaneValue (Some 1) ∷ []) ≡ Some (RowValue (Some 1 ∷ Some 7 ∷ []))
inserted = refl

inserted_nowhere : insert_value (Row 2 8) (RowValue (Some 1 ∷ Some 2 ∷ []) ∷ LaneValue (Some 7) ∷ LaneValue (Some 2) ∷ []) ≡ Some (RowValue (None ∷ None ∷ []))
inserted_nowhere = refl

shuffled : shuffle_value (Some 3 ∷ Some 0 ∷ None ∷ Some 1 ∷ []) (Row 2 8) (RowValue (Some 10 ∷ Some 11 ∷ []) ∷ RowValue (Some 12 ∷ Some 13 ∷ []) ∷ [])
    ≡ Some (RowValue (Some 13 ∷ Some 10 ∷ None ∷ Some 11 ∷ []))
shuffled = refl
