-- The values that the arguments of a call word are at the parameters' types.
use Rattle.std.specs.Prelude.{ℕ, suc, ℤ, pos, ◌+◌, cond, Option, Some, None, List, [], ◌∷◌, ◌++◌, length, replicate, bytes_eq, nat_eq, slice_get}
use Rattle.vx_digits.specs.Optional.{◌>>=◌}
use Rattle.ir_types.specs.declared.ty.Ty.{Ty}
use Rattle.ir_types.specs.declared.ty.Ty.TheVariants.{Void, Int, Ptr, Row}
use Rattle.ir_types.specs.declared.func.Param.{Param}
use Rattle.ir_model.specs.declared.value.Value.{Value}
use Rattle.ir_model.specs.declared.value.Value.TheVariants.{Lane as LaneValue, Row as RowValue, Ptr as PtrValue}
use Rattle.vec_words.specs.declared.literal.Lit.TheVariants.{Poison}
use Rattle.vec_words.specs.declared.call.Arg.{Arg}
use Rattle.vec_words.specs.declared.call.Arg.TheVariants.{One, Zero, Row as RowArg, Made, Within, Global}
use Rattle.vec_words.specs.Literals.{lane_in, lanes_after}

-- the place of the first name that is this one, where the first of these has the place `at`
abbrev pub place_from : ℕ → List (List ℕ) → List ℕ → Option ℕ
place_from at [] name = None
place_from at (n ∷ ns) name = cond (bytes_eq n name) (Some at) (place_from (suc at) ns name)

-- an integer
unfoldable pub int_value : ℕ → Arg → Option Value
int_value w (One l) = lane_in w l >>= (λ x. Some (LaneValue x))
int_value w _ = None

-- the lanes of a vector of n lanes: as many literals, zeros, or poison
unfoldable pub row_lanes : ℕ → ℕ → Arg → Option (List (Option ℕ))
row_lanes n w (One Poison) = Some (replicate n None)
row_lanes n w Zero = Some (replicate n (Some 0))
row_lanes n w (RowArg ls) = cond (nat_eq (length ls) n) (lanes_after w [] ls) None
row_lanes n w _ = None

-- an offset in the object that a value points to
unfoldable pub pointer_into : Option Value → ℤ → Option Value
pointer_into (Some (PtrValue (Some p))) d = Some (PtrValue (Some (p.0, d)))
pointer_into _ d = None

-- a pointer into the object of a number
abbrev pub pointer_to : ℕ → ℤ → Option Value
pointer_to object d = Some (PtrValue (Some (object, d)))

-- a pointer into the object of a global
abbrev pub global_pointer : List (List ℕ) → List ℕ → ℤ → Option Value
global_pointer globals name d = place_from 0 globals name >>= (λ k. pointer_to k d)

-- a pointer, where `before` are the values to the left, `globals` the names of the first objects, and `next` is the number of the next
-- new object
unfoldable pub pointer_value : List (List ℕ) → ℕ → List Value → Arg → Option Value
pointer_value globals next before (One Poison) = Some (PtrValue None)
pointer_value globals next before (Made bytes) = pointer_to next (pos 0)
pointer_value globals next before (Within i d) = pointer_into (slice_get before i) d
pointer_value globals next before (Global name d) = global_pointer globals name d
pointer_value globals next before _ = None

-- the value of an argument at a type, where it fits
unfoldable pub value_in : List (List ℕ) → ℕ → List Value → Ty → Arg → Option Value
value_in globals next before Void a = None
value_in globals next before (Int w) a = int_value w a
value_in globals next before (Row n w) a = row_lanes n w a >>= (λ ls. Some (RowValue ls))
value_in globals next before Ptr a = pointer_value globals next before a

-- how many objects an argument makes
abbrev pub made_count : Arg → ℕ
made_count (Made bytes) = 1
made_count _ = 0

-- the values of arguments, one for each parameter, after others
abbrev pub values_after : List (List ℕ) → ℕ → List Value → List Param → List Arg → Option (List Value)
values_after globals next before [] [] = Some before
values_after globals next before (p ∷ ps) (a ∷ rest) = value_in globals next before p.ty a >>= (λ v. values_after globals (next + made_count a) (before ++ v ∷ []) ps rest)
values_after globals next before _ _ = None
