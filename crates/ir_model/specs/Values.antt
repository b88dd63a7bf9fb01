-- Values, the environment in which operands are looked up, and when one value may stand for another.
use Rattle.std.specs.Prelude.{◌≡◌, refl, ℕ, ℤ, pos, ◌+ℤ◌, Bool, ◌&&◌, Option, None, Some, List, [], ◌∷◌, cond, nat_eq, ⊤}
use Rattle.std.specs.List.{AllZip}
use Rattle.std.specs.Int.{w64, int_wrap}
use Rattle.ir_types.specs.declared.id.Id.{Id}
use Rattle.ir_types.specs.declared.ty.Ty.{Ty}
use Rattle.ir_types.specs.declared.ty.Ty.TheVariants.{Int, Ptr, Row}
use Rattle.ir_types.specs.declared.opd.Opd.{Opd}
use Rattle.ir_types.specs.declared.opd.Opd.TheVariants.{Val, Lit, Sym}
use Rattle.ir_model.specs.declared.value.Value.{Value}
use Rattle.ir_model.specs.declared.value.Value.TheVariants.{Lane as LaneValue, Row as RowValue, Ptr as PtrValue}

-- a lane of a value, a byte of a memory: a number or poison
abbrev pub Lane : Type 0
Lane = Option ℕ

-- a pointer: poison, or the number of an object and an offset in bytes
abbrev pub Pointer : Type 0
Pointer = Option (ℕ × ℤ)

-- the new one may stand for the old one: the old one is poison, or both are the same
abbrev pub MayStandFor : {A : Type 0} → Option A → Option A → Type 0
MayStandFor new None = ⊤
MayStandFor new (Some old) = new ≡ Some old

abbrev pub ValueRefines : Value → Value → Type 0
ValueRefines (LaneValue new) (LaneValue old) = MayStandFor new old
ValueRefines (RowValue new) (RowValue old) = AllZip MayStandFor new old
ValueRefines (PtrValue new) (PtrValue old) = MayStandFor new old
ValueRefines _ _ = ⊥

-- poison may become anything, and a number stays
poison_lane : ValueRefines (RowValue (Some 7 ∷ Some 8 ∷ [])) (RowValue (None ∷ Some 8 ∷ []))
poison_lane = (tt, (refl, tt))

-- the pointer that a value is; what is no pointer counts as poison
abbrev pub pointer_of : Value → Pointer
pointer_of (PtrValue p) = p
pointer_of _ = None

-- a pointer so many bytes further, modulo 2^64 as a signed offset
abbrev pub moved : Pointer → ℤ → Pointer
moved None by = None
moved (Some p) by = Some (p.0, int_wrap w64 (p.1 +ℤ by))

-- the environment: the value of each id
abbrev pub Env : Type 0
Env = Id → Value

abbrev pub same_id : Id → Id → Bool
same_id x y = nat_eq x.region y.region && nat_eq x.k y.k

abbrev pub with_value : Env → Id → Value → Env
with_value env id v = λ x. cond (same_id x id) v (env x)

-- the value of a literal of a type
abbrev pub literal_value : Ty → List Lane → Value
literal_value (Int w) (lane ∷ []) = LaneValue lane
literal_value (Row n w) lanes = RowValue lanes
literal_value _ _ = PtrValue None

-- the value of an operand; a global's is the pointer to the start of its object
abbrev pub value_of : Env → Opd → Value
value_of env (Val id) = env id
value_of env (Lit l) = literal_value l.ty l.lanes
value_of env (Sym g) = PtrValue (Some (g, pos 0))

-- the type of an operand, where the types of ids are known
abbrev pub type_of : (Id → Ty) → Opd → Ty
type_of types (Val id) = types id
type_of types (Lit l) = l.ty
type_of types (Sym g) = Ptr
