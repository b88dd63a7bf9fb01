-- Types of the profile, and which types an instruction takes and gives.
--
-- Widths are 1, 8, 16, 32 and 64 bits; a vector has 2, 4, 8 or 16 lanes and at most 512 bits. `IsTyped` has one row a form: the
-- type that the instruction gives, the types of its operands in order, and what its own parts must be. (Language Reference,
-- "Type System" and "Instruction Reference".) What a call gives and takes, its callee's header says; see `Formed`.
use Rattle.std.specs.Prelude.{◌≡◌, refl, ℕ, ◌*◌, ◌^◌, ◌<◌, ◌≤◌, ◌⊎◌, Bool, true, false, not, ◌&&◌, ◌||◌, ◌==◌, nat_eq, nat_le, List, [], ◌∷◌, length}
use Rattle.std.specs.List.{All, AllPairs}
use Rattle.std.specs.declared.option.Option.{Option}
use Rattle.std.specs.declared.option.Option.TheVariants.{None, Some}
use Rattle.vx_num.specs.declared.operations.BinOp.{BinOp}
use Rattle.vx_num.specs.declared.operations.BinOp.TheVariants.{Add, Sub, Mul, Shl, Udiv, Sdiv, Lshr, Ashr, Or}
use Rattle.vx_num.specs.declared.operations.CastOp.{CastOp}
use Rattle.vx_num.specs.declared.operations.CastOp.TheVariants.{Zext, Sext, Trunc}
use Rattle.vx_num.specs.declared.operations.Flags.{Flags}
use Rattle.vx_num.specs.Width.{IsLane}
use Rattle.ir_types.specs.declared.ty.Ty.{Ty}
use Rattle.ir_types.specs.declared.ty.Ty.TheVariants.{Void, Int, Ptr, Row}
use Rattle.ir_types.specs.declared.ty.Elem.{Elem}
use Rattle.ir_types.specs.declared.ty.Elem.TheVariants.{One, Array}
use Rattle.ir_types.specs.declared.literal.Literal.{Literal}
use Rattle.ir_types.specs.declared.op.Op.{Op}
use Rattle.ir_types.specs.declared.op.Op.TheVariants.{Bin, Icmp, Cast, Select, Extract, Insert, Shuffle, Gep, Load, Store, Alloca, Phi, Ret, Br, CondBr, Switch, Unreachable, Call}

-- ---- types

abbrev pub is_width : ℕ → Bool
is_width w = (w == 1) || (w == 8) || (w == 16) || (w == 32) || (w == 64)

abbrev pub is_count : ℕ → Bool
is_count n = (n == 2) || (n == 4) || (n == 8) || (n == 16)

abbrev pub is_vector : Ty → Bool
is_vector (Row n w) = is_count n && is_width w && nat_le (n * w) 512
is_vector _ = false

abbrev pub is_scalar : Ty → Bool
is_scalar (Int w) = is_width w
is_scalar _ = false

-- an integer or a vector of them
abbrev pub is_number : Ty → Bool
is_number t = is_scalar t || is_vector t

-- the same, or a pointer
abbrev pub is_value : Ty → Bool
is_value Ptr = true
is_value t = is_number t

-- bits of a lane
abbrev pub lane_width : Ty → ℕ
lane_width (Int w) = w
lane_width (Row n w) = w
lane_width _ = 0

-- whether both are one type
abbrev pub same_ty : Ty → Ty → Bool
same_ty Void Void = true
same_ty (Int w) (Int v) = nat_eq w v
same_ty Ptr Ptr = true
same_ty (Row n w) (Row m v) = nat_eq n m && nat_eq w v
same_ty _ _ = false

abbrev pub lane_count : Ty → ℕ
lane_count (Row n w) = n
lane_count _ = 1

-- what may be loaded and stored: lanes of whole bytes
abbrev pub is_stored : Ty → Bool
is_stored t = is_number t && nat_le 8 (lane_width t)

-- the type with lanes of another width
abbrev pub with_width : ℕ → Ty → Ty
with_width w (Int v) = Int w
with_width w (Row n v) = Row n w
with_width w t = t

-- the widest vector is a type, a wider one is none
pub is_vector-widest : is_vector (Row 16 32) ≡ true
is_vector-widest = refl

pub is_vector-wider : is_vector (Row 16 64) ≡ false
is_vector-wider = refl

-- ---- parts of instructions

-- a power of two from 1 to 2^32
abbrev pub IsAlign : ℕ → Type 0
IsAlign align = (k : ℕ) × (k ≤ 32) × (align ≡ 2 ^ k)

abbrev pub IsAlignIfAny : Option ℕ → Type 0
IsAlignIfAny None = Unit {0}
IsAlignIfAny (Some align) = IsAlign align

-- an integer of whole bytes, or an array of such
abbrev pub IsElem : Elem → Type 0
IsElem (One t) = is_stored t ≡ true
IsElem (Array n w) = (is_stored (Int w) ≡ true) × (n ≤ 2 ^ 32)

-- what a pointer is stepped over is no vector
abbrev pub IsStep : Elem → Type 0
IsStep (One t) = (is_scalar t ≡ true) × (is_stored t ≡ true)
IsStep elem = IsElem elem

-- each flag that is set belongs to the operation
abbrev pub has_flags : BinOp → Flags → Bool
has_flags Add f = not f.exact && not f.disjoint
has_flags Sub f = not f.exact && not f.disjoint
has_flags Mul f = not f.exact && not f.disjoint
has_flags Shl f = not f.exact && not f.disjoint
has_flags Udiv f = not f.nuw && not f.nsw && not f.disjoint
has_flags Sdiv f = not f.nuw && not f.nsw && not f.disjoint
has_flags Lshr f = not f.nuw && not f.nsw && not f.disjoint
has_flags Ashr f = not f.nuw && not f.nsw && not f.disjoint
has_flags Or f = not f.nuw && not f.nsw && not f.exact
has_flags _ f = not f.nuw && not f.nsw && not f.exact && not f.disjoint

-- widths grow, or fall for `trunc`; `nneg` is of `zext` alone
abbrev pub Converts : CastOp → Bool → ℕ → ℕ → Type 0
Converts Zext nneg from to = from < to
Converts Sext nneg from to = (from < to) × (nneg ≡ false)
Converts Trunc nneg from to = (to < from) × (nneg ≡ false)

-- an entry of a mask names a lane, or is poison
abbrev pub IsEntry : ℕ → Option ℕ → Type 0
IsEntry lanes None = Unit {0}
IsEntry lanes (Some lane) = lane < lanes

-- a case is a number of the width, and no poison
abbrev pub IsCase : ℕ → Option ℕ → Type 0
IsCase w None = ⊥
IsCase w (Some n) = n < 2 ^ w

-- a literal of its type: so many lanes, each below 2^width or poison; a pointer's is poison
abbrev pub IsLiteral : Literal → Type 0
IsLiteral literal =
    (is_value literal.ty ≡ true) × (length literal.lanes ≡ lane_count literal.ty) × All (λ lane. IsLane (lane_width literal.ty) lane) literal.lanes

-- an array may be stepped over with two indices
abbrev pub HasTwoIndices : Elem → ℕ → List (Option Ty) → Type 0
HasTwoIndices (One t) k tys = ⊥
HasTwoIndices (Array n w) k tys = (j : ℕ) × (is_width j ≡ true) × (tys ≡ Some Ptr ∷ Some (Int k) ∷ Some (Int j) ∷ [])

-- ---- one row a form: the type that the function returns, the operation, the instruction's type, and its operands'

abbrev pub IsTyped : Ty → Op → Ty → List (Option Ty) → Type 0
IsTyped ret (Bin op flags) t tys = (is_number t ≡ true) × (has_flags op flags ≡ true) × (tys ≡ Some t ∷ Some t ∷ [])
IsTyped ret (Icmp pred) t tys = (u : Ty) × (is_number u ≡ true) × (t ≡ with_width 1 u) × (tys ≡ Some u ∷ Some u ∷ [])
IsTyped ret (Cast op nneg) t tys =
    (u : Ty) × (is_number u ≡ true) × (is_number t ≡ true) × (t ≡ with_width (lane_width t) u) × Converts op nneg (lane_width u) (lane_width t)
    × (tys ≡ Some u ∷ [])
IsTyped ret Select t tys =
    (c : Ty) × (is_value t ≡ true) × ((c ≡ Int 1) ⊎ ((is_vector t ≡ true) × (c ≡ with_width 1 t))) × (tys ≡ Some c ∷ Some t ∷ Some t ∷ [])
IsTyped ret Extract t tys =
    (n w k : ℕ) × (is_vector (Row n w) ≡ true) × (is_width k ≡ true) × (t ≡ Int w) × (tys ≡ Some (Row n w) ∷ Some (Int k) ∷ [])
IsTyped ret Insert t tys =
    (n w k : ℕ) × (is_vector (Row n w) ≡ true) × (is_width k ≡ true) × (t ≡ Row n w) × (tys ≡ Some (Row n w) ∷ Some (Int w) ∷ Some (Int k) ∷ [])
IsTyped ret (Shuffle mask) t tys =
    (n w : ℕ) × (is_vector (Row n w) ≡ true) × (is_vector t ≡ true) × (t ≡ Row (length mask) w) × All (IsEntry (2 * n)) mask
    × (tys ≡ Some (Row n w) ∷ Some (Row n w) ∷ [])
IsTyped ret (Gep elem inbounds) t tys =
    (k : ℕ) × IsStep elem × (is_width k ≡ true) × (t ≡ Ptr) × ((tys ≡ Some Ptr ∷ Some (Int k) ∷ []) ⊎ HasTwoIndices elem k tys)
IsTyped ret (Load align) t tys = (is_stored t ≡ true) × IsAlign align × (tys ≡ Some Ptr ∷ [])
IsTyped ret (Store align) t tys = (is_stored t ≡ true) × IsAlign align × (tys ≡ Some t ∷ Some Ptr ∷ [])
IsTyped ret (Alloca elem align) t tys = IsElem elem × IsAlignIfAny align × (t ≡ Ptr) × (tys ≡ [])
IsTyped ret (Phi blocks) t tys = (is_value t ≡ true) × (length blocks ≡ length tys) × (0 < length tys) × All (λ u. u ≡ Some t) tys
IsTyped ret Ret t tys = (t ≡ Void) × (((ret ≡ Void) × (tys ≡ [])) ⊎ ((is_value ret ≡ true) × (tys ≡ Some ret ∷ [])))
IsTyped ret (Br to) t tys = (t ≡ Void) × (tys ≡ [])
IsTyped ret (CondBr first second) t tys = (t ≡ Void) × (tys ≡ Some (Int 1) ∷ [])
IsTyped ret (Switch other cases to) t tys =
    (w : ℕ) × (is_width w ≡ true) × (t ≡ Void) × (length cases ≡ length to) × All (IsCase w) cases × AllPairs (λ a b. a ≡ b → ⊥) cases
    × (tys ≡ Some (Int w) ∷ [])
IsTyped ret Unreachable t tys = (t ≡ Void) × (tys ≡ [])
IsTyped ret (Call site) t tys = length site.attrs ≡ length tys
