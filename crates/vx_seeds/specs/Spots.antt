-- What the code keeps of a store, read as the definition of regions has it.
use Rattle.std.specs.Prelude.{◌≡◌, cond, Option, None, Some, List, [], ◌∷◌, map}
use Rattle.ir_types.specs.declared.id.Id.{Id}
use Rattle.ir_types.specs.declared.inst.Inst.{Inst}
use Rattle.ir_types.specs.Formed.{is_scalar_store}
use Rattle.ir_types.specs.Typed.{is_scalar}
use Rattle.ir_types.specs.declared.op.Op.{Op}
use Rattle.ir_types.specs.declared.op.Op.TheVariants.{Store}
use Rattle.ir_types.specs.declared.opd.Opd.{Opd}
use Rattle.vx_view.specs.Answers.{find}
use Rattle.vx_view.specs.Addresses.{form_in}
use Rattle.vx_view.specs.Conflicts.{access_of, bytes_of}
use Rattle.vx_addr.specs.Parts.{as_form}
use Rattle.vx_serial.specs.Regions as region
use denote.Ref.{Bor}
use Rattle.vx_seeds.specs.declared.spot.Spot.{Spot}

abbrev pub as_spot : Spot → region.Spot
as_spot s = record { store = s.store; form = as_form s.form; size = s.size }

abbrev pub as_spots : List Spot → List region.Spot
as_spots ss = map as_spot ss

-- of an instruction of a block, if it may be in a region
abbrev pub spot_in : List Inst → Inst → List region.Spot
spot_in block i = cond (is_scalar_store i) (region.spot_by block i.id (access_of i)) []

-- an instruction of an id is in a block
abbrev pub IsThere : Id → List Inst → Type 0
IsThere x block = (i : Inst) × (find x block ≡ Some i)

-- ---- the pointer of a store of a scalar

abbrev pub stored_through : Op → List Opd → Option Opd
stored_through (Store align) (v ∷ p ∷ []) = Some p
stored_through _ _ = None

abbrev pub pointer_of : Inst → Option Opd
pointer_of i = cond (is_scalar i.ty) (stored_through i.op i.opds) None

-- a store through a pointer, as it is in a block
abbrev pub spot_at : List Inst → Inst → Opd → region.Spot
spot_at block i p = record { store = i.id; form = form_in block p; size = bytes_of i.ty }

abbrev pub spot_through : List Inst → Inst → Option Opd → List region.Spot
spot_through block i None = []
spot_through block i (Some p) = spot_at block i p ∷ []

-- ---- stores that are held by reference

abbrev pub at : Bor Spot → region.Spot
at s = as_spot s.now

abbrev pub held : List (Bor Spot) → List region.Spot
held ss = map at ss

-- the first, if there is one
abbrev pub head : List region.Spot → Option region.Spot
head [] = None
head (s ∷ ss) = Some s

-- the one with the least constant, the first of those, if there is one
abbrev pub least_of : List region.Spot → Option region.Spot
least_of [] = None
least_of (s ∷ ss) = Some (region.least_from s ss)
